-- Lemmas on the merge of a leaf's two lists in either direction. They describe a list by its values at keys, and by its pairs whose keys pass a test.
use Rattle.std.specs.Prelude.{◌≡◌, ◌<◌, ℕ, Bool, true, false, cond, List, [], ◌∷◌, length, Option, Some, None}
use Rattle.std.proofs.Common.{sym, ap, ◌∙◌, subst}
use Rattle.std.specs.List.{AllByRecursion}
use Rattle.keys.specs.Order.{IsRising}
use Rattle.keys.specs.OrderedMap.{value_at}
use Rattle.delta_chain.specs.Layers.{change_or, with_run}
use Rattle.delta_chain.specs.Merging.{pair_if}
use Rattle.delta_chain.proofs.LayerLemmas.{value_at-with_run, rising-with_run}
use Rattle.scan.specs.Direction.{precedes, IsNext, in_turn, after, until, BeginsWith}
use Rattle.scan.specs.Edge.{is_beyond, beyond}
use Rattle.scan.specs.Merge.{ArePairsNext, HasUntil}
use Rattle.scan.specs.declared.direction.Direction.{Direction}
use Rattle.scan.proofs.LastLemmas.{each, passes_all, none_passes}
use Rattle.scan.proofs.DirectionLemmas.{not_itself, nothing_first, next_in_turn, in_turn_next, never_empty, one_less, next_there, none_there, first_there, none_until_earlier, none_of, same_first, goes_before}
use Rattle.scan.proofs.PassingLemmas.{value_at-passing, passing-with_run}

abbrev Changes : Type 0 → Type 0
Changes V = List (List ℕ × Option V)

module _ {V : Type 0} (d : Direction) where
  -- ---- the base's next pair beside a key (`past`)

  pub past_equal : (k j : List ℕ) (v : V) (es rest : List (List ℕ × V)) → IsRising es → IsNext d es (j, v) rest → j ≡ k → (until d k es ≡ []) × (rest ≡ after d k es)
  past_equal k j v es rest r h e =
      let f = first_there d (j, v) es rest r h in
      (ap (λ (i : List ℕ). until d i es) (sym e) ∙ f.none_before, sym f.others ∙ ap (λ (i : List ℕ). after d i es) e)

  -- if the key comes before the next pair's key, it comes before all keys
  pub past_later : (k j : List ℕ) (v : V) (es rest : List (List ℕ × V)) → IsRising es → IsNext d es (j, v) rest → precedes d k j ≡ true → (until d k es ≡ []) × (es ≡ after d k es)
  past_later k j v es rest r h p =
      let f = first_there d (j, v) es rest r h in
      let absent : value_at k es ≡ None =
      sym (ap (λ (t : Bool). cond t (value_at k es) None) p) ∙ sym (value_at-passing (λ i. precedes d i j) es k) ∙ ap (λ (x : List (List ℕ × V)). value_at k x) f.none_before in
      let none = none_until_earlier d k j es p f.none_before in
      (none, none_there d k es r absent none)

  pub past_before : (k j : List ℕ) (v : V) (es rest : List (List ℕ × V)) → IsNext d es (j, v) rest → precedes d j k ≡ true → HasUntil d k es
  past_before k j v es rest h p = record { first = (j, v); begins = record { rest = rest; parts = h }; before = p }

  -- ---- the steps of the merge

  -- at the start, the remaining entries of both lists together are the entries beyond the edge
  pub merge_starts : (under : List ℕ → Bool) (es left : List (List ℕ × V)) (cs changes : Changes V) → IsRising es → IsRising cs → left ≡ beyond d under es → changes ≡ beyond d under cs → with_run left changes ≡ beyond d under (with_run es cs)
  merge_starts under es left cs changes r s n h =
      ap (λ (x : List (List ℕ × V)). with_run x changes) n
      ∙ ap (λ (x : Changes V). with_run (beyond d under es) x) h
      ∙ sym (passing-with_run (λ j. is_beyond d under j) es cs r s)

  -- the entries of pairs with changes at a key, and after it, from those of each list
  module _ (k : List ℕ) (es : List (List ℕ × V)) (cs : Changes V) (r : IsRising es) (s : IsRising cs) (ne : until d k es ≡ []) (nc : until d k cs ≡ []) where
    none_before_both : until d k (with_run es cs) ≡ []
    none_before_both =
        passing-with_run (λ j. precedes d j k) es cs r s
        ∙ ap (λ (x : List (List ℕ × V)). with_run x (until d k cs)) ne ∙ ap (λ (x : Changes V). with_run [] x) nc

    after_both : after d k (with_run es cs) ≡ with_run (after d k es) (after d k cs)
    after_both = passing-with_run (λ j. precedes d k j) es cs r s

    step_by : (o : Option V) → value_at k (with_run es cs) ≡ o → with_run es cs ≡ in_turn d (pair_if k o) (with_run (after d k es) (after d k cs))
    step_by None h = none_there d k (with_run es cs) (rising-with_run es cs r) h none_before_both ∙ after_both ∙ sym (nothing_first d (with_run (after d k es) (after d k cs)))
    step_by (Some v) h =
        next_in_turn d (k, v) (with_run es cs) (after d k (with_run es cs)) (next_there d k v (with_run es cs) (rising-with_run es cs r) h none_before_both)
        ∙ ap (λ (x : List (List ℕ × V)). in_turn d ((k, v) ∷ []) x) after_both

    pub step_at : (o : Option V) → change_or (value_at k cs) (value_at k es) ≡ o → with_run es cs ≡ in_turn d (pair_if k o) (with_run (after d k es) (after d k cs))
    step_at o h = step_by o (value_at-with_run es cs k r s ∙ h)

  -- a change is removed
  pub change_taken : (k : List ℕ) (o : Option V) (es later : List (List ℕ × V)) (cs rest : Changes V) → IsRising es → IsRising cs → IsNext d cs (k, o) rest → until d k es ≡ [] → later ≡ after d k es
      → (with_run es cs ≡ in_turn d (pair_if k o) (with_run later rest)) × (length rest < length cs)
  change_taken k o es later cs rest r s h n b =
      let f = first_there d (k, o) cs rest s h in
      let said : change_or (value_at k cs) (value_at k es) ≡ o = ap (λ (x : Option (Option V)). change_or x (value_at k es)) f.value in (
        step_at k es cs r s n f.none_before o said
            ∙ ap (λ (x : Changes V). in_turn d (pair_if k o) (with_run (after d k es) x)) f.others
            ∙ ap (λ (x : List (List ℕ × V)). in_turn d (pair_if k o) (with_run x rest)) (sym b),
        one_less d (k, o) cs rest h,
      )

  -- a pair of the base is removed, before which no change comes
  pub pair_taken : (k : List ℕ) (v : V) (es rest : List (List ℕ × V)) (cs : Changes V) → IsRising es → IsRising cs → IsNext d es (k, v) rest → ArePairsNext d cs es → IsNext d (with_run es cs) (k, v) (with_run rest cs)
  pair_taken k v es rest cs r s h a =
      let f = first_there d (k, v) es rest r h in
      let later : AllByRecursion (λ c. precedes d k c.0 ≡ true) cs = a.none_until (k, v) (record { rest = rest; parts = h }) in
      let all : after d k cs ≡ cs = passes_all (λ (c : List ℕ × Option V). precedes d k c.0) cs later in
      let none : until d k cs ≡ [] = none_of d k cs later in
      let absent : value_at k cs ≡ None =
      ap (λ (x : Changes V). value_at k x) (sym all) ∙ value_at-passing (λ j. precedes d k j) cs k ∙ ap (λ (t : Bool). cond t (value_at k cs) None) (not_itself d k) in
      let said : change_or (value_at k cs) (value_at k es) ≡ Some v = ap (λ (x : Option (Option V)). change_or x (value_at k es)) absent ∙ f.value in
      in_turn_next d (k, v) (with_run es cs) (with_run rest cs)
      (step_at k es cs r s f.none_before none (Some v) said
      ∙ ap (λ (x : List (List ℕ × V)). in_turn d ((k, v) ∷ []) (with_run x (after d k cs))) f.others
      ∙ ap (λ (x : Changes V). in_turn d ((k, v) ∷ []) (with_run rest x)) all)

  pub nothing_taken : (es : List (List ℕ × V)) (cs : Changes V) → es ≡ [] → ArePairsNext d cs es → with_run es cs ≡ []
  nothing_taken es cs e a = ap (λ (x : List (List ℕ × V)). with_run x cs) e ∙ ap (λ (x : Changes V). with_run [] x) (a.none e)

  -- without changes, a pair comes next
  pub no_change_next : (cs : Changes V) (es : List (List ℕ × V)) → cs ≡ [] → ArePairsNext d cs es
  no_change_next cs es e = record {
    none = λ q. e;
    none_until = λ f b. subst (λ (x : Changes V). AllByRecursion (λ c. precedes d f.0 c.0 ≡ true) x) (sym e) tt;
  }

  -- if a pair comes before the next change, all changes come after the next pair
  pub pairs_are_next : (k : List ℕ) (o : Option V) (cs rest : Changes V) (es : List (List ℕ × V)) → IsRising es → IsRising cs → IsNext d cs (k, o) rest → HasUntil d k es → ArePairsNext d cs es
  pairs_are_next k o cs rest es r s h u = record {
    none = λ e. absurd (never_empty d u.first u.begins.rest (subst (λ (x : List (List ℕ × V)). IsNext d x u.first u.begins.rest) e u.begins.parts));
    none_until = λ e b. each (λ (c : List ℕ × Option V) (q : precedes d c.0 k ≡ false). goes_before d e.0 k c.0 (first_before e b) q) cs (none_passes (λ (c : List ℕ × Option V). precedes d c.0 k) cs (first_there d (k, o) cs rest s h).none_before);
  }
    where
      -- any next pair has the key of that pair
      first_before : (e : List ℕ × V) → BeginsWith d e es → precedes d e.0 k ≡ true
      first_before e b = subst (λ (j : List ℕ). precedes d j k ≡ true) (same_first d u.first e es u.begins.rest b.rest r u.begins.parts b.parts) u.before

-- ---- the next pair that is present

module _ {V : Type 0} (d : Direction) (k : List ℕ) (said : Option V) (old new whole : List (List ℕ × V)) (taken : old ≡ in_turn d (pair_if k said) new) (same : old ≡ whole) where
  -- a deletion yields no pair
  pub none_said : said ≡ None → new ≡ whole
  none_said h = sym (nothing_first d new) ∙ ap (λ (o : Option V). in_turn d (pair_if k o) new) (sym h) ∙ sym taken ∙ same

  pub some_said : (v : V) → said ≡ Some v → IsNext d whole (k, v) new
  some_said v h = in_turn_next d (k, v) whole new (sym same ∙ taken ∙ ap (λ (o : Option V). in_turn d (pair_if k o) new) h)
