-- Lemmas on the part of a level's pairs that one of its pages has, for the proofs of this crate and of those above it.
use Rattle.std.specs.Prelude.{◌≡◌, ℕ, Bool, true, false, cond, List, [], ◌∷◌, ◌++◌, Option, Some, None}
use Rattle.std.proofs.Common.{refl, sym, ap, ◌∙◌}
use Rattle.std.specs.List.{AllByRecursion, filter}
use Rattle.std.specs.Map.{keys_of}
use Rattle.std.specs.Ordering.{is_eq}
use Rattle.keys.specs.Order.{order}
use Rattle.keys.specs.OrderedMap.{value_at}
use Rattle.keys.specs.Range.{in_range}
use Rattle.keys.proofs.MapLemmas.{passes_same, same_map}
use Rattle.index_page.specs.Range.{is_below, is_before, is_within, AreFrom, AreBefore}
use Rattle.index_page.proofs.ChildLemmas.{within}
use Rattle.index_page.proofs.PageLemmas.{all_keys_entries}
use Rattle.index_page.proofs.RangeLemmas.{rising-filter}
use Rattle.mapping.specs.Levels.{Placed, entries, joined}
use Rattle.mapping.specs.Proper.{next_low, Tiled}
use Rattle.mapping.proofs.TileLemmas.{tiled_apart, rising-tile, rising-joined, value_at-joined}

pub all_before : (end : Option (List ℕ)) (ks : List (List ℕ)) → AreBefore end ks → AllByRecursion (λ j. is_before end j ≡ true) ks
all_before None [] h = tt
all_before None (k ∷ ks) h = (refl, all_before None ks h)
all_before (Some hi) ks h = h

module _ {V : Type 0} where
  -- ---- what a filtered list has at a key

  passing_by : (b t u : Bool) (k : List ℕ) (e : List ℕ × V) (es rest : List (List ℕ × V)) → is_eq (order k e.0) ≡ t → (t ≡ true → u ≡ b) → value_at k rest ≡ cond u (value_at k es) None → value_at k (cond b (e ∷ rest) rest) ≡ cond u (value_at k (e ∷ es)) None
  passing_by true true true k e es rest h same ih = rw h refl
  passing_by true true false k e es rest h same ih = absurd (let f = same refl in cc)
  passing_by true false u k e es rest h same ih = rw h ih
  passing_by false true true k e es rest h same ih = absurd (let f = same refl in cc)
  passing_by false true false k e es rest h same ih = ih
  passing_by false false u k e es rest h same ih = rw h ih

  nothing_by : (b : Bool) → ◌≡◌ {A = Option V} None (cond b None None)
  nothing_by true = refl
  nothing_by false = refl

  -- of the pairs whose keys pass, what all of them have at a key that passes, and nothing at another
  pub value_at-passing : (test : List ℕ → Bool) (es : List (List ℕ × V)) (k : List ℕ) → value_at k (filter (λ e. test e.0) es) ≡ cond (test k) (value_at k es) None
  value_at-passing test [] k = nothing_by (test k)
  value_at-passing test (e ∷ es) k =
      passing_by (test e.0) (is_eq (order k e.0)) (test k) k e es (filter (λ e. test e.0) es) refl (λ h. ap test (passes_same k e.0 h)) (value_at-passing test es k)

  -- ---- a page of a level

  pub all_in_range : (low : List ℕ) (end : Option (List ℕ)) (es : List (List ℕ × V)) → AreFrom low (keys_of es) → AllByRecursion (λ j. is_before end j ≡ true) (keys_of es) → in_range low end es ≡ es
  all_in_range low end [] f b = refl
  all_in_range low end (e ∷ es) f b = let here = within low end e.0 f.0 b.0 in rw (here, all_in_range low end es f.1 b.1) refl

  same_if : (b : Bool) (o w : Option V) → (b ≡ true → o ≡ w) → cond b o None ≡ cond b w None
  same_if true o w h = h refl
  same_if false o w h = refl

  -- a page has the part of its level's pairs whose keys lie in its range
  pub part_of_level : (xs ys : List (Placed V)) (p : Placed V) → Tiled (xs ++ p ∷ ys) None → entries p ≡ in_range p.page.low (next_low ys None) (joined (xs ++ p ∷ ys))
  part_of_level xs ys p tiled =
      let end = next_low ys None in
      let all = joined (xs ++ p ∷ ys) in
      let tile = (tiled_apart xs (p ∷ ys) None tiled).1.0 in
      let inside : List ℕ × V → Bool = λ e. is_within p.page.low end e.0 in
      let from = all_keys_entries (λ j. is_below j p.page.low ≡ false) p.page tile.keys.from in
      let before = all_keys_entries (λ j. is_before end j ≡ true) p.page (all_before end _ tile.keys.before) in
      sym (all_in_range p.page.low end (entries p) from before)
      ∙ same_map (in_range p.page.low end (entries p)) (in_range p.page.low end all) (rising-filter inside (entries p) (rising-tile end p tile)) (rising-filter inside all (rising-joined (xs ++ p ∷ ys) None tiled))
      (λ k. value_at-passing (is_within p.page.low end) (entries p) k
      ∙ same_if (is_within p.page.low end k) (value_at k (entries p)) (value_at k all) (value_at-joined xs ys p None k tiled)
      ∙ sym (value_at-passing (is_within p.page.low end) all k))
