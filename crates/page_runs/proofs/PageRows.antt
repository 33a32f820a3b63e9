-- One pass in key order over a page and the changes to it: for the proofs of this crate.
use Rattle.std.specs.Prelude.{◌≡◌, ℕ, Bool, false, not, cond, ◌&&◌, List, [], ◌∷◌, Option, Some, None, MatchOption}
use Rattle.std.proofs.Common.{refl, sym, ap, ◌∙◌, Ordering, Less, Equal, Greater}
use Rattle.std.specs.List.{filter}
use Rattle.std.specs.List.Sorted.{IsStrictlySortedBy}
use Rattle.std.specs.Map.{keys_of}
use Rattle.std.proofs.lemmas.Map.Keys.{sorted_tail}
use Rattle.std.specs.Ordering.{is_le}
use Rattle.keys.specs.Order.{order, IsRising}
use Rattle.keys.specs.Range.{is_below, is_within, in_range}
use Rattle.keys.proofs.MapLemmas.{total, same_key, flipped_less, flipped_greater}
use Rattle.keys.proofs.RangeLemmas.{rising-filtered}
use Rattle.delta_chain.specs.Layers.{Layers, entries_of, IsInOrder}
use Rattle.delta_chain.specs.Merging.{first_order, asserted}
use Rattle.delta_chain.proofs.LayerLemmas.{rising-with_run, rising-entries_of}
use Rattle.scan.specs.Leaf.{from}
use Rattle.delta_chain.proofs.Merges.{first_stays, first_goes, change_stays}
use Rattle.delta_chain.proofs.Overlays.{rising-asserted}
use Rattle.index_page.specs.Page.{as_changes}
use Rattle.page_runs.specs.PageRows.{ahead, named_by_either}

-- ---- the part of a map from a key on

part_by : (o : Ordering) (low k : List ℕ) → order low k ≡ o → (is_le o && not false) ≡ is_within low None k
part_by Less low k h = rw (flipped_less low k h) refl
part_by Equal low k h = rw (total.antisymm k low, h) refl
part_by Greater low k h = rw (flipped_greater low k h) refl

module _ {V : Type 0} where
  pub part_from : (low : List ℕ) (es : List (List ℕ × V)) → filter (λ e. is_le (order low e.0) && not false) es ≡ in_range low None es
  part_from low [] = refl
  part_from low (e ∷ es) =
      ap (λ (b : Bool). cond b (e ∷ filter (λ f. is_le (order low f.0) && not false) es) (filter (λ f. is_le (order low f.0) && not false) es)) (part_by (order low e.0) low e.0 refl)
      ∙ ap (λ (fs : List (List ℕ × V)). cond (is_within low None e.0) (e ∷ fs) fs) (part_from low es)

  pub rising-in_range : (low : List ℕ) (end : Option (List ℕ)) (es : List (List ℕ × V)) → IsRising es → IsRising (in_range low end es)
  rising-in_range low end es r = rising-filtered (λ e. is_within low end e.0) es r

-- ---- the next element of a walk

module _ {L X : Type 0} (shows : L → X) where
  pub next_ahead : (r : Option L) (old new : List X) → MatchOption r ((old ≡ []) × (new ≡ [])) (λ x. old ≡ shows x ∷ new) → ahead shows r new ≡ old
  next_ahead None old new h = sym h.0
  next_ahead (Some x) old new h = sym h

module _ {L V : Type 0} (shows : L → List ℕ × V) where
  pub rising_next : (o : Option L) (x : L) (r : Option L) (old new : List (List ℕ × V)) → o ≡ Some x → IsRising (ahead shows o old) → MatchOption r ((old ≡ []) × (new ≡ [])) (λ x. old ≡ shows x ∷ new) → IsRising (ahead shows r new)
  rising_next None x r old new e i h = absurd (cc)
  rising_next (Some y) x r old new e i h = rw (next_ahead shows r old new h) (sorted_tail order (shows y).0 (keys_of old) i)

-- ---- the keys of pairs and changes

module _ {V : Type 0} where
  keys_of-as_changes : (ps : List (List ℕ × V)) → keys_of (as_changes ps) ≡ keys_of ps
  keys_of-as_changes [] = refl
  keys_of-as_changes (p ∷ ps) = ap (λ (ks : List (List ℕ)). p.0 ∷ ks) (keys_of-as_changes ps)

  pub rising-as_changes : (ps : List (List ℕ × V)) → IsRising ps → IsRising (as_changes ps)
  rising-as_changes ps r = rw (keys_of-as_changes ps) r

  pub named_by_either-less : (p : List ℕ × V) (ps : List (List ℕ × V)) (c : List ℕ × Option V) (cs : List (List ℕ × Option V)) → IsRising (c ∷ cs) → order p.0 c.0 ≡ Less → named_by_either (p ∷ ps) (c ∷ cs) ≡ (p.0, Some p.1) ∷ named_by_either ps (c ∷ cs)
  named_by_either-less p ps c cs r h = first_stays (p.0, Some p.1) (as_changes ps) (c.0, Some c.1) (asserted cs) (rising-asserted (c ∷ cs) r) h

  pub named_by_either-change : (ps : List (List ℕ × V)) (c : List ℕ × Option V) (cs : List (List ℕ × Option V)) → IsRising ps → IsRising (c ∷ cs) → first_order (as_changes ps) c.0 ≡ Greater → named_by_either ps (c ∷ cs) ≡ c ∷ named_by_either ps cs
  named_by_either-change ps c cs r s h = change_stays (as_changes ps) (c.0, Some c.1) (asserted cs) (rising-as_changes ps r) (rising-asserted (c ∷ cs) s) h

  second_above : (p : List ℕ × V) (ps : List (List ℕ × V)) (k : List ℕ) → IsRising (p ∷ ps) → order p.0 k ≡ Equal → first_order (as_changes ps) k ≡ Greater
  unfolding IsStrictlySortedBy
  second_above p [] k r h = refl
  second_above p (q ∷ ps) k r h = let s : p.0 ≡ k = same_key p.0 k h in rw (← s) (flipped_less p.0 q.0 (r.0).0)

  pub named_by_either-equal : (p : List ℕ × V) (ps : List (List ℕ × V)) (c : List ℕ × Option V) (cs : List (List ℕ × Option V)) → IsRising (p ∷ ps) → IsRising (c ∷ cs) → order p.0 c.0 ≡ Equal → named_by_either (p ∷ ps) (c ∷ cs) ≡ c ∷ named_by_either ps cs
  named_by_either-equal p ps c cs r s h =
      first_goes (p.0, Some p.1) (as_changes ps) (c.0, Some c.1) (asserted cs) (rising-as_changes (p ∷ ps) r) h
      ∙ named_by_either-change ps c cs (sorted_tail order p.0 (keys_of ps) r) s (second_above p ps c.0 r h)

  pub rising-named_by_either : (ps : List (List ℕ × V)) (cs : List (List ℕ × Option V)) → IsRising ps → IsRising (named_by_either ps cs)
  rising-named_by_either ps cs r = rising-with_run (as_changes ps) (asserted cs) (rising-as_changes ps r)

  pub rising-from : (low : List ℕ) (p : Layers V) → IsInOrder p → IsRising (from low (entries_of p))
  rising-from low p a = rising-filtered (λ e. not (is_below e.0 low)) (entries_of p) (rising-entries_of p a)

-- ---- a step of the walk over both

module _ {L M V : Type 0} (shows : L → List ℕ × V) (says : M → List ℕ × Option V) where
  abbrev Next : {K X : Type 0} → (K → X) → Option K → List X → List X → Type 0
  Next view r old new = MatchOption r ((old ≡ []) × (new ≡ [])) (λ x. old ≡ view x ∷ new)

  pub less_step : (o : Option L) (q : Option M) (p : L) (c : M) (r : Option L) (ps ps' : List (List ℕ × V)) (cs : List (List ℕ × Option V)) → o ≡ Some p → q ≡ Some c → IsRising (ahead says q cs) → order (shows p).0 (says c).0 ≡ Less → Next shows r ps ps'
      → named_by_either (ahead shows o ps) (ahead says q cs) ≡ ((shows p).0, Some (shows p).1) ∷ named_by_either (ahead shows r ps') (ahead says q cs)
  less_step o q p c r ps ps' cs f g i h n =
      rw (f, g, next_ahead shows r ps ps' n) (named_by_either-less (shows p) ps (says c) cs (rw g at i) h)

  pub greater_step : (o : Option L) (q : Option M) (p : L) (c : M) (r : Option M) (ps : List (List ℕ × V)) (cs cs' : List (List ℕ × Option V)) → o ≡ Some p → q ≡ Some c → IsRising (ahead shows o ps) → IsRising (ahead says q cs) → order (shows p).0 (says c).0 ≡ Greater → Next says r cs cs'
      → named_by_either (ahead shows o ps) (ahead says q cs) ≡ says c ∷ named_by_either (ahead shows o ps) (ahead says r cs')
  greater_step o q p c r ps cs cs' f g i j h n =
      rw (f, g, next_ahead says r cs cs' n) (named_by_either-change (shows p ∷ ps) (says c) cs (rw f at i) (rw g at j) h)

  pub equal_step : (o : Option L) (q : Option M) (p : L) (c : M) (r : Option L) (s : Option M) (ps ps' : List (List ℕ × V)) (cs cs' : List (List ℕ × Option V)) → o ≡ Some p → q ≡ Some c → IsRising (ahead shows o ps) → IsRising (ahead says q cs) → order (shows p).0 (says c).0 ≡ Equal → Next shows r ps ps' → Next says s cs cs'
      → named_by_either (ahead shows o ps) (ahead says q cs) ≡ says c ∷ named_by_either (ahead shows r ps') (ahead says s cs')
  equal_step o q p c r s ps ps' cs cs' f g i j h m n =
      rw (f, g, next_ahead shows r ps ps' m, next_ahead says s cs cs' n) (named_by_either-equal (shows p) ps (says c) cs (rw f at i) (rw g at j) h)

  pub change_alone : (o : Option L) (q : Option M) (c : M) (r : Option M) (ps : List (List ℕ × V)) (cs cs' : List (List ℕ × Option V)) → o ≡ None → q ≡ Some c → IsRising (ahead says q cs) → Next says r cs cs'
      → named_by_either (ahead shows o ps) (ahead says q cs) ≡ says c ∷ named_by_either (ahead shows o ps) (ahead says r cs')
  unfolding IsStrictlySortedBy
  change_alone o q c r ps cs cs' f g i n =
      rw (f, g, next_ahead says r cs cs' n) (named_by_either-change [] (says c) cs tt (rw g at i) refl)
