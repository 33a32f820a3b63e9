-- The cost of one pass over all runs and the base, and that of several passes.
use Rattle.std.specs.Prelude.{◌≡◌, ℕ, suc, ◌+◌, ◌*◌, ◌≤◌, ◌&&◌, Bool, true, false, cond, List, [], ◌∷◌, length, slice_get, Option, Some, None, is_some, min}
use Rattle.std.proofs.Common.{refl, sym, ap, ◌∙◌, arith, Ordering, Less, Equal, Greater, inl, inr}
use Rattle.std.specs.Option.{option_map, option_or, is_none}
use Rattle.std.specs.Ordering.{is_lt, is_eq}
use Rattle.std.specs.Map.{keys_of}
use Rattle.std.proofs.Math.Nat.{mul-le-mul_right}
use Rattle.std.proofs.lemmas.Bool.{cases_lt}
use Rattle.std.proofs.lemmas.List.Sums.{sum_by-cons}
use Rattle.std.proofs.lemmas.Map.Entries.{length-keys_of}
use Rattle.std.proofs.lemmas.Map.Keys.{any_passes_from_place}
use Rattle.std.proofs.lemmas.Map.Made.{is_some-lookup}
use Rattle.keys.specs.Order.{order}
use Rattle.keys.specs.OrderedMap.{value_at}
use Rattle.keys.proofs.MapLemmas.{is_itself, passes_same, flipped_less}
use Rattle.delta_chain.specs.Layers.{Layers, change_or, holds, entries_of, AllRise, IsInOrder}
use Rattle.delta_chain.specs.Merging.{asserted, joined_changes}
use Rattle.delta_chain.proofs.LayerLemmas.{value_at-with_run}
use Rattle.delta_chain.proofs.Overlays.{rising-asserted, rising-joined_changes}
use Rattle.page_search.specs.Above.{above}
use Rattle.page_search.specs.Costs.{fewest_among, is_key_among, fewest_in, walk_most, walk_least, nearest_most, floor_most, above_most}
use Rattle.page_search.specs.Digits.{binary_digits}
use Rattle.page_search.specs.Floor.{floor}
use Rattle.page_search.specs.Nearest.{is_on, nearness, past, named_under, named_by, IsNearestWith, IsNearest, is_nearer_than, is_passed, count_passed}
use Rattle.page_search.specs.Places.{KeyGoesTo}
use Rattle.page_search.specs.declared.side.Side.{Side}
use Rattle.page_search.specs.declared.side.Side.TheVariants.{UpTo, Below, Above}
use Rattle.page_search.proofs.NearestLemmas.{nearness-same, nearness-flipped, nearness-past, not_past, past-on, itself_up_to, held-named}

-- ---- whether a search meets the key

none_among : (k : List ℕ) (ks : List (List ℕ)) → ((m : ℕ) (j : List ℕ) → slice_get ks m ≡ Some j → is_eq (order k j) ≡ false) → is_key_among k ks ≡ false
none_among k [] h = refl
none_among k (j ∷ ks) h = rw (h 0 j refl) (none_among k ks (λ m i p. h (suc m) i p))

is_key_among-there : (k : List ℕ) (ks : List (List ℕ)) (at : ℕ) → slice_get ks at ≡ Some k → is_key_among k ks ≡ true
is_key_among-there k ks at p = any_passes_from_place (λ j. is_eq (order k j)) ks at k p (is_itself k)

is_key_among-goes_to : (k : List ℕ) (ks : List (List ℕ)) (at : ℕ) → KeyGoesTo k ks at → is_key_among k ks ≡ false
is_key_among-goes_to k ks at g = none_among k ks (λ m j p.
    elim (cases_lt m at) [
      | inl l ↦ rw (flipped_less j k (g.below m j l p)) refl
      | inr l ↦ rw (g.above m j l p) refl
    ])

-- the least cost of a search, if it finds the key, and if it doesn't
pub least_there : (k : List ℕ) (ks : List (List ℕ)) (at before after stop : ℕ) → slice_get ks at ≡ Some k → min (before + fewest_among true (length ks)) stop ≤ after → min (before + fewest_among (is_key_among k ks) (length ks)) stop ≤ after
least_there k ks at before after stop p h = rw (is_key_among-there k ks at p) h

pub least_apart : (k : List ℕ) (ks : List (List ℕ)) (at before after stop : ℕ) → KeyGoesTo k ks at → min (before + fewest_among false (length ks)) stop ≤ after → min (before + fewest_among (is_key_among k ks) (length ks)) stop ≤ after
least_apart k ks at before after stop g h = rw (is_key_among-goes_to k ks at g) h

-- ---- one walk

among : {V : Type 0} (k : List ℕ) (es : List (List ℕ × V)) → fewest_among (is_key_among k (keys_of es)) (length (keys_of es)) ≡ fewest_in k es
among k es = rw (length-keys_of, is_some-lookup (λ j. is_eq (order k j)) es) refl

module _ {V : Type 0} (k : List ℕ) where
  -- a search in the base alone
  pub least_of_base : (base : List (List ℕ × V)) (before after stop : ℕ) → min (before + fewest_among (is_key_among k (keys_of base)) (length (keys_of base))) stop ≤ after → min (before + walk_least k (record { runs = []; base = base })) stop ≤ after
  least_of_base base before after stop h = omega (arith, among k base)

  -- a search in a run too, after a pass over the lists below it
  pub least_with_run : (run : List (List ℕ × Option V)) (runs : List (List (List ℕ × Option V))) (base : List (List ℕ × V)) (before between after stop : ℕ) → min (before + walk_least k (record { runs = runs; base = base })) stop ≤ between → min (between + fewest_among (is_key_among k (keys_of run)) (length (keys_of run))) stop ≤ after → min (before + walk_least k (record { runs = run ∷ runs; base = base })) stop ≤ after
  least_with_run run runs base before between after stop p q = omega (arith, among k run, sum_by-cons (λ es. fewest_in k es) run runs)

module _ {V : Type 0} where
  pub most_of_base : (base : List (List ℕ × V)) (before after : ℕ) → after ≤ before + binary_digits (length (keys_of base)) → after ≤ before + walk_most (record { runs = []; base = base })
  most_of_base base before after h = omega (arith, ap binary_digits (length-keys_of base))

  -- and then a comparison, or none
  pub most_with_run : (run : List (List ℕ × Option V)) (runs : List (List (List ℕ × Option V))) (base : List (List ℕ × V)) (before between searched after : ℕ) → between ≤ before + walk_most (record { runs = runs; base = base }) → searched ≤ between + binary_digits (length (keys_of run)) → after ≤ searched + 1 → after ≤ before + walk_most (record { runs = run ∷ runs; base = base })
  most_with_run run runs base before between searched after p q r = omega (arith, ap binary_digits (length-keys_of run), sum_by-cons (λ es. binary_digits (length es) + 1) run runs)

-- ---- the merged changes of the runs determine the page, except for keys that only the base contains

module _ {V : Type 0} where
  asserted_by : (b : Bool) (o : Option V) (here : Option (Option (Option V))) (rest : Option (Option V)) → here ≡ option_map Some rest → cond b (Some (Some o)) here ≡ option_map Some (cond b (Some o) rest)
  asserted_by true o here rest h = refl
  asserted_by false o here rest h = h

  value_at-asserted : (q : List ℕ) (run : List (List ℕ × Option V)) → value_at q (asserted run) ≡ option_map Some (value_at q run)
  value_at-asserted q [] = refl
  value_at-asserted q (c ∷ cs) = asserted_by (is_eq (order q c.0)) c.1 (value_at q (asserted cs)) (value_at q cs) (value_at-asserted q cs)

  over_by : (o older below : Option (Option V)) → option_or o (option_or older below) ≡ option_or (change_or (option_map Some o) older) below
  over_by None older below = refl
  over_by (Some c) older below = refl

  named-joined_changes : (q : List ℕ) (runs : List (List (List ℕ × Option V))) (base : List (List ℕ × V)) → AllRise runs base → named_under q runs base ≡ option_or (value_at q (joined_changes runs)) (option_map Some (value_at q base))
  named-joined_changes q [] base r = refl
  named-joined_changes q (run ∷ runs) base r =
      let said = value_at-with_run (joined_changes runs) (asserted run) q (rising-joined_changes runs base r.1) (rising-asserted run r.0) in
      rw (named-joined_changes q runs base r.1, said, value_at-asserted q run) (over_by (value_at q run) (value_at q (joined_changes runs)) (option_map Some (value_at q base)))

  absent_by : (o : Option (Option V)) (b : Option V) → option_or o (option_map Some b) ≡ Some None → o ≡ Some None
  absent_by None None h = absurd (cc)
  absent_by None (Some v) h = absurd (cc)
  absent_by (Some c) b h = h

  -- the base has no absent key
  said_absent : (j : List ℕ) (p : Layers V) → IsInOrder p → named_by p j ≡ Some None → value_at j (joined_changes p.runs) ≡ Some None
  said_absent j p r h = absent_by (value_at j (joined_changes p.runs)) (value_at j p.base) (sym (named-joined_changes j p.runs p.base r) ∙ h)

-- ---- past an absent key, fewer absent keys lie before the entry

module _ {V : Type 0} (s : Side) (k j : List ℕ) (x : Option (List ℕ × V)) (o : is_on s k j ≡ true) where
  nearer_alike : (y : Option (List ℕ × V)) (i : List ℕ) → is_nearer_than (past s) y i ≡ is_nearer_than s y i
  nearer_alike None i = refl
  nearer_alike (Some e) i = ap is_lt (sym (nearness-past s e.0 i))

  passed_by : (a b c d e : Bool) → (b ≡ true → c ≡ true) → d ≡ e → cond (a && (b && d)) 1 0 ≤ cond (a && (c && e)) 1 0
  passed_by true true c d e h q = rw (h refl, q) (omega arith)
  passed_by true false c d e h q = omega arith
  passed_by false b c d e h q = omega arith

  passed_at : (c : List ℕ × Option V) → cond (is_passed (past s) j x c) 1 0 ≤ cond (is_passed s k x c) 1 0
  passed_at c = passed_by (is_none c.1) (is_on (past s) j c.0) (is_on s k c.0) (is_nearer_than (past s) x c.0) (is_nearer_than s x c.0) (past-on s k j c.0 o) (nearer_alike x c.0)

  passed-cons : (t : Side) (i : List ℕ) (c : List ℕ × Option V) (cs : List (List ℕ × Option V)) → count_passed t i x (c ∷ cs) ≡ cond (is_passed t i x c) 1 0 + count_passed t i x cs
  passed-cons t i c cs = sum_by-cons (λ d. cond (is_passed t i x d) 1 0) c cs

  no_more_passed : (cs : List (List ℕ × Option V)) → count_passed (past s) j x cs ≤ count_passed s k x cs
  no_more_passed [] = omega arith
  no_more_passed (c ∷ cs) =
      let here = passed_at c in
      let rest = no_more_passed cs in
      omega (arith, passed-cons (past s) j c cs, passed-cons s k c cs)

  fewer_by : (b : Bool) (c : List ℕ × Option V) (cs : List (List ℕ × Option V)) → is_nearer_than s x j ≡ true → is_eq (order j c.0) ≡ b → cond b (Some c.1) (value_at j cs) ≡ Some None
      → (value_at j cs ≡ Some None → count_passed (past s) j x cs + 1 ≤ count_passed s k x cs) → count_passed (past s) j x (c ∷ cs) + 1 ≤ count_passed s k x (c ∷ cs)
  fewer_by true c cs b e h ih =
      let same : j ≡ c.0 = passes_same j c.0 e in
      let absent : c.1 ≡ None = cc in
      let now : is_passed s k x c ≡ true = rw (absent, ← same, o, b) refl in
      let later : is_passed (past s) j x c ≡ false = rw (absent, ← same, not_past s j) refl in
      let rest = no_more_passed cs in
      rw (passed-cons (past s) j c cs, passed-cons s k c cs, now, later) (omega arith)
  fewer_by false c cs b e h ih =
      let here = passed_at c in
      let rest = ih h in
      omega (arith, passed-cons (past s) j c cs, passed-cons s k c cs)

  fewer_passed : (cs : List (List ℕ × Option V)) → is_nearer_than s x j ≡ true → value_at j cs ≡ Some None → count_passed (past s) j x cs + 1 ≤ count_passed s k x cs
  fewer_passed [] b h = absurd (cc)
  fewer_passed (c ∷ cs) b h = fewer_by (is_eq (order j c.0)) c cs b refl h (λ t. fewer_passed cs b t)

-- a key is nearer than each that lies past it
nearer_past : {T : Type 0} (s : Side) (j : List ℕ) (at : List ℕ → Option T) (x : Option (List ℕ × T)) → IsNearest (past s) j at x → is_nearer_than s x j ≡ true
nearer_past s j at None n = refl
nearer_past UpTo j at (Some e) n = n.on
nearer_past Below j at (Some e) n = n.on
nearer_past Above j at (Some e) n = n.on

-- ---- several walks

more_by : (before between after more fewer walk : ℕ) → between + more * walk ≤ before → after ≤ between + walk → fewer + 1 ≤ more → after + fewer * walk ≤ before
more_by before between after more fewer walk p q h = omega (arith, mul-le-mul_right {m = fewer + 1} {n = more} walk h)

end_by : (before between after more all walk : ℕ) → between + more * walk ≤ before + all * walk → after ≤ between + walk → after ≤ before + (1 + all) * walk
end_by before between after more all walk p q = omega arith

module _ {V : Type 0} (first s : Side) (key k : List ℕ) (p : Layers V) (before between after : ℕ) (w : after ≤ between + walk_most p) where
  -- a pass that finds a deleted key costs at most what the whole search may cost for that key
  pub most_past : (j : List ℕ) (x : Option (List ℕ × V)) → IsInOrder p → IsNearest s k (named_by p) (Some (j, None)) → IsNearest (past s) j (holds p) x
      → between + count_passed s k x (joined_changes p.runs) * walk_most p ≤ before + count_passed first key x (joined_changes p.runs) * walk_most p
      → after + count_passed (past s) j x (joined_changes p.runs) * walk_most p ≤ before + count_passed first key x (joined_changes p.runs) * walk_most p
  most_past j x r n f h =
      let fewer = fewer_passed s k j x n.on (joined_changes p.runs) (nearer_past s j (holds p) x f) (said_absent j p r n.has) in
      more_by (before + count_passed first key x (joined_changes p.runs) * walk_most p) between after (count_passed s k x (joined_changes p.runs)) (count_passed (past s) j x (joined_changes p.runs)) (walk_most p) h w fewer

  -- and so does the last walk
  pub most_end : (x : Option (List ℕ × V)) → between + count_passed s k x (joined_changes p.runs) * walk_most p ≤ before + count_passed first key x (joined_changes p.runs) * walk_most p → after ≤ before + nearest_most first key x p
  most_end x h = end_by before between after (count_passed s k x (joined_changes p.runs)) (count_passed first key x (joined_changes p.runs)) (walk_most p) h w

-- ---- the nearest key is one

module _ {T : Type 0} (s : Side) (k : List ℕ) (at : List ℕ → Option T) (j i : List ℕ) (a b : T) (n : IsNearestWith s k at j a) (m : IsNearestWith s k at i b) where
  once_by : (o : Ordering) → nearness s j i ≡ o → a ≡ b
  once_by Less h = absurd (let none = n.none_nearer i m.on h in let has = m.has in cc)
  once_by Equal h =
      let same = nearness-same s j i h in
      let one = n.has in
      let other = m.has in
      cc
  once_by Greater h = absurd (let none = m.none_nearer j n.on (nearness-flipped s j i h) in let has = n.has in cc)

  pub nearest-once : a ≡ b
  nearest-once = once_by (nearness s j i) refl

-- ---- where the page holds the key itself

module _ {V : Type 0} (k : List ℕ) (p : Layers V) where
  named_as_held : (o : Option (Option V)) (v : V) → change_or o None ≡ Some v → o ≡ Some (Some v)
  named_as_held None v h = absurd (cc)
  named_as_held (Some c) v h = ap (λ (t : Option V). Some t) h

  -- no key up to it is nearer
  itself_nearest : (v : V) → holds p k ≡ Some v → IsNearest UpTo k (named_by p) (Some (k, Some v))
  itself_nearest v h = record {
    on = itself_up_to k;
    has = named_as_held (named_by p k) v (sym (held-named k p.runs p.base) ∙ h);
    none_nearer = λ i o l. absurd (let wrong = rw l at o in cc);
  }

  held_by : (o : Option V) (before after : ℕ) → holds p k ≡ o → is_some o ≡ true → ((e : List ℕ × V) → IsNearest UpTo k (named_by p) (Some (e.0, Some e.1)) → after ≤ before) → after ≤ before
  held_by None before after h t f = absurd (cc)
  held_by (Some v) before after h t f = f (k, v) (itself_nearest v h)

  pub most_at_key : (before after : ℕ) → ((e : List ℕ × V) → IsNearest UpTo k (named_by p) (Some (e.0, Some e.1)) → after ≤ before) → is_some (holds p k) ≡ true → after ≤ before
  most_at_key before after f t = held_by (holds p k) before after refl t f

  -- ---- by the result

  pub floor_by : (x : Option (List ℕ × V)) (before after : ℕ) → x ≡ floor k (entries_of p) → after ≤ before + nearest_most UpTo k x p → after ≤ before + floor_most k p
  floor_by x before after e h = rw (← e) h

  pub above_by : (x : Option (List ℕ × V)) (before after : ℕ) → x ≡ above k (entries_of p) → after ≤ before + nearest_most Above k x p → after ≤ before + above_most k p
  above_by x before after e h = rw (← e) h
