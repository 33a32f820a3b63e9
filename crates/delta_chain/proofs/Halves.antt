-- The merged changes of a list of runs are those of its two halves, merged: for the proof of the recursive merge.
use Rattle.std.specs.Prelude.{◌≡◌, ℕ, Bool, true, false, cond, List, [], ◌∷◌, ◌++◌, length, nat_eq, reverse, Option, Some, None, Result, Ok, Err, IfOk}
use Rattle.std.proofs.Common.{refl, sym, ap, ◌∙◌, eqb-true}
use Rattle.std.specs.Ordering.{is_eq}
use Rattle.std.proofs.lemmas.List.{nil_from_length, reverse-append}
use Rattle.keys.specs.Order.{order, IsRising}
use Rattle.keys.specs.OrderedMap.{value_at}
use Rattle.keys.proofs.MapLemmas.{same_map}
use Rattle.delta_chain.specs.Layers.{change_or, AllRise}
use Rattle.delta_chain.specs.Merging.{asserted, overlaid, joined_changes}
use Rattle.delta_chain.proofs.LayerLemmas.{value_at-with_run, rising-with_run}
use Rattle.delta_chain.proofs.Overlays.{rising-none, rising-asserted, rising-joined_changes}

module _ {V : Type 0} where
  -- what asserted changes say of a key, by what the changes say of it
  abbrev pub reported : Option (Option V) → Option (Option (Option V))
  reported None = None
  reported (Some o) = Some (Some o)

  reported_by : (b : Bool) (o : Option V) (rest : Option (Option V)) → cond b (Some (Some o)) (reported rest) ≡ reported (cond b (Some o) rest)
  reported_by true o rest = refl
  reported_by false o rest = refl

  value_at-asserted : (q : List ℕ) (run : List (List ℕ × Option V)) → value_at q (asserted run) ≡ reported (value_at q run)
  value_at-asserted q [] = refl
  value_at-asserted q (c ∷ cs) =
      ap (λ (t : Option (Option (Option V))). cond (is_eq (order q c.0)) (Some (Some c.1)) t) (value_at-asserted q cs) ∙ reported_by (is_eq (order q c.0)) c.1 (value_at q cs)

  over_twice : (x a m : Option (Option V)) → change_or (reported (change_or (reported x) a)) m ≡ change_or (reported x) (change_or (reported a) m)
  over_twice None a m = refl
  over_twice (Some o) a m = refl

  over_none : (x : Option (Option V)) → change_or (reported x) None ≡ x
  over_none None = refl
  over_none (Some o) = refl

  -- changes laid over others say of a key what they say of it, else what the others say
  pub value_at-overlaid : (older newer : List (List ℕ × Option V)) (q : List ℕ) → IsRising older → IsRising newer
      → value_at q (overlaid older newer) ≡ change_or (reported (value_at q newer)) (value_at q older)
  value_at-overlaid older newer q r s =
      value_at-with_run older (asserted newer) q r (rising-asserted newer s) ∙ ap (λ (t : Option (Option (Option V))). change_or t (value_at q older)) (value_at-asserted q newer)

  pub all_rise-append : (xs ys : List (List (List ℕ × Option V))) → AllRise {V = V} xs [] → AllRise {V = V} ys [] → AllRise {V = V} (xs ++ ys) []
  all_rise-append [] ys a b = b
  all_rise-append (x ∷ xs) ys a b = (a.0, all_rise-append xs ys a.1 b)

  pub rising-together : (xs : List (List (List ℕ × Option V))) → AllRise {V = V} xs [] → IsRising (joined_changes xs)
  rising-together xs a = rising-joined_changes xs [] a

  at_parts : (xs ys : List (List (List ℕ × Option V))) (q : List ℕ) → AllRise {V = V} xs [] → AllRise {V = V} ys []
      → value_at q (joined_changes (xs ++ ys)) ≡ change_or (reported (value_at q (joined_changes xs))) (value_at q (joined_changes ys))
  at_parts [] ys q a b = refl
  at_parts (x ∷ xs) ys q a b =
      value_at-overlaid (joined_changes (xs ++ ys)) x q (rising-together (xs ++ ys) (all_rise-append xs ys a.1 b)) a.0
      ∙ ap (λ (t : Option (Option V)). change_or (reported (value_at q x)) t) (at_parts xs ys q a.1 b)
      ∙ sym (over_twice (value_at q x) (value_at q (joined_changes xs)) (value_at q (joined_changes ys)))
      ∙ ap (λ (t : Option (Option V)). change_or (reported t) (value_at q (joined_changes ys))) (sym (value_at-overlaid (joined_changes xs) x q (rising-together xs a.1) a.0))

  -- what newer runs say together, over what older ones say together, is what all of them say
  pub joined_changes-append : (xs ys : List (List (List ℕ × Option V))) → AllRise {V = V} xs [] → AllRise {V = V} ys [] → overlaid (joined_changes ys) (joined_changes xs) ≡ joined_changes (xs ++ ys)
  joined_changes-append xs ys a b =
      same_map (overlaid (joined_changes ys) (joined_changes xs)) (joined_changes (xs ++ ys)) (rising-with_run (joined_changes ys) (asserted (joined_changes xs)) (rising-together ys b)) (rising-together (xs ++ ys) (all_rise-append xs ys a b))
      (λ q. value_at-overlaid (joined_changes ys) (joined_changes xs) q (rising-together ys b) (rising-together xs a) ∙ sym (at_parts xs ys q a b))

  -- one run says what it says
  pub joined_changes-one : (run : List (List ℕ × Option V)) → IsRising run → run ≡ joined_changes (run ∷ [])
  joined_changes-one run r =
      same_map run (overlaid [] run) r (rising-with_run [] (asserted run) (rising-none (Option V)))
      (λ q. sym (value_at-overlaid [] run q (rising-none (Option V)) r ∙ over_none (value_at q run)))

  -- ---- the same of the runs as they are kept, the oldest first

  pub all_rise-halves : (runs older newer : List (List (List ℕ × Option V))) → runs ≡ older ++ newer → AllRise {V = V} (reverse older) [] → AllRise {V = V} (reverse newer) [] → AllRise {V = V} (reverse runs) []
  all_rise-halves runs older newer h a b = rw (h, reverse-append) (all_rise-append (reverse newer) (reverse older) b a)

  pub joined_changes-halves : (runs older newer : List (List (List ℕ × Option V))) → runs ≡ older ++ newer → AllRise {V = V} (reverse older) [] → AllRise {V = V} (reverse newer) []
      → overlaid (joined_changes (reverse older)) (joined_changes (reverse newer)) ≡ joined_changes (reverse runs)
  joined_changes-halves runs older newer h a b = rw (h, reverse-append) (joined_changes-append (reverse newer) (reverse older) b a)

  alone : (runs others : List (List (List ℕ × Option V))) (run : List (List ℕ × Option V)) → runs ≡ others ++ run ∷ [] → nat_eq (length others) 0 ≡ true → runs ≡ run ∷ []
  alone runs others run h e = h ∙ ap (λ (rs : List (List (List ℕ × Option V))). rs ++ run ∷ []) (nil_from_length others (eqb-true (length others) 0 e))

  pub all_rise-none : (runs : List (List (List ℕ × Option V))) → length runs ≡ 0 → AllRise {V = V} (reverse runs) []
  all_rise-none runs h = rw (nil_from_length runs h) (rising-none V)

  pub all_rise-one : (runs others : List (List (List ℕ × Option V))) (run : List (List ℕ × Option V)) → runs ≡ others ++ run ∷ [] → nat_eq (length others) 0 ≡ true → IsRising run → AllRise {V = V} (reverse runs) []
  all_rise-one runs others run h e r = rw (alone runs others run h e) (r, rising-none V)

  pub joined_changes-alone : (runs others : List (List (List ℕ × Option V))) (run : List (List ℕ × Option V)) → runs ≡ others ++ run ∷ [] → nat_eq (length others) 0 ≡ true → IsRising run → run ≡ joined_changes (reverse runs)
  joined_changes-alone runs others run h e r = rw (alone runs others run h e) (joined_changes-one run r)

-- what always holds also holds of the result
pub anyhow : {T E : Type 0} (X : Type 0) (r : Result T E) → X → IfOk r (λ _. X)
anyhow X (Ok v) x = x
anyhow X (Err e) x = tt
