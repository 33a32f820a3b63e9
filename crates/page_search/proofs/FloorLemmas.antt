-- The last pair whose key isn't above a key is the nearest one up to that key.
use Rattle.std.specs.Prelude.{◌≡◌, ℕ, Bool, true, false, cond, not, List, [], ◌∷◌, Option, Some, None}
use Rattle.std.proofs.Common.{refl, sym, ap, ◌∙◌, Ordering, Less, Equal, Greater}
use Rattle.std.specs.Ordering.{is_lt, is_eq}
use Rattle.std.specs.Map.{keys_of}
use Rattle.std.proofs.lemmas.Map.{lookup-none}
use Rattle.std.proofs.lemmas.Map.Keys.{sorted_tail}
use Rattle.std.proofs.lemmas.Map.Entries.{none_below_head}
use Rattle.keys.specs.Order.{order, IsRising}
use Rattle.keys.specs.OrderedMap.{value_at}
use Rattle.keys.proofs.MapLemmas.{total, same_key, is_itself, flipped_greater, value_at_rest}
use Rattle.page_search.specs.Floor.{floor}
use Rattle.page_search.specs.Nearest.{is_on, IsNearestWith, IsNearest}
use Rattle.page_search.specs.declared.side.Side.TheVariants.{UpTo}

not_by : (b : Bool) → not b ≡ true → b ≡ false
not_by true h = absurd (cc)
not_by false h = refl

module _ {V : Type 0} where
  -- ---- what pairs hold nothing at

  pub held_not_none : (e : List ℕ × V) (es : List (List ℕ × V)) → value_at e.0 (e ∷ es) ≡ None → ⊥
  held_not_none e es h = let s : Some e.1 ≡ None = (rw (is_itself e.0) at h) in absurd (cc)

  rest_by : (b : Bool) (v : V) (o : Option V) → cond b (Some v) o ≡ None → o ≡ None
  rest_by true v o h = absurd (cc)
  rest_by false v o h = h

  pub nothing_in_rest : (i : List ℕ) (e : List ℕ × V) (es : List (List ℕ × V)) → value_at i (e ∷ es) ≡ None → value_at i es ≡ None
  nothing_in_rest i e es h = rest_by (is_eq (order i e.0)) e.1 (value_at i es) h

  -- a key below the first one is that of no pair
  pub below_first : (i : List ℕ) (e : List ℕ × V) (es : List (List ℕ × V)) → IsRising (e ∷ es) → order i e.0 ≡ Less → value_at i (e ∷ es) ≡ None
  below_first i e es r l = lookup-none (λ j. is_eq (order i j)) (e ∷ es) (none_below_head total i e es r l)

  -- what isn't above the first key is that of no later pair
  later_by : (o : Ordering) (i : List ℕ) (e : List ℕ × V) (es : List (List ℕ × V)) → order e.0 i ≡ o → IsRising (e ∷ es) → (o ≡ Less → value_at i (e ∷ es) ≡ None) → value_at i es ≡ None
  later_by Less i e es h r n = nothing_in_rest i e es (n refl)
  later_by Equal i e es h r n =
      let first : is_eq (order i e.0) ≡ true = rw (same_key e.0 i h) (is_itself i) in
      value_at_rest e es i r ∙ ap (λ (b : Bool). cond b None (value_at i (e ∷ es))) first
  later_by Greater i e es h r n = nothing_in_rest i e es (below_first i e es r (flipped_greater e.0 i h))

  -- ---- the floor

  first_above : (b : Bool) (k : List ℕ) (e : List ℕ × V) (es : List (List ℕ × V)) → is_lt (order k e.0) ≡ b → ((i : List ℕ) → is_on UpTo k i ≡ true → value_at i (e ∷ es) ≡ None) → b ≡ true
  first_above true k e es h n = refl
  first_above false k e es h n = absurd (held_not_none e es (n e.0 (rw h refl)))

  floor-none : (k : List ℕ) (es : List (List ℕ × V)) → ((i : List ℕ) → is_on UpTo k i ≡ true → value_at i es ≡ None) → floor k es ≡ None
  floor-none k [] n = refl
  floor-none k (e ∷ es) n =
      rw (floor-none k es (λ i o. nothing_in_rest i e es (n i o)), first_above (is_lt (order k e.0)) k e es refl n) refl

  there_by : (o : Ordering) (k j : List ℕ) (v : V) (e : List ℕ × V) (es : List (List ℕ × V)) → order j e.0 ≡ o → IsRising (e ∷ es) → IsNearestWith UpTo k (λ i. value_at i (e ∷ es)) j v
      → (value_at j es ≡ Some v → floor k es ≡ Some (j, v)) → floor k (e ∷ es) ≡ Some (j, v)
  there_by Less k j v e es h r n ih = absurd (let none = below_first j e es r h in let has = n.has in cc)
  there_by Equal k j v e es h r n ih =
      let same : j ≡ e.0 = same_key j e.0 h in
      let s : Some e.1 ≡ Some v = (rw h at n.has) in
      let value : e.1 ≡ v = cc in
      let pair : List ℕ → V → List ℕ × V = λ a b. (a, b) in
      let later : floor k es ≡ None = floor-none k es (λ i o. later_by (order e.0 i) i e es refl r (λ l. n.none_nearer i o (rw same l))) in
      let here : is_lt (order k e.0) ≡ false = rw (← same) (not_by (is_lt (order k j)) n.on) in
      rw (later, here) (ap (λ (a : List ℕ). Some (pair a e.1)) (sym same) ∙ ap (λ (b : V). Some (pair j b)) value)
  there_by Greater k j v e es h r n ih = let s : value_at j es ≡ Some v = (rw h at n.has) in rw (ih s) refl

  floor-there : (k j : List ℕ) (v : V) (es : List (List ℕ × V)) → IsRising es → IsNearestWith UpTo k (λ i. value_at i es) j v → floor k es ≡ Some (j, v)
  floor-there k j v [] r n = absurd (let has = n.has in cc)
  floor-there k j v (e ∷ es) r n =
      there_by (order j e.0) k j v e es refl r n
      (λ s. floor-there k j v es (sorted_tail order e.0 (keys_of es) r) (record { on = n.on; has = s; none_nearer = λ i o l. nothing_in_rest i e es (n.none_nearer i o l) }))

  pub floor-nearest : (k : List ℕ) (es : List (List ℕ × V)) (x : Option (List ℕ × V)) → IsRising es → IsNearest UpTo k (λ i. value_at i es) x → x ≡ floor k es
  floor-nearest k es None r n = sym (floor-none k es n)
  floor-nearest k es (Some e) r n = sym (floor-there k e.0 e.1 es r n)
