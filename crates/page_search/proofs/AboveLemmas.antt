-- The first pair whose key is above a key is the nearest one above that key.
use Rattle.std.specs.Prelude.{◌≡◌, ℕ, Bool, true, false, List, [], ◌∷◌, Option, Some, None}
use Rattle.std.proofs.Common.{refl, sym, ap, ◌∙◌, Ordering, Less, Equal, Greater}
use Rattle.std.specs.Ordering.{is_lt}
use Rattle.std.specs.Map.{keys_of}
use Rattle.std.proofs.lemmas.Map.Keys.{sorted_tail}
use Rattle.keys.specs.Order.{order, IsRising}
use Rattle.keys.specs.OrderedMap.{value_at}
use Rattle.keys.proofs.MapLemmas.{same_key, flipped_greater}
use Rattle.page_search.specs.Above.{above}
use Rattle.page_search.specs.Nearest.{is_on, IsNearestWith, IsNearest}
use Rattle.page_search.specs.declared.side.Side.TheVariants.{Above}
use Rattle.page_search.proofs.FloorLemmas.{held_not_none, nothing_in_rest, below_first}

module _ {V : Type 0} where
  -- the first key isn't above k where nothing may be held there
  not_first : (b : Bool) (k : List ℕ) (e : List ℕ × V) (es : List (List ℕ × V)) → is_lt (order k e.0) ≡ b → (b ≡ true → value_at e.0 (e ∷ es) ≡ None) → b ≡ false
  not_first true k e es h n = absurd (held_not_none e es (n refl))
  not_first false k e es h n = refl

  above-none : (k : List ℕ) (es : List (List ℕ × V)) → ((i : List ℕ) → is_on Above k i ≡ true → value_at i es ≡ None) → above k es ≡ None
  above-none k [] n = refl
  above-none k (e ∷ es) n =
      rw (not_first (is_lt (order k e.0)) k e es refl (n e.0)) (above-none k es (λ i o. nothing_in_rest i e es (n i o)))

  there_by : (o : Ordering) (k j : List ℕ) (v : V) (e : List ℕ × V) (es : List (List ℕ × V)) → order j e.0 ≡ o → IsRising (e ∷ es) → IsNearestWith Above k (λ i. value_at i (e ∷ es)) j v
      → (value_at j es ≡ Some v → above k es ≡ Some (j, v)) → above k (e ∷ es) ≡ Some (j, v)
  there_by Less k j v e es h r n ih = absurd (let none = below_first j e es r h in let has = n.has in cc)
  there_by Equal k j v e es h r n ih =
      let same : j ≡ e.0 = same_key j e.0 h in
      let s : Some e.1 ≡ Some v = (rw h at n.has) in
      let value : e.1 ≡ v = cc in
      let pair : List ℕ → V → List ℕ × V = λ a b. (a, b) in
      let here : is_lt (order k e.0) ≡ true = rw (← same) n.on in
      rw here (ap (λ (a : List ℕ). Some (pair a e.1)) (sym same) ∙ ap (λ (b : V). Some (pair j b)) value)
  there_by Greater k j v e es h r n ih =
      let s : value_at j es ≡ Some v = (rw h at n.has) in
      rw (not_first (is_lt (order k e.0)) k e es refl (λ o. n.none_nearer e.0 o (flipped_greater j e.0 h))) (ih s)

  above-there : (k j : List ℕ) (v : V) (es : List (List ℕ × V)) → IsRising es → IsNearestWith Above k (λ i. value_at i es) j v → above k es ≡ Some (j, v)
  above-there k j v [] r n = absurd (let has = n.has in cc)
  above-there k j v (e ∷ es) r n =
      there_by (order j e.0) k j v e es refl r n
      (λ s. above-there k j v es (sorted_tail order e.0 (keys_of es) r) (record { on = n.on; has = s; none_nearer = λ i o l. nothing_in_rest i e es (n.none_nearer i o l) }))

  pub above-nearest : (k : List ℕ) (es : List (List ℕ × V)) (x : Option (List ℕ × V)) → IsRising es → IsNearest Above k (λ i. value_at i es) x → x ≡ above k es
  above-nearest k es None r n = sym (above-none k es n)
  above-nearest k es (Some e) r n = sym (above-there k e.0 e.1 es r n)
