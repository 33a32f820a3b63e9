-- Lemmas on the order of keys and on ordered maps, for the proofs of this crate and of those above it.
use Rattle.std.specs.Prelude.{◌≡◌, ◌≢◌, ℕ, Bool, true, false, cond, List, [], ◌∷◌, Option, Some, None}
use Rattle.std.proofs.Common.{refl, sym, ap, ◌∙◌, Ordering, Less, Equal, Greater}
use Rattle.std.specs.Ordering.{is_eq, eq_by_cmp, match_ordering}
use Rattle.std.specs.Cmp.{IsTotalOrder, IsEquivalence}
use Rattle.std.specs.List.{AllByRecursion}
use Rattle.std.specs.List.Sorted.{IsStrictlySortedBy}
use Rattle.std.specs.Map.{keys_of}
use Rattle.std.proofs.lemmas.Cmp.{nat_list_cmp_total, eq_by_cmp_equiv, tied_itself}
use Rattle.std.proofs.lemmas.Map.{lookup-remove_entry, lookup-none}
use Rattle.std.proofs.lemmas.Map.Keys.{IsDistinct-from_sorted, sorted_tail}
use Rattle.std.proofs.lemmas.Map.Entries.{lookup_head, lookup_tail, none_past_head, none_below_head}
use Rattle.std.proofs.lemmas.Map.Lookups.{exact_bytes}
use Rattle.keys.specs.Order.{order, IsRising}
use Rattle.keys.specs.OrderedMap.{value_at, with_pair, without}
use Rattle.keys.proofs.Basics.{equal_by}

-- ---- the order of keys

pub total : IsTotalOrder order
total = nat_list_cmp_total

pub alike : IsEquivalence (eq_by_cmp order)
alike = eq_by_cmp_equiv total

-- keys that compare alike are the same bytes
pub same_key : (j k : List ℕ) → order j k ≡ Equal → j ≡ k
same_key = exact_bytes

pub order_itself : (k : List ℕ) → order k k ≡ Equal
order_itself k = tied_itself total k

pub flipped_less : (j k : List ℕ) → order j k ≡ Less → order k j ≡ Greater
flipped_less j k h = rw (total.antisymm k j, h) refl

pub flipped_greater : (j k : List ℕ) → order j k ≡ Greater → order k j ≡ Less
flipped_greater j k h = rw (total.antisymm k j, h) refl

-- what a test for one key says of that key and of any other
pub is_itself : (k : List ℕ) → is_eq (order k k) ≡ true
is_itself k = rw (order_itself k) refl

apart_by : (o : Ordering) (q k : List ℕ) → order q k ≡ o → q ≢ k → is_eq o ≡ false
apart_by Less q k h n = refl
apart_by Equal q k h n = absurd (n (same_key q k h))
apart_by Greater q k h n = refl

pub is_apart : (q k : List ℕ) → q ≢ k → is_eq (order q k) ≡ false
is_apart q k n = apart_by (order q k) q k refl n

-- a test for one key passes at no other
pub passes_same : (q k : List ℕ) → is_eq (order q k) ≡ true → q ≡ k
passes_same q k h = same_key q k (equal_by (order q k) h)

-- ---- keys above a key

-- the key is below each of these
abbrev pub IsBelowAll : List ℕ → List (List ℕ) → Type 0
IsBelowAll k js = AllByRecursion (λ j. order k j ≡ Less) js

pub below_all : (k j : List ℕ) (js : List (List ℕ)) → order k j ≡ Less → IsBelowAll j js → IsBelowAll k js
below_all k j [] h a = tt
below_all k j (i ∷ is) h a = (total.trans k j i h a.0, below_all k j is h a.1)

module _ {V : Type 0} where
  -- ---- puts

  -- one step of setting a key, by how the key compares to the first pair's
  abbrev Set : Ordering → List ℕ → V → List ℕ × V → List (List ℕ × V) → List (List ℕ × V) → List (List ℕ × V)
  Set o k v e es rest = match_ordering o ((k, v) ∷ e ∷ es) ((e.0, v) ∷ es) (e ∷ rest)

  put_here_by : (o : Ordering) (k : List ℕ) (v : V) (e : List ℕ × V) (es rest : List (List ℕ × V)) → order k e.0 ≡ o → value_at k rest ≡ Some v → value_at k (Set o k v e es rest) ≡ Some v
  put_here_by Less k v e es rest h ih = rw (is_itself k) refl
  put_here_by Equal k v e es rest h ih = rw h refl
  put_here_by Greater k v e es rest h ih = rw h ih

  pub value_at-with_pair_here : (m : List (List ℕ × V)) (k : List ℕ) (v : V) → value_at k (with_pair m k v) ≡ Some v
  value_at-with_pair_here [] k v = rw (is_itself k) refl
  value_at-with_pair_here (e ∷ es) k v = put_here_by (order k e.0) k v e es (with_pair es k v) refl (value_at-with_pair_here es k v)

  put_elsewhere_by : (o : Ordering) (k q : List ℕ) (v : V) (e : List ℕ × V) (es rest : List (List ℕ × V)) → order k e.0 ≡ o → is_eq (order q k) ≡ false → value_at q rest ≡ value_at q es → value_at q (Set o k v e es rest) ≡ value_at q (e ∷ es)
  put_elsewhere_by Less k q v e es rest h n ih = rw n refl
  put_elsewhere_by Equal k q v e es rest h n ih =
      let f : is_eq (order q e.0) ≡ false = rw (← same_key k e.0 h) n in
      rw f refl
  put_elsewhere_by Greater k q v e es rest h n ih = ap (λ (t : Option V). cond (is_eq (order q e.0)) (Some e.1) t) ih

  -- at a key that a test tells apart from the one that is set
  pub value_at-with_pair_apart : (m : List (List ℕ × V)) (k q : List ℕ) (v : V) → is_eq (order q k) ≡ false → value_at q (with_pair m k v) ≡ value_at q m
  value_at-with_pair_apart [] k q v n = rw n refl
  value_at-with_pair_apart (e ∷ es) k q v n = put_elsewhere_by (order k e.0) k q v e es (with_pair es k v) refl n (value_at-with_pair_apart es k q v n)

  pub value_at-with_pair_elsewhere : (m : List (List ℕ × V)) (k q : List ℕ) (v : V) → q ≢ k → value_at q (with_pair m k v) ≡ value_at q m
  value_at-with_pair_elsewhere m k q v n = value_at-with_pair_apart m k q v (is_apart q k n)

  all_put_by : (P : List ℕ → Type 0) (o : Ordering) (k : List ℕ) (v : V) (e : List ℕ × V) (es rest : List (List ℕ × V)) → P k → P e.0 → AllByRecursion P (keys_of es) → AllByRecursion P (keys_of rest) → AllByRecursion P (keys_of (Set o k v e es rest))
  all_put_by P Less k v e es rest p h a ih = (p, (h, a))
  all_put_by P Equal k v e es rest p h a ih = (h, a)
  all_put_by P Greater k v e es rest p h a ih = (h, ih)

  -- what holds of the keys and of the key that is set holds of the keys afterwards
  pub all_keys-with_pair : (P : List ℕ → Type 0) (m : List (List ℕ × V)) (k : List ℕ) (v : V) → P k → AllByRecursion P (keys_of m) → AllByRecursion P (keys_of (with_pair m k v))
  all_keys-with_pair P [] k v p a = (p, tt)
  all_keys-with_pair P (e ∷ es) k v p a = all_put_by P (order k e.0) k v e es (with_pair es k v) p a.0 a.1 (all_keys-with_pair P es k v p a.1)

  rising_put_by : (o : Ordering) (k : List ℕ) (v : V) (e : List ℕ × V) (es : List (List ℕ × V)) → order k e.0 ≡ o → IsRising (e ∷ es) → IsRising (with_pair es k v) → IsRising (Set o k v e es (with_pair es k v))
  unfolding IsStrictlySortedBy
  rising_put_by Less k v e es h r ih = ((h, below_all k e.0 (keys_of es) h r.0), r)
  rising_put_by Equal k v e es h r ih = r
  rising_put_by Greater k v e es h r ih = (all_keys-with_pair (λ j. order e.0 j ≡ Less) es k v (flipped_greater k e.0 h) r.0, ih)

  pub rising-with_pair : (m : List (List ℕ × V)) (k : List ℕ) (v : V) → IsRising m → IsRising (with_pair m k v)
  unfolding IsStrictlySortedBy
  rising-with_pair [] k v r = (tt, tt)
  rising-with_pair (e ∷ es) k v r = rising_put_by (order k e.0) k v e es refl r (rising-with_pair es k v r.1)

  -- ---- deletes

  pub value_at-without : (m : List (List ℕ × V)) (k q : List ℕ) → IsRising m → value_at q (without m k) ≡ cond (is_eq (order k q)) None (value_at q m)
  value_at-without m k q r = lookup-remove_entry alike (λ j. is_eq (order k j)) (λ x y h. alike.congr k x y h) q m (IsDistinct-from_sorted order (keys_of m) r)

  pub value_at-without_here : (m : List (List ℕ × V)) (k : List ℕ) → IsRising m → value_at k (without m k) ≡ None
  value_at-without_here m k r = value_at-without m k k r ∙ ap (λ (b : Bool). cond b None (value_at k m)) (is_itself k)

  pub value_at-without_elsewhere : (m : List (List ℕ × V)) (k q : List ℕ) → IsRising m → q ≢ k → value_at q (without m k) ≡ value_at q m
  value_at-without_elsewhere m k q r n =
      value_at-without m k q r ∙ ap (λ (b : Bool). cond b None (value_at q m)) (is_apart k q (λ e. n (sym e)))

  all_del_by : (P : List ℕ → Type 0) (b : Bool) (e : List ℕ × V) (es rest : List (List ℕ × V)) → P e.0 → AllByRecursion P (keys_of es) → AllByRecursion P (keys_of rest) → AllByRecursion P (keys_of (cond b es (e ∷ rest)))
  all_del_by P true e es rest h a ih = a
  all_del_by P false e es rest h a ih = (h, ih)

  pub all_keys-without : (P : List ℕ → Type 0) (m : List (List ℕ × V)) (k : List ℕ) → AllByRecursion P (keys_of m) → AllByRecursion P (keys_of (without m k))
  all_keys-without P [] k a = tt
  all_keys-without P (e ∷ es) k a = all_del_by P (is_eq (order k e.0)) e es (without es k) a.0 a.1 (all_keys-without P es k a.1)

  rising_del_by : (b : Bool) (e : List ℕ × V) (es rest : List (List ℕ × V)) → IsRising (e ∷ es) → IsBelowAll e.0 (keys_of rest) → IsRising rest → IsRising (cond b es (e ∷ rest))
  unfolding IsStrictlySortedBy
  rising_del_by true e es rest r a ih = r.1
  rising_del_by false e es rest r a ih = (a, ih)

  pub rising-without : (m : List (List ℕ × V)) (k : List ℕ) → IsRising m → IsRising (without m k)
  unfolding IsStrictlySortedBy
  rising-without [] k r = tt
  rising-without (e ∷ es) k r = rising_del_by (is_eq (order k e.0)) e es (without es k) r (all_keys-without (λ j. order e.0 j ≡ Less) es k r.0) (rising-without es k r.1)

  -- ---- a map is determined by its values

  value_at_first : (e : List ℕ × V) (es : List (List ℕ × V)) → value_at e.0 (e ∷ es) ≡ Some e.1
  value_at_first e es = lookup_head (λ j. is_eq (order e.0 j)) e es (is_itself e.0)

  none_below : (q : List ℕ) (e : List ℕ × V) (es : List (List ℕ × V)) → IsRising (e ∷ es) → order q e.0 ≡ Less → value_at q (e ∷ es) ≡ None
  none_below q e es r h = lookup-none (λ j. is_eq (order q j)) (e ∷ es) (none_below_head total q e es r h)

  rest_by : (b : Bool) (e : List ℕ × V) (es : List (List ℕ × V)) (q : List ℕ) → is_eq (order q e.0) ≡ b → IsRising (e ∷ es) → value_at q es ≡ cond b None (value_at q (e ∷ es))
  rest_by true e es q h r = lookup-none (λ j. is_eq (order q j)) es (none_past_head alike q e es (IsDistinct-from_sorted order (keys_of (e ∷ es)) r) h)
  rest_by false e es q h r = sym (lookup_tail (λ j. is_eq (order q j)) e es h)

  -- after the first pair the map has what it has, but nothing at the first key
  pub value_at_rest : (e : List ℕ × V) (es : List (List ℕ × V)) (q : List ℕ) → IsRising (e ∷ es) → value_at q es ≡ cond (is_eq (order q e.0)) None (value_at q (e ∷ es))
  value_at_rest e es q r = rest_by (is_eq (order q e.0)) e es q refl r

  same_first : (d e : List ℕ × V) → d.0 ≡ e.0 → d.1 ≡ e.1 → d ≡ e
  same_first d e h v =
      let pair : List ℕ → V → List ℕ × V = λ a b. (a, b) in
      ap (λ (a : List ℕ). pair a d.1) h ∙ ap (λ (b : V). pair e.0 b) v

  same_by : (o : Ordering) (d e : List ℕ × V) (ds es : List (List ℕ × V)) → order d.0 e.0 ≡ o → IsRising (d ∷ ds) → IsRising (e ∷ es) → ((q : List ℕ) → value_at q (d ∷ ds) ≡ value_at q (e ∷ es)) → (((q : List ℕ) → value_at q ds ≡ value_at q es) → ds ≡ es) → d ∷ ds ≡ e ∷ es
  same_by Less d e ds es o r s h ih = let f : Some d.1 ≡ None = sym (value_at_first d ds) ∙ h d.0 ∙ none_below d.0 e es s o in absurd (cc)
  same_by Greater d e ds es o r s h ih = let f : Some e.1 ≡ None = sym (value_at_first e es) ∙ sym (h e.0) ∙ none_below e.0 d ds r (flipped_greater d.0 e.0 o) in absurd (cc)
  same_by Equal d e ds es o r s h ih =
      let k : d.0 ≡ e.0 = same_key d.0 e.0 o in
      let f : Some d.1 ≡ Some e.1 = sym (value_at_first d ds) ∙ h d.0 ∙ ap (λ (j : List ℕ). value_at j (e ∷ es)) k ∙ value_at_first e es in
      let v : d.1 ≡ e.1 = cc in
      let rest : (q : List ℕ) → value_at q ds ≡ value_at q es =
      (λ q. value_at_rest d ds q r
      ∙ ap (λ (j : List ℕ). cond (is_eq (order q j)) None (value_at q (d ∷ ds))) k
      ∙ ap (λ (t : Option V). cond (is_eq (order q e.0)) None t) (h q)
      ∙ sym (value_at_rest e es q s)) in
      ap (λ (x : List ℕ × V). x ∷ ds) (same_first d e k v) ∙ ap (λ (t : List (List ℕ × V)). e ∷ t) (ih rest)

  -- two rising lists with the same value at every key are the same list
  pub same_map : (m n : List (List ℕ × V)) → IsRising m → IsRising n → ((q : List ℕ) → value_at q m ≡ value_at q n) → m ≡ n
  same_map [] [] r s h = refl
  same_map [] (e ∷ es) r s h = let f : None ≡ Some e.1 = h e.0 ∙ value_at_first e es in absurd (cc)
  same_map (d ∷ ds) [] r s h = let f : Some d.1 ≡ None = sym (value_at_first d ds) ∙ h d.0 in absurd (cc)
  same_map (d ∷ ds) (e ∷ es) r s h = same_by (order d.0 e.0) d e ds es refl r s h (λ rest. same_map ds es (sorted_tail order d.0 (keys_of ds) r) (sorted_tail order e.0 (keys_of es) s) rest)
