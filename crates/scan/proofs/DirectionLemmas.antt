-- Lemmas on lists in key order that are iterated in either direction. The lemmas here have a clause for each direction. Lemmas in other files use
-- them, and have one proof for both.
use Rattle.std.specs.Prelude.{◌≡◌, ℕ, ◌+◌, ◌<◌, Bool, true, false, List, [], ◌∷◌, ◌++◌, length, map, Some, None}
use Rattle.std.proofs.Common.{refl, sym, ap, ◌∙◌, subst, arith, append_assoc, append-nil, length-append, Ordering, Less, Equal, Greater}
use Rattle.std.specs.Ordering.{is_lt}
use Rattle.std.specs.List.{AllByRecursion}
use Rattle.std.specs.List.Sorted.{IsStrictlySortedBy}
use Rattle.std.specs.Map.{keys_of}
use Rattle.std.proofs.lemmas.List.{map-append}
use Rattle.keys.specs.Order.{order, IsRising}
use Rattle.keys.specs.OrderedMap.{value_at}
use Rattle.keys.specs.Range.{is_below}
use Rattle.keys.proofs.Basics.{less_by}
use Rattle.keys.proofs.MapLemmas.{total, order_itself, same_key, flipped_greater}
use Rattle.scan.specs.Direction.{precedes, IsNext, in_turn, after, until}
use Rattle.scan.specs.Leaf.{from}
use Rattle.scan.specs.declared.direction.Direction.{Direction}
use Rattle.scan.specs.declared.direction.Direction.TheVariants.{Up, Down}
use Rattle.scan.proofs.LastLemmas.{each, passes_none, none_passes, parted, from_greatest, before_last, none_above_last, value_at_last}
use Rattle.scan.proofs.LeafLemmas.{itself, above_not_below, from-there, from-none, pairs_after-all, pairs_after-skips}

-- ---- the order of an iteration

pub not_itself : (d : Direction) (k : List ℕ) → precedes d k k ≡ false
not_itself Up k = itself k
not_itself Down k = itself k

pub below_through : (i j k : List ℕ) → is_below i j ≡ true → is_below j k ≡ true → is_below i k ≡ true
below_through i j k a b = ap is_lt (total.trans i j k (less_by (order i j) a) (less_by (order j k) b))

pub through : (d : Direction) (i j k : List ℕ) → precedes d i j ≡ true → precedes d j k ≡ true → precedes d i k ≡ true
through Up i j k a b = below_through i j k a b
through Down i j k a b = below_through k j i b a

not_both_by : (d : Direction) (b : Bool) (j k : List ℕ) → precedes d k j ≡ b → precedes d j k ≡ true → b ≡ false
not_both_by d true j k e a = absurd (let f = sym (through d j k j a e) ∙ not_itself d j in cc)
not_both_by d false j k e a = refl

-- at most one of two keys comes before the other
pub not_both : (d : Direction) (j k : List ℕ) → precedes d j k ≡ true → precedes d k j ≡ false
not_both d j k a = not_both_by d (precedes d k j) j k refl a

passed_through_by : (d : Direction) (b : Bool) (x e c : List ℕ) → precedes d x c ≡ b → precedes d x e ≡ false → precedes d c e ≡ true → b ≡ false
passed_through_by d true x e c h n a = absurd (let f = sym (through d x c e h a) ∙ n in cc)
passed_through_by d false x e c h n a = refl

-- a key that doesn't come before e doesn't come before an earlier key either
pub passed_through : (d : Direction) (x e c : List ℕ) → precedes d x e ≡ false → precedes d c e ≡ true → precedes d x c ≡ false
passed_through d x e c n a = passed_through_by d (precedes d x c) x e c refl n a

same_by : (o : Ordering) (j k : List ℕ) → order j k ≡ o → is_below j k ≡ false → is_below k j ≡ false → j ≡ k
same_by Less j k h a b = absurd (let t : is_below j k ≡ true = ap is_lt h in cc)
same_by Equal j k h a b = same_key j k h
same_by Greater j k h a b = absurd (let t : is_below k j ≡ true = ap is_lt (flipped_greater j k h) in cc)

-- two keys neither of which comes before the other are equal
pub same_place : (d : Direction) (j k : List ℕ) → precedes d j k ≡ false → precedes d k j ≡ false → j ≡ k
same_place Up j k a b = same_by (order j k) j k refl a b
same_place Down j k a b = same_by (order j k) j k refl b a

-- ---- lists in turn

module _ {X : Type 0} where
  pub nothing_first : (d : Direction) (xs : List X) → in_turn d [] xs ≡ xs
  nothing_first Up xs = refl
  nothing_first Down xs = append-nil xs

  pub nothing_later : (d : Direction) (xs : List X) → in_turn d xs [] ≡ xs
  nothing_later Up xs = append-nil xs
  nothing_later Down xs = refl

  pub turns_join : (d : Direction) (xs ys zs : List X) → in_turn d (in_turn d xs ys) zs ≡ in_turn d xs (in_turn d ys zs)
  turns_join Up xs ys zs = append_assoc xs ys zs
  turns_join Down xs ys zs = sym (append_assoc zs ys xs)

  pub next_in_turn : (d : Direction) (x : X) (all rest : List X) → IsNext d all x rest → all ≡ in_turn d (x ∷ []) rest
  next_in_turn Up x all rest h = h
  next_in_turn Down x all rest h = h

  pub in_turn_next : (d : Direction) (x : X) (all rest : List X) → all ≡ in_turn d (x ∷ []) rest → IsNext d all x rest
  in_turn_next Up x all rest h = h
  in_turn_next Down x all rest h = h

  -- the next element of two lists in turn is that of the first list
  pub next_of_both : (d : Direction) (x : X) (all rest later : List X) → IsNext d all x rest → IsNext d (in_turn d all later) x (in_turn d rest later)
  next_of_both Up x all rest later h = ap (λ (xs : List X). xs ++ later) h
  next_of_both Down x all rest later h = ap (λ (xs : List X). later ++ xs) h ∙ sym (append_assoc later rest (x ∷ []))

  pub never_empty : (d : Direction) (x : X) (rest : List X) → IsNext d [] x rest → ⊥
  never_empty Up x rest h = cc
  never_empty Down x [] h = cc
  never_empty Down x (y ∷ rest) h = cc

  pub one_less : (d : Direction) (x : X) (all rest : List X) → IsNext d all x rest → length rest < length all
  one_less Up x all rest h = let n : length all ≡ length (x ∷ rest) = ap (λ (xs : List X). length xs) h in omega (arith, n)
  one_less Down x all rest h = let n : length all ≡ length rest + 1 = ap (λ (xs : List X). length xs) h ∙ length-append rest (x ∷ []) in omega (arith, n)

-- ---- the last element of a list

module _ {X : Type 0} where
  no_last : (xs : List X) (x : X) → [] ≡ xs ++ x ∷ [] → ⊥
  no_last [] x h = cc
  no_last (y ∷ ys) x h = cc

  pub same_end : (xs ys : List X) (x y : X) → xs ++ x ∷ [] ≡ ys ++ y ∷ [] → (xs ≡ ys) × (x ≡ y)
  same_end [] [] x y h = (refl, cc)
  same_end [] (z ∷ ys) x y h = let rest : [] ≡ ys ++ y ∷ [] = cc in absurd (no_last ys y rest)
  same_end (z ∷ xs) [] x y h = let rest : [] ≡ xs ++ x ∷ [] = cc in absurd (no_last xs x rest)
  same_end (z ∷ xs) (w ∷ ys) x y h =
      let first : z ≡ w = cc in
      let rest : xs ++ x ∷ [] ≡ ys ++ y ∷ [] = cc in
      let both = same_end xs ys x y rest in
      (ap (λ (a : X). a ∷ xs) first ∙ ap (λ (zs : List X). w ∷ zs) both.0, both.1)

  pub next_mapped : {Y : Type 0} (f : X → Y) (d : Direction) (x : X) (xs rest : List X) → IsNext d xs x rest → IsNext d (map f xs) (f x) (map f rest)
  next_mapped f Up x xs rest h = ap (λ (ys : List X). map f ys) h
  next_mapped f Down x xs rest h = ap (λ (ys : List X). map f ys) h ∙ map-append f rest (x ∷ [])

  -- the list determines its next element and the others
  pub same_next : (d : Direction) (x y : X) (xs rest others : List X) → IsNext d xs x rest → IsNext d xs y others → (x ≡ y) × (rest ≡ others)
  same_next Up x y xs rest others h i = let both : x ∷ rest ≡ y ∷ others = sym h ∙ i in (cc, cc)
  same_next Down x y xs rest others h i = let both = same_end rest others x y (sym h ∙ i) in (both.1, both.0)

-- ---- a key in a list

module _ {V : Type 0} where
  -- if the list contains the key, and the iteration comes to no pair before it, the key's pair is the next
  pub next_there : (d : Direction) (k : List ℕ) (v : V) (es : List (List ℕ × V)) → IsRising es → value_at k es ≡ Some v → until d k es ≡ [] → IsNext d es (k, v) (after d k es)
  next_there Up k v es r h n = parted (Some k) es r ∙ ap (λ (x : List (List ℕ × V)). x ++ from k es) n ∙ from-there k v es r h
  next_there Down k v es r h n = parted (Some k) es r ∙ ap (λ (x : List (List ℕ × V)). after Down k es ++ x) (from_greatest k v es r h n)

  -- if the list doesn't contain it, the iteration comes to all pairs after it
  pub none_there : (d : Direction) (k : List ℕ) (es : List (List ℕ × V)) → IsRising es → value_at k es ≡ None → until d k es ≡ [] → es ≡ after d k es
  none_there Up k es r h n = parted (Some k) es r ∙ ap (λ (x : List (List ℕ × V)). x ++ from k es) n ∙ from-none k es h
  none_there Down k es r h n = parted (Some k) es r ∙ ap (λ (x : List (List ℕ × V)). after Down k es ++ x) (from-none k es h ∙ n) ∙ append-nil (after Down k es)

  -- facts about the next pair
  pub record IsFirst (d : Direction) (e : List ℕ × V) (es rest : List (List ℕ × V)) : Type 0 where
    pub none_before : until d e.0 es ≡ []
    pub value : value_at e.0 es ≡ Some e.1
    pub others : after d e.0 es ≡ rest

  none_below_by : (e : List ℕ) (es : List (List ℕ × V)) → AllByRecursion (λ j. order e j ≡ Less) (keys_of es) → AllByRecursion (λ x. is_below x.0 e ≡ false) es
  none_below_by e [] a = tt
  none_below_by e (x ∷ es) a = (above_not_below e x.0 a.0, none_below_by e es a.1)

  first_up : (e : List ℕ × V) (rest : List (List ℕ × V)) → IsRising (e ∷ rest) → IsFirst Up e (e ∷ rest) rest
  unfolding IsStrictlySortedBy
  first_up e rest r = record {
    none_before = passes_none (λ x. is_below x.0 e.0) (e ∷ rest) (itself e.0, none_below_by e.0 rest r.0);
    value = rw (order_itself e.0) refl;
    others = pairs_after-skips e.0 e rest (itself e.0) ∙ pairs_after-all e.0 rest r.0;
  }

  first_down : (e : List ℕ × V) (rest : List (List ℕ × V)) → IsRising (rest ++ (e.0, e.1) ∷ []) → IsFirst Down e (rest ++ (e.0, e.1) ∷ []) rest
  first_down e rest r = record {
    none_before = none_above_last rest e.0 e.1 r;
    value = value_at_last rest e.0 e.1 r;
    others = before_last rest e.0 e.1 r;
  }

  pub first_there : (d : Direction) (e : List ℕ × V) (es rest : List (List ℕ × V)) → IsRising es → IsNext d es e rest → IsFirst d e es rest
  first_there Up e es rest r h = subst (λ (x : List (List ℕ × V)). IsFirst Up e x rest) (sym h) (first_up e rest (subst (λ (x : List (List ℕ × V)). IsRising x) h r))
  first_there Down e es rest r h = subst (λ (x : List (List ℕ × V)). IsFirst Down e x rest) (sym h) (first_down e rest (subst (λ (x : List (List ℕ × V)). IsRising x) h r))

  -- no pair comes before a key if none comes before a later key
  pub none_until_earlier : (d : Direction) (c e : List ℕ) (es : List (List ℕ × V)) → precedes d c e ≡ true → until d e es ≡ [] → until d c es ≡ []
  none_until_earlier d c e es a n =
      passes_none (λ x. precedes d x.0 c) es (each (λ (x : List ℕ × V) (q : precedes d x.0 e ≡ false). passed_through d x.0 e c q a) es (none_passes (λ x. precedes d x.0 e) es n))

  -- nor if none comes before a key that doesn't come before it
  pub none_until_not_after : (d : Direction) (c e : List ℕ) (es : List (List ℕ × V)) → precedes d c e ≡ false → until d c es ≡ [] → until d e es ≡ []
  none_until_not_after d c e es n h =
      passes_none (λ x. precedes d x.0 e) es (each (λ (x : List ℕ × V) (q : precedes d x.0 c ≡ false). not_until_by d (precedes d x.0 e) x.0 c e refl q n) es (none_passes (λ x. precedes d x.0 c) es h))
    where
      -- if x comes before e, and not before c, then c is x, or c comes before x and so before e
      meets_by : (d : Direction) (b : Bool) (x c e : List ℕ) → precedes d c x ≡ b → precedes d x e ≡ true → precedes d x c ≡ false → precedes d c e ≡ true
      meets_by d true x c e h a q = through d c x e h a
      meets_by d false x c e h a q = subst (λ (j : List ℕ). precedes d j e ≡ true) (same_place d x c q h) a

      not_until_by : (d : Direction) (b : Bool) (x c e : List ℕ) → precedes d x e ≡ b → precedes d x c ≡ false → precedes d c e ≡ false → b ≡ false
      not_until_by d true x c e h q n = absurd (let f = sym (meets_by d (precedes d c x) x c e refl h q) ∙ n in cc)
      not_until_by d false x c e h q n = refl

  -- if all pairs come after a key, none comes before it
  pub none_of : (d : Direction) (k : List ℕ) (es : List (List ℕ × V)) → AllByRecursion (λ e. precedes d k e.0 ≡ true) es → until d k es ≡ []
  none_of d k es a = passes_none (λ e. precedes d e.0 k) es (each (λ (e : List ℕ × V) (q : precedes d k e.0 ≡ true). not_both d k e.0 q) es a)

  -- a list has only one next key
  pub same_first : (d : Direction) (e f : List ℕ × V) (es rest others : List (List ℕ × V)) → IsRising es → IsNext d es e rest → IsNext d es f others → e.0 ≡ f.0
  same_first Up e f es rest others r h i = let both : e ∷ rest ≡ f ∷ others = sym h ∙ i in cc
  same_first Down e f es rest others r h i = ap (λ (x : List ℕ × V). x.0) (same_end rest others e f (sym h ∙ i)).1

-- if e comes before k, and c doesn't, then e comes before c
goes_before_by : (d : Direction) (b : Bool) (e k c : List ℕ) → precedes d e c ≡ b → precedes d e k ≡ true → precedes d c k ≡ false → b ≡ true
goes_before_by d true e k c h a n = refl
goes_before_by d false e k c h a n = absurd (let f = sym (by (precedes d c e) refl) ∙ n in cc)
  where
    by : (b : Bool) → precedes d c e ≡ b → precedes d c k ≡ true
    by true q = through d c e k q a
    by false q = subst (λ (j : List ℕ). precedes d j k ≡ true) (same_place d e c h q) a

pub goes_before : (d : Direction) (e k c : List ℕ) → precedes d e k ≡ true → precedes d c k ≡ false → precedes d e c ≡ true
goes_before d e k c a n = goes_before_by d (precedes d e c) e k c refl a n
