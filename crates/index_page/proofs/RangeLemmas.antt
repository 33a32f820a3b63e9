-- Lemmas on ranges of keys and on lists of pairs in key order, for the proofs of this crate and of those above it.
use Rattle.std.specs.Prelude.{◌≡◌, ℕ, ◌<◌, Bool, true, false, cond, List, [], ◌∷◌, ◌++◌, length, Option, Some, None}
use Rattle.std.proofs.Common.{refl, ap, arith, Ordering, Less, Equal, Greater}
use Rattle.std.specs.Ordering.{is_lt, is_eq}
use Rattle.std.specs.List.{filter}
use Rattle.std.specs.List.Sorted.{IsStrictlySortedBy}
use Rattle.std.specs.Map.{keys_of}
use Rattle.std.proofs.lemmas.Map.Keys.{sorted_tail}
use Rattle.keys.specs.Order.{order, IsRising}
use Rattle.keys.specs.OrderedMap.{value_at}
use Rattle.keys.proofs.Basics.{less_by}
use Rattle.keys.proofs.MapLemmas.{total, order_itself, flipped_less, IsBelowAll}
use Rattle.index_page.specs.Page.{first_key}
use Rattle.index_page.specs.Range.{is_below, AreBelow, AreFrom, AreBefore, IsBefore}
use Rattle.index_page.proofs.ListLemmas.{all_keys-append, all_keys_apart, all_keys-filter}

-- a run whose keys rise, from a low key on and before an end
pub record IsRunFor {X : Type 0} (low : List ℕ) (end : Option (List ℕ)) (run : List (List ℕ × X)) : Type 0 where
  pub rising : IsRising run
  pub from : AreFrom low (keys_of run)
  pub before : AreBefore end (keys_of run)

-- ---- keys

pub below_is_less : (j k : List ℕ) → is_below j k ≡ true → order j k ≡ Less
below_is_less j k h = less_by (order j k) h

pub less_is_below : (j k : List ℕ) → order j k ≡ Less → is_below j k ≡ true
less_is_below j k h = rw h refl

less_through_by : (o : Ordering) (a b k : List ℕ) → order b k ≡ o → is_lt o ≡ false → order a k ≡ Less → order a b ≡ Less
less_through_by Less a b k e h l = absurd (cc)
less_through_by Equal a b k e h l = rw (total.antisymm a b, total.congr b k a e, total.antisymm k a, l) refl
less_through_by Greater a b k e h l = total.trans a k b l (rw (total.antisymm k b, e) refl)

-- what is below k is below what is not
pub less_through : (a b k : List ℕ) → is_below a k ≡ true → is_below b k ≡ false → order a b ≡ Less
less_through a b k h f = less_through_by (order b k) a b k refl f (below_is_less a k h)

from_lower_by : (o : Ordering) (j p q : List ℕ) → order j p ≡ o → order p q ≡ Less → is_below j q ≡ false → is_lt o ≡ false
from_lower_by Less j p q e l h = absurd (let t = less_is_below j q (total.trans j p q e l) in cc)
from_lower_by Equal j p q e l h = refl
from_lower_by Greater j p q e l h = refl

-- keys from q on are from each lower key on
pub from_lower : (p q : List ℕ) (ks : List (List ℕ)) → order p q ≡ Less → AreFrom q ks → AreFrom p ks
from_lower p q [] l a = tt
from_lower p q (k ∷ ks) l a = (from_lower_by (order k p) k p q refl l a.0, from_lower p q ks l a.1)

-- keys below p are below each higher key
pub below_higher : (p q : List ℕ) (ks : List (List ℕ)) → order p q ≡ Less → AreBelow p ks → AreBelow q ks
below_higher p q [] l a = tt
below_higher p q (k ∷ ks) l a = (less_is_below k q (total.trans k p q (below_is_less k p a.0) l), below_higher p q ks l a.1)

-- a key below k is below all keys from k on
pub below_all_from : (j k : List ℕ) (ks : List (List ℕ)) → is_below j k ≡ true → AreFrom k ks → IsBelowAll j ks
below_all_from j k [] h a = tt
below_all_from j k (i ∷ is) h a = (less_through j i k h a.0, below_all_from j k is h a.1)

pub not_below_lower : (a b : List ℕ) → order a b ≡ Less → is_below b a ≡ false
not_below_lower a b h = rw (total.antisymm b a, h) refl

pub not_below_itself : (k : List ℕ) → is_below k k ≡ false
not_below_itself k = rw (order_itself k) refl

pub from_below_all : (k : List ℕ) (ks : List (List ℕ)) → IsBelowAll k ks → AreFrom k ks
from_below_all k [] h = tt
from_below_all k (j ∷ js) h = (not_below_lower k j h.0, from_below_all k js h.1)

low_through_by : (o : Ordering) (a b c : List ℕ) → order b a ≡ o → is_lt o ≡ false → order b c ≡ Less → order a c ≡ Less
low_through_by Less a b c e h l = absurd (cc)
low_through_by Equal a b c e h l = rw (← total.congr b a c e) l
low_through_by Greater a b c e h l = total.trans a b c (rw (total.antisymm a b, e) refl) l

-- if b isn't below a, and is below c, a is below c
pub low_through : (a b c : List ℕ) → is_below b a ≡ false → order b c ≡ Less → order a c ≡ Less
low_through a b c h l = low_through_by (order b a) a b c refl h l

-- every key is from the empty one on
pub from_nothing : (ks : List (List ℕ)) → AreFrom [] ks
from_nothing [] = tt
from_nothing ([] ∷ ks) = (refl, from_nothing ks)
from_nothing ((x ∷ xs) ∷ ks) = (refl, from_nothing ks)

-- ---- lists of pairs

module _ {X : Type 0} where
  pub before_apart : (end : Option (List ℕ)) (xs ys : List (List ℕ × X)) → AreBefore end (keys_of (xs ++ ys)) → AreBefore end (keys_of xs) × AreBefore end (keys_of ys)
  before_apart None xs ys a = (tt, tt)
  before_apart (Some hi) xs ys a = all_keys_apart (λ j. is_below j hi ≡ true) xs ys a

  pub before-filter : (end : Option (List ℕ)) (passes : List ℕ × X → Bool) (es : List (List ℕ × X)) → AreBefore end (keys_of es) → AreBefore end (keys_of (filter passes es))
  before-filter None passes es a = tt
  before-filter (Some hi) passes es a = all_keys-filter (λ j. is_below j hi ≡ true) passes es a

  rising_filter_by : (b : Bool) (e : List ℕ × X) (rest : List (List ℕ × X)) → IsBelowAll e.0 (keys_of rest) → IsRising rest → IsRising (cond b (e ∷ rest) rest)
  unfolding IsStrictlySortedBy
  rising_filter_by true e rest a r = (a, r)
  rising_filter_by false e rest a r = r

  pub rising-filter : (passes : List ℕ × X → Bool) (es : List (List ℕ × X)) → IsRising es → IsRising (filter passes es)
  unfolding IsStrictlySortedBy
  rising-filter passes [] r = tt
  rising-filter passes (e ∷ es) r = rising_filter_by (passes e) e (filter passes es) (all_keys-filter (λ j. order e.0 j ≡ Less) passes es r.0) (rising-filter passes es r.1)

  -- pairs below k and pairs from k on rise together
  pub rising-append : (k : List ℕ) (xs ys : List (List ℕ × X)) → AreBelow k (keys_of xs) → AreFrom k (keys_of ys) → IsRising xs → IsRising ys → IsRising (xs ++ ys)
  unfolding IsStrictlySortedBy
  rising-append k [] ys b f r s = s
  rising-append k (x ∷ xs) ys b f r s =
      (all_keys-append (λ j. order x.0 j ≡ Less) xs ys r.0 (below_all_from x.0 k (keys_of ys) b.0 f), rising-append k xs ys b.1 f r.1 s)

  pub rising_left : (xs ys : List (List ℕ × X)) → IsRising (xs ++ ys) → IsRising xs
  unfolding IsStrictlySortedBy
  rising_left [] ys r = tt
  rising_left (x ∷ xs) ys r = ((all_keys_apart (λ j. order x.0 j ≡ Less) xs ys r.0).0, rising_left xs ys r.1)

  pub rising_right : (xs ys : List (List ℕ × X)) → IsRising (xs ++ ys) → IsRising ys
  unfolding IsStrictlySortedBy
  rising_right [] ys r = r
  rising_right (x ∷ xs) ys r = rising_right xs ys r.1

  pub rising_rest : (x : List ℕ × X) (xs : List (List ℕ × X)) → IsRising (x ∷ xs) → IsRising xs
  rising_rest x xs r = sorted_tail order x.0 (keys_of xs) r

  -- rising keys are from their first one on
  pub from_first : (es : List (List ℕ × X)) → IsRising es → AreFrom (first_key es) (keys_of es)
  unfolding IsStrictlySortedBy
  from_first [] r = tt
  from_first (e ∷ es) r = (not_below_itself e.0, from_below_all e.0 (keys_of es) r.0)

  -- the keys before others in a rising list are below the first of those
  pub below_next : (xs ys more : List (List ℕ × X)) → 0 < length ys → IsRising (xs ++ (ys ++ more)) → AreBelow (first_key ys) (keys_of xs)
  unfolding IsStrictlySortedBy
  below_next xs [] more h r = absurd (omega arith)
  below_next [] (y ∷ ys) more h r = tt
  below_next (x ∷ xs) (y ∷ ys) more h r =
      let a = all_keys_apart (λ j. order x.0 j ≡ Less) xs ((y ∷ ys) ++ more) r.0 in
      (less_is_below x.0 y.0 a.1.0, below_next xs (y ∷ ys) more h r.1)

  pub first_is_before : (end : Option (List ℕ)) (es : List (List ℕ × X)) → 0 < length es → AreBefore end (keys_of es) → IsBefore end (first_key es)
  first_is_before None es h a = tt
  first_is_before (Some hi) [] h a = absurd (omega arith)
  first_is_before (Some hi) (e ∷ es) h a = below_is_less e.0 hi a.0

  -- a low key of some pairs that are all below a key is below it
  pub low_is_below : (low hi : List ℕ) (es : List (List ℕ × X)) → 0 < length es → AreFrom low (keys_of es) → AreBelow hi (keys_of es) → order low hi ≡ Less
  low_is_below low hi [] h f b = absurd (omega arith)
  low_is_below low hi (e ∷ es) h f b = low_through low e.0 hi f.0 (below_is_less e.0 hi b.0)

  pub first_key-append : (xs ys : List (List ℕ × X)) → 0 < length xs → (0 < length (xs ++ ys)) × (first_key (xs ++ ys) ≡ first_key xs)
  first_key-append [] ys h = absurd (omega arith)
  first_key-append (x ∷ xs) ys h = (omega arith, refl)

  -- ---- what joined lists have at a key

  pub value_at-below : (k : List ℕ) (es : List (List ℕ × X)) → IsBelowAll k (keys_of es) → value_at k es ≡ None
  value_at-below k [] a = refl
  value_at-below k (e ∷ es) a = rw a.0 (value_at-below k es a.1)

  -- at a key below all of the second list: what the first has
  pub value_at-in_front : (k : List ℕ) (xs ys : List (List ℕ × X)) → IsBelowAll k (keys_of ys) → value_at k (xs ++ ys) ≡ value_at k xs
  value_at-in_front k [] ys a = value_at-below k ys a
  value_at-in_front k (x ∷ xs) ys a = ap (λ (t : Option X). cond (is_eq (order k x.0)) (Some x.1) t) (value_at-in_front k xs ys a)

  -- at a key from low on, where the first list lies below low: what the second has
  pub value_at-following : (low k : List ℕ) (xs ys : List (List ℕ × X)) → is_below k low ≡ false → AreBelow low (keys_of xs) → value_at k (xs ++ ys) ≡ value_at k ys
  value_at-following low k [] ys h a = refl
  value_at-following low k (x ∷ xs) ys h a =
      rw (flipped_less x.0 k (less_through x.0 k low a.0 h)) (value_at-following low k xs ys h a.1)
