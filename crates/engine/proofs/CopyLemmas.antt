-- Pairs that are put in the order of their keys, some at a time, after the present ones.
use Rattle.std.proofs.Common.{◌≡◌, ◌≢◌, ◌∙◌, ℕ, suc, ◌<◌, ◌≤◌, ◌+◌, List, [], ◌∷◌, ◌++◌, length, take, drop, Option, Some, None, MatchOption, Less, refl, sym, ap, subst, append_assoc, length-append, arith}
use Rattle.std.proofs.lemmas.List.{append-nil, take-append-drop}
use Rattle.std.specs.List.{AllByRecursion}
use Rattle.std.specs.List.Sorted.{IsStrictlySortedBy}
use Rattle.std.specs.Map.{keys_of}
use Rattle.keys.specs.Bytes.{Bytes, Pairs}
use Rattle.keys.specs.Order.{order, IsRising}
use Rattle.keys.specs.OrderedMap.{with_pair}
use Rattle.keys.specs.Range.{in_range, rows}
use Rattle.keys.specs.Step.{map_after_all}
use Rattle.keys.proofs.MapLemmas.{order_itself, flipped_less, IsBelowAll}
use Rattle.engine.specs.Copies.{puts_of, last_key, IsBegun}
use Rattle.engine.proofs.NumbersLemmas.{all_within}

-- ---- a pair that is put after all others

-- the key is above each of these
abbrev IsAboveAll : Bytes → List Bytes → Type 0
IsAboveAll k js = AllByRecursion (λ j. order j k ≡ Less) js

below_one : (k : Bytes) (m : Pairs Bytes) (e : Bytes × Bytes) (es : Pairs Bytes) → IsBelowAll k (keys_of (m ++ e ∷ es)) → order k e.0 ≡ Less
below_one k [] e es a = a.0
below_one k (d ∷ m) e es a = below_one k m e es a.1

above_all : (m : Pairs Bytes) (e : Bytes × Bytes) (es : Pairs Bytes) → IsRising (m ++ e ∷ es) → IsAboveAll e.0 (keys_of m)
unfolding IsStrictlySortedBy
above_all [] e es r = tt
above_all (d ∷ m) e es r = (below_one d.0 m e es r.0, above_all m e es r.1)

put_after : (m : Pairs Bytes) (k v : Bytes) → IsAboveAll k (keys_of m) → with_pair m k v ≡ m ++ (k, v) ∷ []
put_after [] k v a = refl
put_after (e ∷ es) k v a = rw (flipped_less e.0 k a.0) (ap (λ (x : Pairs Bytes). e ∷ x) (put_after es k v a.1))

pub put_in_order : (m es : Pairs Bytes) → IsRising (m ++ es) → map_after_all m (puts_of es) ≡ m ++ es
put_in_order m [] r = sym (append-nil m)
put_in_order m (e ∷ es) r =
    let next : (m ++ e ∷ []) ++ es ≡ m ++ e ∷ es = append_assoc m (e ∷ []) es in
    ap (λ (x : Pairs Bytes). map_after_all x (puts_of es)) (put_after m e.0 e.1 (above_all m e es r))
    ∙ put_in_order (m ++ e ∷ []) es (subst (λ (x : Pairs Bytes). IsRising x) (sym next) r)
    ∙ next

-- if the next of some rising pairs is put, the map and the pairs after it are still the same pairs
pub next_put : (all m es : Pairs Bytes) (k v : Bytes) → IsRising all → m ++ (k, v) ∷ es ≡ all → with_pair m k v ++ es ≡ all
next_put all m es k v r same =
    ap (λ (x : Pairs Bytes). x ++ es) (put_after m k v (above_all m (k, v) es (subst (λ (x : Pairs Bytes). IsRising x) (sym same) r)))
    ∙ append_assoc m ((k, v) ∷ []) es
    ∙ same

-- ---- the pairs after a key

from_all : (k : Bytes) (es : Pairs Bytes) → IsBelowAll k (keys_of es) → in_range k None es ≡ es
from_all k [] a = refl
from_all k (e ∷ es) a = rw (flipped_less k e.0 a.0) (ap (λ (x : Pairs Bytes). e ∷ x) (from_all k es a.1))

from_key : (m : Pairs Bytes) (k v : Bytes) (l : Pairs Bytes) → IsRising (m ++ (k, v) ∷ l) → in_range k None (m ++ (k, v) ∷ l) ≡ (k, v) ∷ l
unfolding IsStrictlySortedBy
from_key [] k v l r = rw (order_itself k) (ap (λ (x : Pairs Bytes). (k, v) ∷ x) (from_all k l r.0))
from_key (d ∷ m) k v l r = rw (below_one d.0 m (k, v) l r.0) (from_key m k v l r.1)

-- ---- the last key

pub last_key-append : (key : Option Bytes) (xs ys : Pairs Bytes) → last_key key (xs ++ ys) ≡ last_key (last_key key xs) ys
last_key-append key [] ys = refl
last_key-append key (x ∷ xs) ys = last_key-append (Some x.0) xs ys

last_stays : (key : Bytes) (es : Pairs Bytes) → last_key (Some key) es ≢ None
last_stays key [] e = absurd (cc)
last_stays key (x ∷ es) e = last_stays x.0 es e

none_last : (es : Pairs Bytes) → last_key None es ≡ None → es ≡ []
none_last [] e = refl
none_last (x ∷ es) e = absurd (last_stays x.0 es e)

-- some pairs end with one under this key
abbrev EndsWith : Bytes → Pairs Bytes → Type 0
EndsWith k es = (d : Pairs Bytes) × (v : Bytes) × (es ≡ d ++ (k, v) ∷ [])

same_last : (j k : Bytes) → Some j ≡ Some k → j ≡ k
same_last j k e = cc

ends_at : (e : Bytes × Bytes) (es : Pairs Bytes) (k : Bytes) → last_key (Some e.0) es ≡ Some k → EndsWith k (e ∷ es)
ends_at e [] k h = ([], e.1, ap (λ (x : Bytes). (x, e.1) ∷ []) (same_last e.0 k h))
ends_at e (f ∷ es) k h = let (d, v, is) = ends_at f es k h in (e ∷ d, v, ap (λ (x : Pairs Bytes). e ∷ x) is)

ends_with : (es : Pairs Bytes) (k : Bytes) → last_key None es ≡ Some k → EndsWith k es
ends_with [] k h = absurd (cc)
ends_with (e ∷ es) k h = ends_at e es k h

last_of_more : (key : Option Bytes) (es : Pairs Bytes) (k : Bytes) → last_key None es ≡ Some k → last_key key es ≡ Some k
last_of_more key [] k h = absurd (cc)
last_of_more key (e ∷ es) k h = h

some_there : (es : Pairs Bytes) (k : Bytes) → last_key None es ≡ Some k → 0 < length es
some_there [] k h = absurd (cc)
some_there (e ∷ es) k h = omega arith

-- ---- the first of pairs that rise

first_below : (k : Bytes) (xs ys : Pairs Bytes) → IsBelowAll k (keys_of (xs ++ ys)) → IsBelowAll k (keys_of xs)
first_below k [] ys a = tt
first_below k (x ∷ xs) ys a = (a.0, first_below k xs ys a.1)

rising_before : (xs ys : Pairs Bytes) → IsRising (xs ++ ys) → IsRising xs
unfolding IsStrictlySortedBy
rising_before [] ys r = tt
rising_before (x ∷ xs) ys r = (first_below x.0 xs ys r.0, rising_before xs ys r.1)

-- ---- the next rows

module _ (all some left : Pairs Bytes) (n : ℕ) (rises : IsRising all) (whole : some ++ left ≡ all) where
  rows_from_last : (k : Bytes) → last_key None some ≡ Some k → (v : Bytes) × (rows k None (suc n) all ≡ (k, v) ∷ take n left)
  rows_from_last k last =
      let (d, v, is) = ends_with some k last in
      let cut : all ≡ d ++ (k, v) ∷ left = sym whole ∙ ap (λ (x : Pairs Bytes). x ++ left) is ∙ append_assoc d ((k, v) ∷ []) left in
      (v, ap (λ (x : Pairs Bytes). rows k None (suc n) x) cut ∙ ap (λ (x : Pairs Bytes). take (suc n) x) (from_key d k v left (subst (λ (x : Pairs Bytes). IsRising x) cut rises)))

  -- if there is no last key, they are those from the least key on
  pub rows_from_least : last_key None some ≡ None → rows [] None n all ≡ take n left
  rows_from_least last =
      let none : some ≡ [] = none_last some last in
      ap (λ (x : Pairs Bytes). take n x) (all_within all ∙ sym whole ∙ ap (λ (x : Pairs Bytes). x ++ left) none)

  passed_first : {I : Type 0} (view : I → Bytes × Bytes) (o : Option I) (old new rest : Pairs Bytes) (e : Bytes × Bytes)
      → MatchOption o ((old ≡ []) × (new ≡ [])) (λ x. old ≡ view x ∷ new) → old ≡ e ∷ rest → new ≡ rest
  passed_first view None old new rest e h is = absurd (let no : [] ≡ e ∷ rest = sym h.0 ∙ is in cc)
  passed_first view (Some x) old new rest e h is = let same : view x ∷ new ≡ e ∷ rest = sym h ∙ is in cc

  -- otherwise they are those from the last key on, without the first, which is the pair of that key
  pub rows_from_next : {I : Type 0} (view : I → Bytes × Bytes) (o : Option I) (old new : Pairs Bytes) (k : Bytes)
      → MatchOption o ((old ≡ []) × (new ≡ [])) (λ x. old ≡ view x ∷ new) → old ≡ rows k None (suc n) all → last_key None some ≡ Some k → new ≡ take n left
  rows_from_next view o old new k given is last =
      let (v, rest) = rows_from_last k last in
      passed_first view o old new (take n left) (k, v) given (is ∙ rest)

  -- ---- the puts of these rows

  taken : (some ++ take n left) ++ drop n left ≡ all
  taken = append_assoc some (take n left) (drop n left) ∙ ap (λ (x : Pairs Bytes). some ++ x) (take-append-drop n left) ∙ whole

  pub put_next : map_after_all some (puts_of (take n left)) ≡ some ++ take n left
  put_next = put_in_order some (take n left) (rising_before (some ++ take n left) (drop n left) (subst (λ (x : Pairs Bytes). IsRising x) (sym taken) rises))

  pub begun_further : (now : Pairs Bytes) (k : Bytes) → last_key None (take n left) ≡ Some k → now ≡ map_after_all some (puts_of (take n left))
      → IsBegun all now (Some k) × (length some < length now)
  begun_further now k last is =
      let there : now ≡ some ++ take n left = is ∙ put_next in
      let more : 0 < length (take n left) = some_there (take n left) k last in
      let long : length now ≡ length some + length (take n left) = ap (λ (x : Pairs Bytes). length x) there ∙ length-append some (take n left) in (
        record {
          left = drop n left;
          whole = ap (λ (x : Pairs Bytes). x ++ drop n left) there ∙ taken;
          last = ap (λ (x : Pairs Bytes). last_key None x) there ∙ last_key-append None some (take n left) ∙ last_of_more (last_key None some) (take n left) k last;
        },
        omega (arith, long, more),
      )

-- nothing is left
pub all_there : (all some left : Pairs Bytes) (n : ℕ) → some ++ left ≡ all → last_key None (take (suc n) left) ≡ None → some ≡ all
all_there all some [] n whole last = sym (append-nil some) ∙ whole
all_there all some (e ∷ left) n whole last = absurd (last_stays e.0 (take n left) last)

-- there are no more than all
pub begun_within : (all some : Pairs Bytes) (key : Option Bytes) → IsBegun all some key → length some ≤ length all
begun_within all some key begun =
    let long : length all ≡ length some + length begun.left = ap (λ (x : Pairs Bytes). length x) (sym begun.whole) ∙ length-append some begun.left in
    omega (arith, long)

-- at first there are none
pub begun_empty : (all some : Pairs Bytes) → some ≡ [] → IsBegun all some None
begun_empty all some none = record {
  left = all;
  whole = ap (λ (x : Pairs Bytes). x ++ all) none;
  last = ap (λ (x : Pairs Bytes). last_key None x) none;
}

-- ---- a batch of a copy

-- the next pairs are put
pub put_further : (all some rows : Pairs Bytes) (last : Option Bytes) (now : Pairs Bytes) (key : Bytes) → IsRising all → (begun : IsBegun all some last) → rows ≡ take 4096 begun.left
    → last_key None rows ≡ Some key → now ≡ map_after_all some (puts_of rows) → IsBegun all now (Some key) × (length some < length now)
put_further all some rows last now key rises begun is end after =
    begun_further all some begun.left 4096 rises begun.whole now key (ap (λ (x : Pairs Bytes). last_key None x) (sym is) ∙ end)
    (after ∙ ap (λ (x : Pairs Bytes). map_after_all some (puts_of x)) is)

-- or all pairs were put
pub put_all_there : (all some rows : Pairs Bytes) (last : Option Bytes) → (begun : IsBegun all some last) → rows ≡ take 4096 begun.left → last_key None rows ≡ None → some ≡ all
put_all_there all some rows last begun is end = all_there all some begun.left 4095 begun.whole (ap (λ (x : Pairs Bytes). last_key None x) (sym is) ∙ end)

-- ---- an option by its case

pub at_some : {X : Type 0} (A : Type 0) (B : X → Type 0) (o : Option X) (x : X) → MatchOption o A B → o ≡ Some x → B x
at_some A B None x h e = absurd (cc)
at_some A B (Some y) x h e = let same : y ≡ x = cc in subst B same h

pub at_none : {X : Type 0} (A : Type 0) (B : X → Type 0) (o : Option X) → MatchOption o A B → o ≡ None → A
at_none A B None h e = h
at_none A B (Some y) h e = absurd (cc)
