-- Lemmas on lower bounds on the number of pairs in a range, after commands that may delete.
use Rattle.std.specs.Prelude.{◌≡◌, ℕ, zero, suc, ◌+◌, ◌-◌, ◌<◌, ◌≤◌, Bool, true, false, not, ◌&&◌, cond, List, [], ◌∷◌, ◌++◌, length, min, take, drop, Option, Some, None, is_some, if◌then◌else◌}
use Rattle.std.proofs.Common.{refl, sym, ap, ◌∙◌, subst, arith, Ordering, Less, Equal, Greater, length-append, length-drop}
use Rattle.std.specs.List.{AllByRecursion, filter}
use Rattle.std.specs.List.Sorted.{IsPartitionPoint}
use Rattle.std.specs.Map.{keys_of}
use Rattle.std.specs.Ordering.{is_eq, match_ordering}
use Rattle.std.proofs.lemmas.List.{get_or-take, get_or-drop, length-take}
use Rattle.std.proofs.lemmas.List.Elements.{filter-append, recursion_from_All}
use Rattle.std.proofs.lemmas.List.Sums.{length-filter}
use Rattle.keys.specs.Order.{order}
use Rattle.keys.specs.OrderedMap.{value_at, with_pair, without}
use Rattle.keys.specs.Range.{is_below, is_within, in_range, out_of_range}
use Rattle.keys.specs.Step.{map_after, map_after_all}
use Rattle.keys.specs.declared.command.Command.{Command}
use Rattle.keys.specs.declared.command.Command.TheVariants.{Get, Put, Add, Del, Scan, Wipe}
use Rattle.keys.proofs.MapLemmas.{total, passes_same}
use Rattle.keys.proofs.RangeLemmas.{none_in_range}
use Rattle.delta_chain.specs.Layers.{Layers, with_change, with_run, entries_under, entries_of}
use Rattle.index_page.proofs.RangeLemmas.{less_is_below, below_is_less, less_through, not_below_lower}
use Rattle.page_search.specs.Places.{count_below}
use Rattle.scan.specs.RankCounter.{below}
use Rattle.scan.specs.Ends.{Deletions, deleted_by, deleted, wiped_by, wiped, IsUntouched, count_within, LacksAtMost, AreCertain, later, keyed_below, named_below_under, named_below}

-- ---- how many are kept of a list, one element at a time

module _ {X : Type 0} where
  same_by : (b : Bool) (x y : X) (xs ys : List X) → length xs ≤ length ys → length (cond b (x ∷ xs) xs) ≤ length (cond b (y ∷ ys) ys)
  same_by true x y xs ys h = omega arith
  same_by false x y xs ys h = h

  more_by : (b : Bool) (x : X) (xs : List X) → length xs ≤ length (cond b (x ∷ xs) xs)
  more_by true x xs = omega arith
  more_by false x xs = omega arith

  plus_by : (b : Bool) (n : ℕ) (x : X) (xs ys : List X) → length xs ≤ length ys + n → length (cond b (x ∷ xs) xs) ≤ length (cond b (x ∷ ys) ys) + n
  plus_by true n x xs ys h = omega arith
  plus_by false n x xs ys h = h

  one_by : {Y : Type 0} (b : Bool) (x : X) (xs : List X) (y : Y) → length (cond b (x ∷ xs) xs) ≤ length xs + length (cond b (y ∷ []) [])
  one_by true x xs y = omega arith
  one_by false x xs y = omega arith

  -- those that pass one test and not another that is narrower, and those that pass this one
  apart_by : (a b : Bool) (x : X) (both less all : List X) → (a ≡ true → b ≡ true) → length both + length less ≡ length all
      → length (cond (not a && b) (x ∷ both) both) + length (cond a (x ∷ less) less) ≡ length (cond b (x ∷ all) all)
  apart_by true true x both less all i h = omega (arith, h)
  apart_by true false x both less all i h = absurd (let f = i refl in cc)
  apart_by false true x both less all i h = omega (arith, h)
  apart_by false false x both less all i h = h

  apart : (f g : X → Bool) (xs : List X) → ((x : X) → f x ≡ true → g x ≡ true) → length (filter (λ x. not (f x) && g x) xs) + length (filter f xs) ≡ length (filter g xs)
  apart f g [] i = refl
  apart f g (x ∷ xs) i = apart_by (f x) (g x) x (filter (λ x. not (f x) && g x) xs) (filter f xs) (filter g xs) (i x) (apart f g xs i)

  -- of three tests, each narrower than the next: what lies between them
  between_by : (a b c : Bool) (x : X) (low high all : List X) → (a ≡ true → b ≡ true) → (b ≡ true → c ≡ true) → length low + length high ≤ length all
      → length (cond (not a && b) (x ∷ low) low) + length (cond (not b && c) (x ∷ high) high) ≤ length (cond (not a && c) (x ∷ all) all)
  between_by true true true x low high all i j h = h
  between_by true true false x low high all i j h = absurd (let f = j refl in cc)
  between_by true false c x low high all i j h = absurd (let f = i refl in cc)
  between_by false true true x low high all i j h = omega (arith, h)
  between_by false true false x low high all i j h = absurd (let f = j refl in cc)
  between_by false false true x low high all i j h = omega (arith, h)
  between_by false false false x low high all i j h = h

  between : (f g h : X → Bool) (xs : List X) → ((x : X) → f x ≡ true → g x ≡ true) → ((x : X) → g x ≡ true → h x ≡ true)
      → length (filter (λ x. not (f x) && g x) xs) + length (filter (λ x. not (g x) && h x) xs) ≤ length (filter (λ x. not (f x) && h x) xs)
  between f g h [] i j = omega arith
  between f g h (x ∷ xs) i j =
      between_by (f x) (g x) (h x) x (filter (λ x. not (f x) && g x) xs) (filter (λ x. not (g x) && h x) xs) (filter (λ x. not (f x) && h x) xs) (i x) (j x) (between f g h xs i j)

  -- if the items that pass come first, their number is the number of these first items
  pub parted : (f : X → Bool) (n : ℕ) (xs : List X) → n ≤ length xs → AllByRecursion (λ x. f x ≡ true) (take n xs) → AllByRecursion (λ x. f x ≡ false) (drop n xs) → length (filter f xs) ≡ n
  parted f zero [] l a b = refl
  parted f (suc n) [] l a b = absurd (omega (arith, l))
  parted f zero (x ∷ xs) l a b = rw b.0 (parted f zero xs (omega arith) tt b.1)
  parted f (suc n) (x ∷ xs) l a b = rw a.0 (ap suc (parted f n xs (omega (arith, l)) a.1 b))

  pub parted_point : (f : X → Bool) (n : ℕ) (xs : List X) → n ≤ length xs → IsPartitionPoint (λ x. f x ≡ true) (λ x. f x ≡ false) xs n → length (filter f xs) ≡ n
  parted_point f n xs l h =
      parted f n xs l (recursion_from_All (λ x. f x ≡ true) (take n xs) (λ k d b.
      let r : k < n = omega (arith, length-take n xs) in
      rw (get_or-take n xs k d r) (h.0 k d (omega arith) r))) (recursion_from_All (λ x. f x ≡ false) (drop n xs) (λ k d b.
      let r : n + k < length xs = omega (arith, length-drop n xs) in
      rw (get_or-drop n xs k d) (h.1 (n + k) d (omega arith) r)))

-- ---- keys

below_by : (b : Bool) (i j k : List ℕ) → is_below i k ≡ b → is_below j i ≡ false → is_below j k ≡ true → b ≡ true
below_by true i j k e n h = refl
below_by false i j k e n h = absurd (let t : is_below j i ≡ true = less_is_below j i (less_through j i k h e) in cc)

-- what isn't above a key that is below another is below that one
below_too : (i j k : List ℕ) → is_below j i ≡ false → is_below j k ≡ true → is_below i k ≡ true
below_too i j k n h = below_by (is_below i k) i j k refl n h

below_through : (i j k : List ℕ) → is_below i j ≡ true → is_below j k ≡ true → is_below i k ≡ true
below_through i j k h l = less_is_below i k (total.trans i j k (below_is_less i j h) (below_is_less j k l))

-- what is below a key is below one that isn't below that key
below_higher : (i j k : List ℕ) → is_below k j ≡ false → is_below i j ≡ true → is_below i k ≡ true
below_higher i j k n h = less_is_below i k (less_through i k j h n)

-- the keys within a range are those below its end, without those below its start
pub count_between : (low end : List ℕ) (keys : List (List ℕ)) → is_below low end ≡ true → count_within low end keys + below low keys ≡ below end keys
count_between low end keys h = apart (λ k. is_below k low) (λ k. is_below k end) keys (λ k b. below_through k low end b h)

-- ---- what commands leave in a range

abbrev pub Pairs : Type 0
Pairs = List (List ℕ × List ℕ)

module _ (t : List ℕ → Bool) where
  abbrev Passing : Pairs → Pairs
  Passing es = filter (λ e. t e.0) es

  put_by : (o : Ordering) (k v : List ℕ) (e : List ℕ × List ℕ) (es rest : Pairs) → length (Passing es) ≤ length (Passing rest) → length (Passing (e ∷ es)) ≤ length (Passing (match_ordering o ((k, v) ∷ e ∷ es) ((e.0, v) ∷ es) (e ∷ rest)))
  put_by Less k v e es rest h = more_by (t k) (k, v) (Passing (e ∷ es))
  put_by Equal k v e es rest h = same_by (t e.0) e (e.0, v) (Passing es) (Passing es) (omega arith)
  put_by Greater k v e es rest h = same_by (t e.0) e e (Passing es) (Passing rest) h

  -- a pair that is put deletes no pair
  most_put : (m : Pairs) (k v : List ℕ) → length (Passing m) ≤ length (Passing (with_pair m k v))
  most_put [] k v = more_by (t k) (k, v) []
  most_put (e ∷ es) k v = put_by (order k e.0) k v e es (with_pair es k v) (most_put es k v)

  either : (b : Bool) (m n : Pairs) → length (Passing m) ≤ length (Passing n) → length (Passing m) ≤ length (Passing (if b then m else n))
  either true m n h = omega arith
  either false m n h = h

  del_by : (b : Bool) (k : List ℕ) (e : List ℕ × List ℕ) (es rest : Pairs) → is_eq (order k e.0) ≡ b → length (Passing es) ≤ length (Passing rest) + length (filter t (k ∷ []))
      → length (Passing (e ∷ es)) ≤ length (Passing (cond b es (e ∷ rest))) + length (filter t (k ∷ []))
  del_by true k e es rest q h =
      subst (λ (c : Bool). length (Passing (e ∷ es)) ≤ length (Passing es) + length (cond c (k ∷ []) [])) (ap t (sym (passes_same k e.0 q))) (one_by (t e.0) e (Passing es) k)
  del_by false k e es rest q h = plus_by (t e.0) (length (filter t (k ∷ []))) e (Passing es) (Passing rest) h

  -- a deleted key removes at most one pair that passes, if the key passes
  most_del : (m : Pairs) (k : List ℕ) → length (Passing m) ≤ length (Passing (without m k)) + length (filter t (k ∷ []))
  most_del [] k = omega arith
  most_del (e ∷ es) k = del_by (is_eq (order k e.0)) k e es (without es k) refl (most_del es k)

  among : (xs ys : List (List ℕ)) → length (filter t (xs ++ ys)) ≡ length (filter t xs) + length (filter t ys)
  among xs ys = ap (λ (zs : List (List ℕ)). length zs) (filter-append t xs ys) ∙ length-append (filter t xs) (filter t ys)

  gone_by : (b : Bool) (e : List ℕ × List ℕ) (xs ys : Pairs) → (b ≡ true → true ≡ false) → length xs ≤ length ys → length (cond b (e ∷ xs) xs) ≤ length ys
  gone_by true e xs ys f h = absurd (let w : true ≡ false = f refl in cc)
  gone_by false e xs ys f h = h

  spared_by : (w : Bool) (e : List ℕ × List ℕ) (es rest : Pairs) → (t e.0 ≡ true → w ≡ false) → length (Passing es) ≤ length (Passing rest) → length (Passing (e ∷ es)) ≤ length (Passing (cond (not w) (e ∷ rest) rest))
  spared_by true e es rest f h = gone_by (t e.0) e (Passing es) (Passing rest) f h
  spared_by false e es rest f h = same_by (t e.0) e e (Passing es) (Passing rest) h

  -- a range in which no key passes removes no pair that passes
  abbrev IsSpared : List ℕ × Option (List ℕ) → Type 0
  IsSpared range = (k : List ℕ) → t k ≡ true → is_within range.0 range.1 k ≡ false

  most_wipe : (m : Pairs) (lo : List ℕ) (hi : Option (List ℕ)) → IsSpared (lo, hi) → length (Passing m) ≤ length (Passing (out_of_range lo hi m))
  most_wipe [] lo hi f = omega arith
  most_wipe (e ∷ es) lo hi f = spared_by (is_within lo hi e.0) e es (out_of_range lo hi es) (f e.0) (most_wipe es lo hi f)

  module _ {A : Type 0} where
    most_after : (m : Pairs) (c : Command A) → AllByRecursion IsSpared (wiped_by c) → length (Passing m) ≤ length (Passing (map_after m c)) + length (filter t (deleted_by c))
    most_after m (Get k) f = omega arith
    most_after m (Put k v) f = let h = most_put m k v in omega (arith, h)
    most_after m (Add k v) f = let h = either (is_some (value_at k m)) m (with_pair m k v) (most_put m k v) in omega (arith, h)
    most_after m (Del k) f = most_del m k
    most_after m (Scan lo hi limit) f = omega arith
    most_after m (Wipe lo hi) f = let h = most_wipe m lo hi f.0 in omega (arith, h)

    most_after_all : (m : Pairs) (cs : List (Command A)) → AllByRecursion (λ c. AllByRecursion IsSpared (wiped_by c)) cs → length (Passing m) ≤ length (Passing (map_after_all m cs)) + length (filter t (deleted cs))
    most_after_all m [] f = omega arith
    most_after_all m (c ∷ cs) f =
        let one = most_after m c f.0 in
        let rest = most_after_all (map_after m c) cs f.1 in
        let parts = among (deleted_by c) (deleted cs) in
        omega (arith, one, rest, parts)

-- ---- ranges in which a leaf has no keys

module _ {X : Type 0} where
  all_parted : (P : X → Type 0) (xs ys : List X) → AllByRecursion P (xs ++ ys) → AllByRecursion P xs × AllByRecursion P ys
  all_parted P [] ys a = (tt, a)
  all_parted P (x ∷ xs) ys a = let rest = all_parted P xs ys a.1 in ((a.0, rest.0), rest.1)

abbrev Misses : List ℕ → List ℕ × Option (List ℕ) → Type 0
Misses k range = is_within range.0 range.1 k ≡ false

-- what holds of all ranges at each key holds of each range at all keys
spared_where : (low end : List ℕ) (ranges : List (List ℕ × Option (List ℕ))) → IsUntouched low end ranges → AllByRecursion (λ range. (k : List ℕ) → is_within low (Some end) k ≡ true → Misses k range) ranges
spared_where low end [] h = tt
spared_where low end (range ∷ ranges) h = (λ k w. (h k w).0, spared_where low end ranges (λ k w. (h k w).1))

spared_of : {A : Type 0} (low end : List ℕ) (cs : List (Command A)) → IsUntouched low end (wiped cs)
    → AllByRecursion (λ c. AllByRecursion (λ range. (k : List ℕ) → is_within low (Some end) k ≡ true → Misses k range) (wiped_by c)) cs
spared_of low end [] h = tt
spared_of low end (c ∷ cs) h =
    (spared_where low end (wiped_by c) (λ k w. (all_parted (Misses k) (wiped_by c) (wiped cs) (h k w)).0), spared_of low end cs (λ k w. (all_parted (Misses k) (wiped_by c) (wiped cs) (h k w)).1))

-- after commands, in each range in which none of them wipes a key at most as many pairs are lacking as they delete there
pub lacks : {A : Type 0} → (m : Pairs) (cs : List (Command A)) → LacksAtMost (deleted cs, wiped cs) m (map_after_all m cs)
lacks m cs = λ low end h. most_after_all (λ k. is_within low (Some end) k) m cs (spared_of low end cs h)

-- ---- a leaf's share

-- of a leaf from its low key on: its least number of entries, less the keys that are deleted there
pub some_certain : (lo low end : List ℕ) (taken : Deletions) (m n es : Pairs) (fewest gone left : ℕ) → is_below low lo ≡ false → is_below low end ≡ true → IsUntouched low end taken.1 → LacksAtMost taken m n → es ≡ in_range low (Some end) m → fewest ≤ length es
    → count_within low end taken.0 ≤ gone → left ≡ fewest - gone → AreCertain lo n low end left
some_certain lo low end taken m n es fewest gone left b h w l e f c s =
    let here : length es ≡ length (in_range low (Some end) m) = ap (λ (x : Pairs). length x) e in
    let lack = l low end w in
    let sum = between (λ e. is_below e.0 lo) (λ e. is_below e.0 low) (λ e. is_below e.0 end) n (λ e q. below_higher e.0 lo low b q) (λ e q. below_through e.0 low end q h) in
    omega (arith, here, lack, sum, f, c, s)

-- and none at least
none_here : (lo low end : List ℕ) (n : Pairs) → is_below low lo ≡ false → is_below low end ≡ true → AreCertain lo n low end 0
none_here lo low end n b h =
    let sum = between (λ e. is_below e.0 lo) (λ e. is_below e.0 low) (λ e. is_below e.0 end) n (λ e q. below_higher e.0 lo low b q) (λ e q. below_through e.0 low end q h) in
    omega (arith, sum)

-- ---- the leaf in which a scan begins

module _ (lo : List ℕ) where
  abbrev Below : {X : Type 0} → List (List ℕ × X) → List (List ℕ × X)
  Below es = filter (λ e. is_below e.0 lo) es

  taken_by : (b : Bool) (e : List ℕ × List ℕ) (es rest : Pairs) → length (Below rest) ≤ length (Below es) → length (Below (cond b es (e ∷ rest))) ≤ length (Below (e ∷ es))
  taken_by true e es rest h = more_by (is_below e.0 lo) e (Below es)
  taken_by false e es rest h = same_by (is_below e.0 lo) e e (Below rest) (Below es) h

  none_added : (m : Pairs) (k : List ℕ) → length (Below (without m k)) ≤ length (Below m)
  none_added [] k = omega arith
  none_added (e ∷ es) k = taken_by (is_eq (order k e.0)) e es (without es k) (none_added es k)

  first_by : {X Y : Type 0} (b : Bool) (x : X) (y : Y) (xs : List X) → length (cond b (x ∷ xs) xs) ≤ length xs + length (cond b (y ∷ []) [])
  first_by true x y xs = omega arith
  first_by false x y xs = omega arith

  kept_by : {X : Type 0} (b : Bool) (x y : X) (xs : List X) (n : ℕ) → length (cond b (x ∷ xs) xs) ≤ length (cond b (y ∷ xs) xs) + n
  kept_by true x y xs n = omega arith
  kept_by false x y xs n = omega arith

  put_here : (o : Ordering) (k v : List ℕ) (e : List ℕ × List ℕ) (es rest : Pairs) → length (Below rest) ≤ length (Below es) + keyed_below lo ((k, v) ∷ [])
      → length (Below (match_ordering o ((k, v) ∷ e ∷ es) ((e.0, v) ∷ es) (e ∷ rest))) ≤ length (Below (e ∷ es)) + keyed_below lo ((k, v) ∷ [])
  put_here Less k v e es rest h = first_by (is_below k lo) (k, v) (k, v) (Below (e ∷ es))
  put_here Equal k v e es rest h = kept_by (is_below e.0 lo) (e.0, v) e (Below es) (keyed_below lo ((k, v) ∷ []))
  put_here Greater k v e es rest h = plus_by (is_below e.0 lo) (keyed_below lo ((k, v) ∷ [])) e (Below rest) (Below es) h

  one_added : (m : Pairs) (k v : List ℕ) → length (Below (with_pair m k v)) ≤ length (Below m) + keyed_below lo ((k, v) ∷ [])
  one_added [] k v = omega arith
  one_added (e ∷ es) k v = put_here (order k e.0) k v e es (with_pair es k v) (one_added es k v)

  key_alone : {X Y : Type 0} (b : Bool) (x : X) (y : Y) → length (cond b (x ∷ []) []) ≡ length (cond b (y ∷ []) [])
  key_alone true x y = refl
  key_alone false x y = refl

  changed : (m : Pairs) (k : List ℕ) (o : Option (List ℕ)) → length (Below (with_change m k o)) ≤ length (Below m) + keyed_below lo ((k, o) ∷ [])
  changed m k None = let h = none_added m k in omega (arith, h)
  changed m k (Some v) =
      let h = one_added m k v in
      let same : keyed_below lo ((k, v) ∷ []) ≡ keyed_below lo ((k, Some v) ∷ []) = key_alone (is_below k lo) (k, v) (k, Some v) in
      omega (arith, h, same)

  front_by : {X : Type 0} (b : Bool) (x : X) (xs : List X) → length (cond b (x ∷ xs) xs) ≡ length (cond b (x ∷ []) []) + length xs
  front_by true x xs = omega arith
  front_by false x xs = omega arith

  run_adds : (m : Pairs) (run : List (List ℕ × Option (List ℕ))) → length (Below (with_run m run)) ≤ length (Below m) + keyed_below lo run
  run_adds m [] = omega arith
  run_adds m (c ∷ cs) =
      let one = changed m c.0 c.1 in
      let rest = run_adds (with_change m c.0 c.1) cs in
      let parts : keyed_below lo (c ∷ cs) ≡ keyed_below lo ((c.0, c.1) ∷ []) + keyed_below lo cs = front_by (is_below c.0 lo) c (Below cs) in
      omega (arith, one, rest, parts)

  -- a leaf has at most as many entries below a key as its lists have keys below it
  pub entries_below : (runs : List (List (List ℕ × Option (List ℕ)))) (base : Pairs) → length (Below (entries_under runs base)) ≤ named_below_under lo runs base
  entries_below [] base = omega arith
  entries_below (run ∷ runs) base =
      let here = run_adds (entries_under runs base) run in
      let rest = entries_below runs base in
      omega (arith, here, rest)

  keys_by : {X : Type 0} (b : Bool) (x : X) (k : List ℕ) (xs : List X) (ks : List (List ℕ)) → length xs ≡ length ks → length (cond b (x ∷ xs) xs) ≡ length (cond b (k ∷ ks) ks)
  keys_by true x k xs ks h = ap suc h
  keys_by false x k xs ks h = h

  below-keys : {X : Type 0} (es : List (List ℕ × X)) → keyed_below lo es ≡ length (filter (λ k. is_below k lo) (keys_of es))
  below-keys [] = refl
  below-keys (e ∷ es) = keys_by (is_below e.0 lo) e e.0 (Below es) (filter (λ k. is_below k lo) (keys_of es)) (below-keys es)

  -- what a search in a list finds
  pub below-place : {X : Type 0} (es : List (List ℕ × X)) (n : ℕ) → n ≡ count_below lo (keys_of es) → keyed_below lo es ≡ n
  below-place es n h = below-keys es ∙ length-filter (λ k. is_below k lo) (keys_of es) ∙ sym h

  parted_by : (w b c : Bool) (e : List ℕ × List ℕ) (es rest : Pairs) → is_below e.0 lo ≡ b → (w ≡ true → c ≡ true) → length es ≤ length (Below es) + length rest
      → length (cond w (e ∷ es) es) ≤ length (Below (cond w (e ∷ es) es)) + length (cond (not b && c) (e ∷ rest) rest)
  parted_by true true c e es rest q i h = rw q (omega (arith, h))
  parted_by true false true e es rest q i h = rw q (omega (arith, h))
  parted_by true false false e es rest q i h = absurd (let f = i refl in cc)
  parted_by false b c e es rest q i h = let more = more_by (not b && c) e rest in omega (arith, h, more)

  before_by : (a c : Bool) → (not a && c) ≡ true → c ≡ true
  before_by true c h = absurd (cc)
  before_by false c h = h

  -- what lies in a range lies below the key, or from it on
  parted_range : (low end : List ℕ) (m : Pairs) → length (in_range low (Some end) m) ≤ length (Below (in_range low (Some end) m)) + length (in_range lo (Some end) m)
  parted_range low end [] = omega arith
  parted_range low end (e ∷ m) =
      parted_by (is_within low (Some end) e.0) (is_below e.0 lo) (is_below e.0 end) e (in_range low (Some end) m) (in_range lo (Some end) m) refl (before_by (is_below e.0 low) (is_below e.0 end)) (parted_range low end m)

-- a scan that begins within the leaf has at least the entries of the leaf, less the keys of its lists below the scan, and less the deleted ones
pub after_certain : (lo low end : List ℕ) (taken : Deletions) (m n : Pairs) (p : Layers (List ℕ)) (fewest most named gone left : ℕ) → is_below low lo ≡ true → IsUntouched lo end taken.1 → LacksAtMost taken m n → entries_of p ≡ in_range low (Some end) m
    → fewest ≤ length (entries_of p) → fewest ≤ most → named ≡ min (named_below lo p) most → count_within lo end taken.0 ≤ gone → left ≡ (fewest - named) - gone → AreCertain lo n low end left
after_certain lo low end taken m n p fewest most named gone left b w l e f u s g r =
    let lack = l lo end w in
    let parts = parted_range lo low end m in
    let below = entries_below lo p.runs p.base in
    let whole : length (entries_of p) ≡ length (in_range low (Some end) m) = ap (λ (x : Pairs). length x) e in
    let named_there : length (Below lo (entries_of p)) ≡ length (Below lo (in_range low (Some end) m)) = ap (λ (x : Pairs). length (Below lo x)) e in
    let nothing : length (in_range lo (Some low) n) ≡ 0 = ap (λ (x : Pairs). length x) (none_in_range n lo low (not_below_lower low lo (below_is_less low lo b))) in
    omega (arith, lack, parts, below, whole, named_there, nothing, f, u, s, g, r)

-- and none at least
none_after : (lo low end : List ℕ) (n : Pairs) → is_below low lo ≡ true → AreCertain lo n low end 0
none_after lo low end n b =
    let nothing : length (in_range lo (Some low) n) ≡ 0 = ap (λ (x : Pairs). length x) (none_in_range n lo low (not_below_lower low lo (below_is_less low lo b))) in
    omega (arith, nothing)

-- so of a leaf wherever the scan begins
pub none_certain : (b : Bool) (lo low end : List ℕ) (n : Pairs) → is_below low lo ≡ b → is_below low end ≡ true → AreCertain lo n low end 0
none_certain true lo low end n b h = none_after lo low end n b
none_certain false lo low end n b h = none_here lo low end n b h

-- where the scan's share of a leaf begins
pub later_lo : (low lo : List ℕ) → is_below low lo ≡ true → later low lo ≡ lo
later_lo low lo h = ap (λ (b : Bool). if b then lo else low) h

pub later_low : (low lo : List ℕ) → is_below low lo ≡ false → later low lo ≡ low
later_low low lo h = ap (λ (b : Bool). if b then lo else low) h

-- ---- the lists of a leaf, counted one after the other up to the greatest number

pub one_list_more : (most named place new all : ℕ) (key : List ℕ) (p below : Layers (List ℕ)) (run : List (List ℕ × Option (List ℕ))) → p ≡ record below { runs = run ∷ below.runs } → place ≡ count_below key (keys_of run)
    → new ≡ min (named + place) most → min (named + named_below key p) most ≡ min all most → min (new + named_below key below) most ≡ min all most
one_list_more most named place new all key p below run e c s h =
    let whole : named_below key p ≡ named_below key below + keyed_below key run = ap (named_below key) e in
    let here : keyed_below key run ≡ place = below-place key run place c in
    omega (arith, whole, here, s, h)

pub last_list : (most named place new all : ℕ) (key : List ℕ) (p : Layers (List ℕ)) → p.runs ≡ [] → place ≡ count_below key (keys_of p.base) → new ≡ min (named + place) most → min (named + named_below key p) most ≡ min all most → new ≡ min all most
last_list most named place new all key p e c s h =
    let whole : named_below key p ≡ keyed_below key p.base = ap (λ (runs : List (List (List ℕ × Option (List ℕ)))). named_below_under key runs p.base) e in
    let here : keyed_below key p.base ≡ place = below-place key p.base place c in
    omega (arith, whole, here, s, h)
