-- Lemmas on places in lists of rising keys, where an edge divides the list.
use Rattle.std.specs.Prelude.{◌≡◌, ◌<◌, ◌≤◌, ◌+◌, ◌-◌, ℕ, zero, suc, max, Bool, true, false, not, ◌||◌, cond, List, [], ◌∷◌, ◌++◌, length, take, drop, slice_get, Some, count_by}
use Rattle.std.proofs.Common.{refl, sym, ap, ◌∙◌, subst, arith, add-one, Ordering, Less, Equal, Greater}
use Rattle.std.specs.Ordering.{is_lt}
use Rattle.std.specs.List.{AllByRecursion, filter}
use Rattle.std.specs.List.Sorted.{IsStrictlySortedBy}
use Rattle.std.specs.Map.{keys_of, values_of}
use Rattle.std.proofs.lemmas.List.Sums.{sum_by-cons}
use Rattle.keys.specs.Order.{order, IsRising}
use Rattle.keys.specs.Range.{is_below}
use Rattle.keys.proofs.MapLemmas.{IsBelowAll, same_key, flipped_greater}
use Rattle.delta_chain.proofs.Places.{drop_pair}
use Rattle.scan.specs.Direction.{left_at, IsNext, IsNonePlace, IsNextPlace}
use Rattle.scan.specs.Edge.{is_beyond, beyond, is_under, IsOutermost}
use Rattle.scan.specs.Path.{child_place, children_up, children_beyond}
use Rattle.scan.specs.Prefix.{begins_with}
use Rattle.scan.specs.RankCounter.{PassesLower}
use Rattle.scan.specs.declared.direction.Direction.{Direction}
use Rattle.scan.specs.declared.direction.Direction.TheVariants.{Up, Down}
use Rattle.scan.specs.declared.edge.Edge.{Edge}
use Rattle.scan.specs.declared.edge.Edge.TheVariants.{Low, Before, After, AfterPrefix, High}
use Rattle.scan.proofs.LastLemmas.{passes_none, passes_all, last_place, no_place, above_through}
use Rattle.delta_chain.proofs.Merges.{rising_after}
use Rattle.scan.proofs.LeafLemmas.{above_not_below}
use Rattle.scan.proofs.DirectionLemmas.{below_through, next_mapped}
use Rattle.scan.proofs.PrefixLemmas.{later_begins_not}

fails_by : (test : List ℕ → Bool) → PassesLower test → (b : Bool) (e f : List ℕ) → test f ≡ b → test e ≡ false → order e f ≡ Less → b ≡ false
fails_by test lower true e f h n l = absurd (let t = lower e f h (above_not_below e f l) in cc)
fails_by test lower false e f h n l = refl

module _ {V : Type 0} (test : List ℕ → Bool) (lower : PassesLower test) where
  -- if a key isn't below the edge, no greater key is
  pub none_passes_later : (e : List ℕ) (es : List (List ℕ × V)) → test e ≡ false → IsBelowAll e (keys_of es) → AllByRecursion (λ f. test f.0 ≡ false) es
  none_passes_later e [] n a = tt
  none_passes_later e (f ∷ es) n a = (fails_by test lower (test f.0) e f.0 refl n a.0, none_passes_later e es n a.1)

  pub none_counted : (es : List (List ℕ × V)) → AllByRecursion (λ f. test f.0 ≡ false) es → count_by test (keys_of es) ≡ 0
  none_counted [] a = refl
  none_counted (e ∷ es) a = sum_by-cons (λ k. cond (test k) 1 0) e.0 (keys_of es) ∙ ap (λ (b : Bool). cond b 1 0 + count_by test (keys_of es)) a.0 ∙ ap (λ (n : ℕ). 0 + n) (none_counted es a.1)

  -- the pairs below the edge are the first ones, as many as there are keys below it
  parts_by : (b : Bool) (n : ℕ) (e : List ℕ × V) (es : List (List ℕ × V)) → (b ≡ false → (n ≡ 0) × (filter (λ f. test f.0) es ≡ []) × (filter (λ f. not (test f.0)) es ≡ es))
      → (take n es ≡ filter (λ f. test f.0) es) × (drop n es ≡ filter (λ f. not (test f.0)) es)
      → (take (cond b 1 0 + n) (e ∷ es) ≡ cond b (e ∷ filter (λ f. test f.0) es) (filter (λ f. test f.0) es)) × (drop (cond b 1 0 + n) (e ∷ es) ≡ cond (not b) (e ∷ filter (λ f. not (test f.0)) es) (filter (λ f. not (test f.0)) es))
  parts_by true n e es z ih =
      let one : 1 + n ≡ suc n = omega arith in
      (ap (λ (i : ℕ). take i (e ∷ es)) one ∙ ap (λ (x : List (List ℕ × V)). e ∷ x) ih.0, ap (λ (i : ℕ). drop i (e ∷ es)) one ∙ ih.1)
  parts_by false n e es z ih =
      let none : 0 + n ≡ 0 = omega (arith, (z refl).0) in
      (ap (λ (i : ℕ). take i (e ∷ es)) none ∙ sym (z refl).1, ap (λ (i : ℕ). drop i (e ∷ es)) none ∙ ap (λ (x : List (List ℕ × V)). e ∷ x) (sym (z refl).2))

  all_kept : (es : List (List ℕ × V)) → AllByRecursion (λ f. test f.0 ≡ false) es → filter (λ f. not (test f.0)) es ≡ es
  all_kept [] a = refl
  all_kept (e ∷ es) a = rw a.0 (ap (λ (x : List (List ℕ × V)). e ∷ x) (all_kept es a.1))

  pub parts_at_edge : (es : List (List ℕ × V)) → IsRising es → (take (count_by test (keys_of es)) es ≡ filter (λ f. test f.0) es) × (drop (count_by test (keys_of es)) es ≡ filter (λ f. not (test f.0)) es)
  unfolding IsStrictlySortedBy
  parts_at_edge [] r = (refl, refl)
  parts_at_edge (e ∷ es) r =
      let counted = sum_by-cons (λ k. cond (test k) 1 0) e.0 (keys_of es) in
      let none : test e.0 ≡ false → (count_by test (keys_of es) ≡ 0) × (filter (λ f. test f.0) es ≡ []) × (filter (λ f. not (test f.0)) es ≡ es) =
      λ n. (let a = none_passes_later e.0 es n r.0 in (none_counted es a, passes_none (λ f. test f.0) es a, all_kept es a)) in
      let p = parts_by (test e.0) (count_by test (keys_of es)) e es none (parts_at_edge es r.1) in
      (ap (λ (i : ℕ). take i (e ∷ es)) counted ∙ p.0, ap (λ (i : ℕ). drop i (e ∷ es)) counted ∙ p.1)

  split_by : (b : Bool) (e : List ℕ × V) (es : List (List ℕ × V)) → (b ≡ false → filter (λ f. test f.0) es ≡ []) → es ≡ filter (λ f. test f.0) es ++ filter (λ f. not (test f.0)) es
      → e ∷ es ≡ cond b (e ∷ filter (λ f. test f.0) es) (filter (λ f. test f.0) es) ++ cond (not b) (e ∷ filter (λ f. not (test f.0)) es) (filter (λ f. not (test f.0)) es)
  split_by true e es n ih = ap (λ (x : List (List ℕ × V)). e ∷ x) ih
  split_by false e es n ih =
      ap (λ (x : List (List ℕ × V)). e ∷ x) (ih ∙ ap (λ (x : List (List ℕ × V)). x ++ filter (λ f. not (test f.0)) es) (n refl)) ∙ sym (ap (λ (x : List (List ℕ × V)). x ++ e ∷ filter (λ f. not (test f.0)) es) (n refl))

  -- rising pairs are those below the edge, followed by the others
  pub split_at_edge : (es : List (List ℕ × V)) → IsRising es → es ≡ filter (λ f. test f.0) es ++ filter (λ f. not (test f.0)) es
  unfolding IsStrictlySortedBy
  split_at_edge [] r = refl
  split_at_edge (e ∷ es) r = split_by (test e.0) e es (λ n. passes_none (λ f. test f.0) es (none_passes_later e.0 es n r.0)) (split_at_edge es r.1)

  -- an iteration in either direction begins at the place of the edge
  pub begins_at_edge : (d : Direction) (es : List (List ℕ × V)) (at : ℕ) → IsRising es → at ≡ count_by test (keys_of es) → left_at d at es ≡ beyond d test es
  begins_at_edge Up es at r h = ap (λ (n : ℕ). drop n es) h ∙ (parts_at_edge es r).1
  begins_at_edge Down es at r h = ap (λ (n : ℕ). take n es) h ∙ (parts_at_edge es r).0

module _ {V : Type 0} where
  -- the pair at the next place is the next, and the others remain after it
  pub at_next_place : (d : Direction) (es : List (List ℕ × V)) (at here later : ℕ) (k : List ℕ) (v : V) → IsNextPlace d at (length es) here later → slice_get (keys_of es) here ≡ Some k → slice_get (values_of es) here ≡ Some v → IsNext d (left_at d at es) (k, v) (left_at d later es)
  at_next_place Up es at here later k v p h i =
      let same : here ≡ at = p.1 in
      drop_pair es at k v (ap (λ (n : ℕ). slice_get (keys_of es) n) (sym same) ∙ h) (ap (λ (n : ℕ). slice_get (values_of es) n) (sym same) ∙ i)
      ∙ ap (λ (n : ℕ). (k, v) ∷ drop n es) (sym (add-one at) ∙ sym p.2)
  at_next_place Down es at here later k v p h i =
      sym (last_place es at here k v h i p.0) ∙ ap (λ (n : ℕ). take n es ++ (k, v) ∷ []) (sym p.1)

  value_there : (es : List (List ℕ × V)) (i : ℕ) (k : List ℕ) → slice_get (keys_of es) i ≡ Some k → (v : V) × (slice_get (values_of es) i ≡ Some v)
  value_there [] i k h = absurd (cc)
  value_there (e ∷ es) zero k h = (e.1, refl)
  value_there (e ∷ es) (suc i) k h = value_there es i k h

  entry_there : (es : List (List ℕ × V)) (i : ℕ) → i < length es → (k : List ℕ) × (v : V) × (slice_get (keys_of es) i ≡ Some k) × (slice_get (values_of es) i ≡ Some v)
  entry_there [] i l = absurd (omega arith)
  entry_there (e ∷ es) zero l = (e.0, e.1, refl, refl)
  entry_there (e ∷ es) (suc i) l = let m : i < length es = omega (arith, l) in entry_there es i m

  -- there is a pair at the next place
  pub next_there_is : (d : Direction) (es : List (List ℕ × V)) (at here later : ℕ) → IsNextPlace d at (length es) here later → (k : List ℕ) × (v : V) × (slice_get (keys_of es) here ≡ Some k) × (slice_get (values_of es) here ≡ Some v)
  next_there_is Up es at here later p = let l : here < length es = omega (arith, p.0, p.1) in entry_there es here l
  next_there_is Down es at here later p = let l : here < length es = omega (arith, p.0) in entry_there es here l

  -- the same if only the key is known
  pub at_next_key : (d : Direction) (es : List (List ℕ × V)) (at here later : ℕ) (k : List ℕ) → IsNextPlace d at (length es) here later → slice_get (keys_of es) here ≡ Some k → (v : V) × IsNext d (left_at d at es) (k, v) (left_at d later es)
  at_next_key d es at here later k p h = let w = value_there es here k h in (w.0, at_next_place d es at here later k w.0 p h w.1)

  key_there : (es : List (List ℕ × V)) (i : ℕ) (v : V) → slice_get (values_of es) i ≡ Some v → (k : List ℕ) × (slice_get (keys_of es) i ≡ Some k)
  key_there [] i v h = absurd (cc)
  key_there (e ∷ es) zero v h = (e.0, refl)
  key_there (e ∷ es) (suc i) v h = key_there es i v h

  -- the same for values alone
  pub at_next_value : (d : Direction) (es : List (List ℕ × V)) (at here later : ℕ) (v : V) → IsNextPlace d at (length es) here later → slice_get (values_of es) here ≡ Some v → IsNext d (values_of (left_at d at es)) v (values_of (left_at d later es))
  at_next_value d es at here later v p h =
      let k = key_there es here v h in
      next_mapped (λ (e : List ℕ × V). e.1) d (k.0, v) (left_at d at es) (left_at d later es) (at_next_place d es at here later k.0 v p k.1 h)

  -- at the end no pair remains
  pub at_end : (d : Direction) (es : List (List ℕ × V)) (at : ℕ) → IsNonePlace d at (length es) → left_at d at es ≡ []
  at_end Up es at n = drop_all es at n
    where
      drop_all : (es : List (List ℕ × V)) (at : ℕ) → length es ≤ at → drop at es ≡ []
      drop_all [] zero n = refl
      drop_all [] (suc at) n = refl
      drop_all (e ∷ es) zero n = absurd (omega arith)
      drop_all (e ∷ es) (suc at) n = drop_all es at (omega arith)
  at_end Down es at n = no_place es at n

module _ {V : Type 0} where
  all_taken : (P : List ℕ → Type 0) (n : ℕ) (es : List (List ℕ × V)) → AllByRecursion P (keys_of es) → AllByRecursion P (keys_of (take n es))
  all_taken P zero es a = tt
  all_taken P (suc n) [] a = tt
  all_taken P (suc n) (e ∷ es) a = (a.0, all_taken P n es a.1)

  pub rising-take : (n : ℕ) (es : List (List ℕ × V)) → IsRising es → IsRising (take n es)
  unfolding IsStrictlySortedBy
  rising-take zero es r = tt
  rising-take (suc n) [] r = tt
  rising-take (suc n) (e ∷ es) r = (all_taken (λ j. order e.0 j ≡ Less) n es r.0, rising-take n es r.1)

-- the remaining pairs of rising pairs rise
pub rising_left : {V : Type 0} (d : Direction) (at : ℕ) (es : List (List ℕ × V)) → IsRising es → IsRising (left_at d at es)
rising_left Up at es r = rising_after at es r
rising_left Down at es r = rising-take at es r

-- ---- children

module _ (test : List ℕ → Bool) (lower : PassesLower test) where
  abbrev Separators : Type 0
  Separators = List (List ℕ × ℕ)

  count-cons : (e : List ℕ × ℕ) (es : Separators) → count_by test (keys_of (e ∷ es)) ≡ cond (test e.0) 1 0 + count_by test (keys_of es)
  count-cons e es = sum_by-cons (λ k. cond (test k) 1 0) e.0 (keys_of es)

  drop_nothing : (n : ℕ) → ◌≡◌ {A = Separators} (drop n []) []
  drop_nothing zero = refl
  drop_nothing (suc n) = refl

  at_most_one : (b : Bool) (n c : ℕ) → n ≡ cond b 1 0 + c → c ≡ 0 → max n 1 - 1 ≡ 0
  at_most_one true n c h z = omega (arith, h, z)
  at_most_one false n c h z = omega (arith, h, z)

  up_by : (b : Bool) (e f : List ℕ × ℕ) (es : Separators) → test f.0 ≡ b → IsRising (e ∷ f ∷ es) → drop (max (count_by test (keys_of (f ∷ es))) 1 - 1) (f ∷ es) ≡ children_up test (f ∷ es)
      → drop (max (count_by test (keys_of (e ∷ f ∷ es))) 1 - 1) (e ∷ f ∷ es) ≡ cond b (children_up test (f ∷ es)) (e ∷ f ∷ es)
  unfolding IsStrictlySortedBy
  up_by true e f es h r ih =
      let first : test e.0 ≡ true = lower e.0 f.0 h (above_not_below e.0 f.0 r.0.0) in
      let one : count_by test (keys_of (e ∷ f ∷ es)) ≡ 1 + count_by test (keys_of (f ∷ es)) = count-cons e (f ∷ es) ∙ ap (λ (b : Bool). cond b 1 0 + count_by test (keys_of (f ∷ es))) first in
      let more : count_by test (keys_of (f ∷ es)) ≡ 1 + count_by test (keys_of es) = count-cons f es ∙ ap (λ (b : Bool). cond b 1 0 + count_by test (keys_of es)) h in
      let next : max (count_by test (keys_of (e ∷ f ∷ es))) 1 - 1 ≡ suc (max (count_by test (keys_of (f ∷ es))) 1 - 1) = omega (arith, one, more) in
      ap (λ (n : ℕ). drop n (e ∷ f ∷ es)) next ∙ ih
  up_by false e f es h r ih =
      let none : count_by test (keys_of (f ∷ es)) ≡ 0 = none_counted test lower (f ∷ es) (h, none_passes_later test lower f.0 es h r.1.0) in
      ap (λ (n : ℕ). drop n (e ∷ f ∷ es)) (at_most_one (test e.0) (count_by test (keys_of (e ∷ f ∷ es))) (count_by test (keys_of (f ∷ es))) (count-cons e (f ∷ es)) none)

  up_place : (es : Separators) → IsRising es → drop (max (count_by test (keys_of es)) 1 - 1) es ≡ children_up test es
  unfolding IsStrictlySortedBy
  up_place [] r = drop_nothing (max (count_by test []) 1 - 1)
  up_place (e ∷ []) r = ap (λ (n : ℕ). drop n (e ∷ [])) (at_most_one (test e.0) (count_by test (keys_of (e ∷ []))) 0 (count-cons e []) refl)
  up_place (e ∷ f ∷ es) r = up_by (test f.0) e f es refl r (up_place (f ∷ es) r.1)

  down_by : (b : Bool) (n : ℕ) (e : List ℕ × ℕ) (es : Separators) → (b ≡ false → n ≡ 0) → take n es ≡ filter (λ f. test f.0) es → take (max (cond b 1 0 + n) 1) (e ∷ es) ≡ e ∷ filter (λ f. test f.0) es
  down_by true n e es z ih = let more : max (1 + n) 1 ≡ suc n = omega arith in ap (λ (i : ℕ). take i (e ∷ es)) more ∙ ap (λ (x : Separators). e ∷ x) ih
  down_by false n e es z ih =
      let one : max (0 + n) 1 ≡ suc n = omega (arith, z refl) in
      ap (λ (i : ℕ). take i (e ∷ es)) one ∙ ap (λ (x : Separators). e ∷ x) ih

  down_place : (es : Separators) → IsRising es → take (max (count_by test (keys_of es)) 1) es ≡ children_beyond Down test es
  unfolding IsStrictlySortedBy
  down_place [] r = none_of_nothing (max (count_by test []) 1)
    where
      none_of_nothing : (n : ℕ) → ◌≡◌ {A = Separators} (take n []) []
      none_of_nothing zero = refl
      none_of_nothing (suc n) = refl
  down_place (e ∷ es) r =
      ap (λ (n : ℕ). take (max n 1) (e ∷ es)) (count-cons e es)
      ∙ down_by (test e.0) (count_by test (keys_of es)) e es (λ n. none_counted test lower es (none_passes_later test lower e.0 es n r.0)) (parts_at_edge test lower es r.1).0

  -- where the iteration over children begins
  pub children_begin : (d : Direction) (es : Separators) (count : ℕ) → IsRising es → count ≡ count_by test (keys_of es) → left_at d (child_place d (max count 1)) es ≡ children_beyond d test es
  children_begin Up es count r h = ap (λ (n : ℕ). drop (max n 1 - 1) es) h ∙ up_place es r
  children_begin Down es count r h = ap (λ (n : ℕ). take (max n 1) es) h ∙ down_place es r

-- ---- all keys below a key that is below an edge are below the edge

pub not_above_end : (j k end : List ℕ) → not (is_below end k) ≡ true → is_below k j ≡ false → not (is_below end j) ≡ true
not_above_end j k end t n = by (is_below end j) refl
  where
    -- if the end is below j, and j is not above k, then the end is below k
    through_by : (o : Ordering) → order j k ≡ o → is_below end j ≡ true → is_below end k ≡ true
    through_by Less h b = below_through end j k b (ap is_lt h)
    through_by Equal h b = subst (λ (i : List ℕ). is_below end i ≡ true) (same_key j k h) b
    through_by Greater h b = absurd (let u : is_below k j ≡ true = ap is_lt (flipped_greater j k h) in cc)

    by : (b : Bool) → is_below end j ≡ b → not b ≡ true
    by true h = absurd (let u : not (is_below end k) ≡ false = ap not (through_by (order j k) refl h) in cc)
    by false h = refl

-- if k begins with the prefix, and j is not above k and not below the prefix, then j begins with the prefix
within_prefix : (prefix j k : List ℕ) → begins_with prefix k ≡ true → is_below j prefix ≡ false → is_below k j ≡ false → begins_with prefix j ≡ true
within_prefix prefix j k b n m = by (begins_with prefix j) refl
  where
    never_by : (o : Ordering) → order j k ≡ o → begins_with prefix j ≡ false → ⊥
    never_by Less h f = let t : begins_with prefix k ≡ false = later_begins_not (begins_with prefix k) prefix j k refl f n h in let wrong : true ≡ false = sym b ∙ t in cc
    never_by Equal h f = let t : begins_with prefix j ≡ true = ap (λ (i : List ℕ). begins_with prefix i) (same_key j k h) ∙ b in let wrong : true ≡ false = sym t ∙ f in cc
    never_by Greater h f = let u : is_below k j ≡ true = ap is_lt (flipped_greater j k h) in let wrong : true ≡ false = sym u ∙ m in cc

    by : (c : Bool) → begins_with prefix j ≡ c → begins_with prefix j ≡ true
    by true h = h
    by false h = absurd (never_by (order j k) refl h)

pub under_prefix : (j k prefix : List ℕ) → (is_below k prefix || begins_with prefix k) ≡ true → is_below k j ≡ false → (is_below j prefix || begins_with prefix j) ≡ true
under_prefix j k prefix t n = by (is_below k prefix) (is_below j prefix) refl refl t
  where
    by : (b c : Bool) → is_below k prefix ≡ b → is_below j prefix ≡ c → (b || begins_with prefix k) ≡ true → (c || begins_with prefix j) ≡ true
    by b true h i u = refl
    by true false h i u = absurd (let l = above_through (order j k) j k prefix refl n h in cc)
    by false false h i u = within_prefix prefix j k u i n

pub edge_passes_lower : (edge : Edge) → PassesLower (is_under edge)
edge_passes_lower Low = λ j k t n. absurd (cc)
edge_passes_lower (Before end) = λ j k t n. above_through (order j k) j k end.now refl n t
edge_passes_lower (After end) = λ j k t n. not_above_end j k end.now t n
edge_passes_lower (AfterPrefix prefix) = λ j k t n. under_prefix j k prefix.now t n
edge_passes_lower High = λ j k t n. refl

-- ---- the edge from which an iteration goes over all keys

outermost_all : {V : Type 0} (d : Direction) (test : List ℕ → Bool) (es : List (List ℕ × V)) → IsOutermost d test → AllByRecursion (λ e. is_beyond d test e.0 ≡ true) es
outermost_all d test [] o = tt
outermost_all d test (e ∷ es) o = (o e.0, outermost_all d test es o)

pub all_beyond : {V : Type 0} (d : Direction) (test : List ℕ → Bool) (es : List (List ℕ × V)) → IsOutermost d test → beyond d test es ≡ es
all_beyond d test es o = passes_all (λ e. is_beyond d test e.0) es (outermost_all d test es o)

pub whole_leaf : {V : Type 0} (d e : Direction) (test : List ℕ → Bool) (es new : List (List ℕ × V)) → IsOutermost e test → e ≡ d → new ≡ beyond d test es → new ≡ es
whole_leaf d e test es new o s h = h ∙ all_beyond d test es (subst (λ (x : Direction). IsOutermost x test) s o)
