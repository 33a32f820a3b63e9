-- Lemmas on the counts of what commands delete.
use Rattle.std.specs.Prelude.{◌≡◌, ℕ, zero, suc, ◌+◌, ◌-◌, ◌^◌, ◌<◌, ◌≤◌, Bool, true, false, not, ◌&&◌, cond, List, [], ◌∷◌, ◌++◌, flat_map, length, take, Option, Some, None, IfSome, option_to_list, Contains}
use Rattle.std.proofs.Common.{refl, sym, ap, ◌∙◌, subst, arith, get_or, length-append}
use Rattle.std.specs.List.{AllByRecursion, filter}
use Rattle.std.specs.List.Sorted.{IsPermutation}
use Rattle.std.proofs.lemmas.List.{append-nil, take_more, map-append, length-map, length-take}
use Rattle.std.proofs.lemmas.Grind.{flat_map-append}
use Rattle.std.proofs.lemmas.List.Elements.{filter-append, recursion_from_All, Contains-get_or, Contains-append_left, Contains-append_right}
use Rattle.std.proofs.lemmas.List.Sorted.{Contains-permutation}
use Rattle.keys.specs.Range.{is_below, is_before, is_within}
use Rattle.keys.specs.declared.command.Command.{Command}
use Rattle.keys.specs.declared.command.Command.TheVariants.{Get, Put, Add, Del, Scan, Wipe}
use Rattle.keys.proofs.MapLemmas.{total}
use Rattle.index_page.proofs.MeetingLemmas.{both_begin}
use Rattle.index_page.proofs.RangeLemmas.{less_is_below, below_is_less, less_through}
use Rattle.scan.specs.Ends.{Deletions, deleted_by, deleted, wiped_by, wiped, IsUntouched, count_within}
use Rattle.scan.specs.RankCounter.{RankCounter, IsTally, below, up_to}
use Rattle.scan.specs.declared.taken.DeletionsBelow.{DeletionsBelow}
use Rattle.scan.proofs.Enough.{count_between}
use Rattle.scan.specs.Deletions.{lower_bounds, upper_bounds, lower_by, upper_by, all_lower, all_upper, filled, Tallies, AreWiped, IsTaken, IsTakenBelow, IsReadyFor, AreReady, HasKeysOf}

abbrev Key : Type 0
Key = List ℕ

abbrev Bounds : Type 0
Bounds = Key × Option Key

-- ---- ranges that don't meet a leaf

-- whether a range begins below an end, and ends above a low key
abbrev meets : Key → Key → Bounds → Bool
meets low end range = is_below range.0 end && is_before range.1 low

outside_by : (w : Bool) (low end lo : Key) (hi : Option Key) (k : Key) → is_within lo hi k ≡ w → meets low end (lo, hi) ≡ false → is_within low (Some end) k ≡ true → w ≡ false
outside_by false low end lo hi k e m h = refl
outside_by true low end lo hi k e m h =
    let both = both_begin low (Some end) lo hi k h e in
    absurd (let t : meets low end (lo, hi) ≡ true = rw (both.0, both.1) refl in cc)

empty_by : (w : Bool) (lo : Key) (hi : Option Key) (k : Key) → is_within lo hi k ≡ w → is_before hi lo ≡ false → w ≡ false
empty_by false lo hi k e n = refl
empty_by true lo hi k e n = absurd (let t : is_before hi lo ≡ true = (both_begin lo hi lo hi k e e).0 in cc)

-- ---- how many ranges meet a leaf

none_by : {X Y : Type 0} (a : Bool) (x : X) (xs : List X) (y : Y) (ys : List Y) (n : ℕ) → length xs ≡ n + length ys → length (cond a (x ∷ xs) xs) ≡ n + length (cond (a && true) (y ∷ ys) ys)
none_by true x xs y ys n h = omega (arith, h)
none_by false x xs y ys n h = h

some_by : {X Y Z : Type 0} (a b : Bool) (x : X) (xs : List X) (y : Y) (ys : List Y) (z : Z) (zs : List Z) → (b ≡ false → a ≡ true) → length xs ≡ length zs + length ys
    → length (cond a (x ∷ xs) xs) ≡ length (cond (not b) (z ∷ zs) zs) + length (cond (a && b) (y ∷ ys) ys)
some_by true true x xs y ys z zs i h = omega (arith, h)
some_by true false x xs y ys z zs i h = omega (arith, h)
some_by false true x xs y ys z zs i h = h
some_by false false x xs y ys z zs i h = absurd (let f = i refl in cc)

module _ (low end : Key) (apart : is_below low end ≡ true) where
  -- those that begin below the end are those that are over at the low key, and those that meet the leaf
  abbrev AreCounted : List Bounds → Type 0
  AreCounted ranges = below end (lower_bounds ranges) ≡ up_to low (upper_bounds ranges) + length (filter (meets low end) ranges)

  begins : (lo hi : Key) → is_below lo hi ≡ true → is_below low hi ≡ false → is_below lo end ≡ true
  begins lo hi h n = less_is_below lo end (total.trans lo low end (less_through lo low hi h n) (below_is_less low end apart))

  counted_step : (lo : Key) (hi : Option Key) (rest : List Bounds) → is_before hi lo ≡ true → AreCounted rest → AreCounted ((lo, hi) ∷ rest)
  counted_step lo None rest b h =
      none_by (is_below lo end) lo (filter (λ k. is_below k end) (lower_bounds rest)) (lo, None) (filter (meets low end) rest) (up_to low (upper_bounds rest)) h
  counted_step lo (Some hi) rest b h =
      some_by (is_below lo end) (is_below low hi) lo (filter (λ k. is_below k end) (lower_bounds rest)) (lo, Some hi) (filter (meets low end) rest) hi (filter (λ k. not (is_below low k)) (upper_bounds rest)) (begins lo hi b) h

  counted_by : (b : Bool) (lo : Key) (hi : Option Key) (rest : List Bounds) → is_before hi lo ≡ b → AreCounted rest → AreCounted (cond b ((lo, hi) ∷ rest) rest)
  counted_by true lo hi rest e h = counted_step lo hi rest e h
  counted_by false lo hi rest e h = h

  all_counted : (ranges : List Bounds) → AreCounted (filled ranges)
  all_counted [] = omega arith
  all_counted (range ∷ ranges) = counted_by (is_before range.1 range.0) range.0 range.1 (filled ranges) refl (all_counted ranges)

  missed_where : (a : Bool) (lo : Key) (hi : Option Key) (rest : List Bounds) (k : Key) → meets low end (lo, hi) ≡ a → length (cond a ((lo, hi) ∷ rest) rest) ≡ 0 → is_within low (Some end) k ≡ true → (is_within lo hi k ≡ false) × (length rest ≡ 0)
  missed_where true lo hi rest k e n w = absurd (omega (arith, n))
  missed_where false lo hi rest k e n w = (outside_by (is_within lo hi k) low end lo hi k refl e w, n)

  missed_by : (b : Bool) (lo : Key) (hi : Option Key) (rest : List Bounds) (k : Key) → is_before hi lo ≡ b → length (filter (meets low end) (cond b ((lo, hi) ∷ rest) rest)) ≡ 0 → is_within low (Some end) k ≡ true
      → (is_within lo hi k ≡ false) × (length (filter (meets low end) rest) ≡ 0)
  missed_by true lo hi rest k e n w = missed_where (meets low end (lo, hi)) lo hi (filter (meets low end) rest) k refl n w
  missed_by false lo hi rest k e n w = (empty_by (is_within lo hi k) lo hi k refl e, n)

  none_meets : (ranges : List Bounds) (k : Key) → length (filter (meets low end) (filled ranges)) ≡ 0 → is_within low (Some end) k ≡ true → AllByRecursion (λ range. is_within range.0 range.1 k ≡ false) ranges
  none_meets [] k n w = tt
  none_meets (range ∷ ranges) k n w =
      let here = missed_by (is_before range.1 range.0) range.0 range.1 (filled ranges) k refl n w in
      (here.0, none_meets ranges k here.1 w)

  -- if no more ranges begin below the end than have ended at the low key, no key between lies in a range
  untouched : (ranges : List Bounds) → below end (lower_bounds (filled ranges)) ≤ up_to low (upper_bounds (filled ranges)) → IsUntouched low end ranges
  untouched ranges h = λ k w.
      let all = all_counted ranges in
      none_meets ranges k (omega (arith, all, h)) w

  pub most_between : (gone : Deletions) (before here : DeletionsBelow) (most : ℕ) → IsTakenBelow gone low before → IsTakenBelow gone end here → here.begun ≤ before.ended → most ≡ here.deleted - before.deleted → IsUntouched low end gone.1 × (count_within low end gone.0 ≤ most)
  most_between gone before here most b h n m =
      let begun = h.begun in
      let ended = b.ended in
      let all = h.deleted in
      let first = b.deleted in
      let parts = count_between low end gone.0 apart in
      (untouched gone.1 (omega (arith, n, begun, ended)), omega (arith, parts, m, all, first))

-- ---- a range more

short_by : {X : Type 0} (b : Bool) (x : X) (xs : List X) (n : ℕ) → length xs ≤ n → length (cond b (x ∷ xs) xs) ≤ suc n
short_by true x xs n h = omega (arith, h)
short_by false x xs n h = omega (arith, h)

fewer_filled : (ranges : List Bounds) → length (filled ranges) ≤ length ranges
fewer_filled [] = omega arith
fewer_filled (range ∷ ranges) = short_by (is_before range.1 range.0) range (filled ranges) (length ranges) (fewer_filled ranges)

one_or_none : (hi : Option Key) (rest : List Key) (n : ℕ) → length rest ≤ n → length (option_to_list hi ++ rest) ≤ suc n
one_or_none None rest n h = omega (arith, h)
one_or_none (Some hi) rest n h = omega (arith, h)

fewer_upper : (ranges : List Bounds) → length (upper_bounds ranges) ≤ length ranges
fewer_upper [] = omega arith
fewer_upper (range ∷ ranges) = one_or_none range.1 (upper_bounds ranges) (length ranges) (fewer_upper ranges)

filled_more : (ranges : List Bounds) (lo : Key) (hi : Option Key) → is_before hi lo ≡ true → filled (ranges ++ (lo, hi) ∷ []) ≡ filled ranges ++ (lo, hi) ∷ []
filled_more ranges lo hi h =
    filter-append (λ range. is_before range.1 range.0) ranges ((lo, hi) ∷ [])
    ∙ ap (λ (b : Bool). filled ranges ++ cond b ((lo, hi) ∷ []) []) h

filled_same : (ranges : List Bounds) (lo : Key) (hi : Option Key) → is_before hi lo ≡ false → filled (ranges ++ (lo, hi) ∷ []) ≡ filled ranges
filled_same ranges lo hi h =
    filter-append (λ range. is_before range.1 range.0) ranges ((lo, hi) ∷ [])
    ∙ ap (λ (b : Bool). filled ranges ++ cond b ((lo, hi) ∷ []) []) h
    ∙ append-nil (filled ranges)

lower_more : (ranges : List Bounds) (lo : Key) (hi : Option Key) → is_before hi lo ≡ true → lower_bounds (filled (ranges ++ (lo, hi) ∷ [])) ≡ lower_bounds (filled ranges) ++ lo ∷ []
lower_more ranges lo hi h = ap lower_bounds (filled_more ranges lo hi h) ∙ map-append (λ (range : Bounds). range.0) (filled ranges) ((lo, hi) ∷ [])

upper_more : (ranges : List Bounds) (lo : Key) (hi : Option Key) → is_before hi lo ≡ true → upper_bounds (filled (ranges ++ (lo, hi) ∷ [])) ≡ upper_bounds (filled ranges) ++ option_to_list hi
upper_more ranges lo hi h =
    ap upper_bounds (filled_more ranges lo hi h) ∙ flat_map-append (λ (range : Bounds). option_to_list range.1) (filled ranges) ((lo, hi) ∷ [])
    ∙ ap (λ (x : List Key). upper_bounds (filled ranges) ++ x) (append-nil (option_to_list hi))

abbrev pub IsNotedIn : Key → RankCounter → RankCounter → Type 0
IsNotedIn key old new = (came : List Key) → IsTally came old → Contains old.0 key → length came < 2 ^ 64 - 1 → IsTally (came ++ key ∷ []) new

longer : (ranges : List Bounds) (range : Bounds) → length ranges < 2 ^ 64 - 1 → length (ranges ++ range ∷ []) ≤ 2 ^ 64 - 1
longer ranges range h = let l = length-append ranges (range ∷ []) in omega (arith, l, h)

lower_noted : (ranges : List Bounds) (lo : Key) (hi : Option Key) (old new : RankCounter) → is_before hi lo ≡ true → IsNotedIn lo old new → IsTally (lower_bounds (filled ranges)) old → Contains old.0 lo → length ranges < 2 ^ 64 - 1
    → IsTally (lower_bounds (filled (ranges ++ (lo, hi) ∷ []))) new
lower_noted ranges lo hi old new b n t k s =
    let many = length-map (filled ranges) (λ (range : Bounds). range.0) in
    let few = fewer_filled ranges in
    subst (λ (x : List Key). IsTally x new) (sym (lower_more ranges lo hi b)) (n (lower_bounds (filled ranges)) t k (omega (arith, many, few, s)))

-- a range without an upper bound
wiped_above : (ranges : List Bounds) (lo : Key) (old : Tallies) (new : RankCounter) → IsNotedIn lo old.1 new → AreWiped ranges old → Contains old.1.0 lo → length ranges < 2 ^ 64 - 1 → AreWiped (ranges ++ (lo, None) ∷ []) (old.0, new, old.2)
wiped_above ranges lo old new n w k s = record {
  lower = lower_noted ranges lo None old.1 new refl n w.lower k s;
  upper = subst (λ (x : List Key). IsTally x old.2) (sym (upper_more ranges lo None refl ∙ append-nil (upper_bounds (filled ranges)))) w.upper;
  few = longer ranges (lo, None) s;
}

-- one with an upper bound above its lower one
wiped_between : (ranges : List Bounds) (lo hi : Key) (old : Tallies) (new upper : RankCounter) → is_below lo hi ≡ true → IsNotedIn lo old.1 new → IsNotedIn hi old.2 upper → AreWiped ranges old → Contains old.1.0 lo → Contains old.2.0 hi → length ranges < 2 ^ 64 - 1
    → AreWiped (ranges ++ (lo, Some hi) ∷ []) (old.0, new, upper)
wiped_between ranges lo hi old new upper b n u w k l s =
    let few = fewer_filled ranges in
    let fewer = fewer_upper (filled ranges) in
    record {
      lower = lower_noted ranges lo (Some hi) old.1 new b n w.lower k s;
      upper = subst (λ (x : List Key). IsTally x upper) (sym (upper_more ranges lo (Some hi) b)) (u (upper_bounds (filled ranges)) w.upper l (omega (arith, few, fewer, s)));
      few = longer ranges (lo, Some hi) s;
    }

-- an empty one
pub wiped_nothing : (ranges : List Bounds) (lo hi : Key) (old : Tallies) → is_below lo hi ≡ false → AreWiped ranges old → length ranges < 2 ^ 64 - 1 → AreWiped (ranges ++ (lo, Some hi) ∷ []) old
wiped_nothing ranges lo hi old b w s = record {
  lower = subst (λ (x : List Bounds). IsTally (lower_bounds x) old.1) (sym (filled_same ranges lo (Some hi) b)) w.lower;
  upper = subst (λ (x : List Bounds). IsTally (upper_bounds x) old.2) (sym (filled_same ranges lo (Some hi) b)) w.upper;
  few = longer ranges (lo, Some hi) s;
}

-- the same for borrowed rank counters and keys
pub wiped_above_lent : (ranges : List Bounds) (lo lent_lo : Key) (hi : Option Key) (old : Tallies) (deleted lower upper new : RankCounter) → old ≡ (deleted, lower, upper) → lent_lo ≡ lo → hi ≡ None → IsNotedIn lent_lo lower new → AreWiped ranges old → Contains old.1.0 lo
    → length ranges < 2 ^ 64 - 1 → AreWiped (ranges ++ (lo, hi) ∷ []) (deleted, new, upper)
wiped_above_lent ranges lo lent_lo hi old deleted lower upper new e l h n w k s =
    subst (λ (x : Option Key). AreWiped (ranges ++ (lo, x) ∷ []) (deleted, new, upper)) (sym h)
    (wiped_above ranges lo (deleted, lower, upper) new (subst (λ (x : Key). IsNotedIn x lower new) l n) (subst (λ (x : Tallies). AreWiped ranges x) e w) (subst (λ (x : Tallies). Contains x.1.0 lo) e k) s)

pub wiped_between_lent : (ranges : List Bounds) (lo lent_lo hi lent_hi : Key) (end : Option Key) (old : Tallies) (deleted lower upper new_lower new_upper : RankCounter) → old ≡ (deleted, lower, upper) → lent_lo ≡ lo → lent_hi ≡ hi → end ≡ Some hi → is_below lo hi ≡ true
    → IsNotedIn lent_lo lower new_lower → IsNotedIn lent_hi upper new_upper → AreWiped ranges old → Contains old.1.0 lo → IfSome end (λ k. Contains old.2.0 k) → length ranges < 2 ^ 64 - 1 → AreWiped (ranges ++ (lo, end) ∷ []) (deleted, new_lower, new_upper)
wiped_between_lent ranges lo lent_lo hi lent_hi end old deleted lower upper new_lower new_upper e l m h b n u w k i s =
    subst (λ (x : Option Key). AreWiped (ranges ++ (lo, x) ∷ []) (deleted, new_lower, new_upper)) (sym h)
    (wiped_between ranges lo hi (deleted, lower, upper) new_lower new_upper b (subst (λ (x : Key). IsNotedIn x lower new_lower) l n) (subst (λ (x : Key). IsNotedIn x upper new_upper) m u) (subst (λ (x : Tallies). AreWiped ranges x) e w)
    (subst (λ (x : Tallies). Contains x.1.0 lo) e k) (subst (λ (x : Tallies). Contains x.2.0 hi) e (subst (λ (x : Option Key). IfSome x (λ k. Contains old.2.0 k)) h i)) s)

-- ---- what is deleted below a key

abbrev pub IsCountedIn : (Key → List Key → ℕ) → Key → RankCounter → ℕ → Type 0
IsCountedIn count key t n = (came : List Key) → IsTally came t → length came ≤ 2 ^ 64 - 1 → n ≡ count key came

pub taken_below : (gone : Deletions) (t : Tallies) (deleted lower upper : RankCounter) (key lent : Key) (gone_below begun ended : ℕ) → t ≡ (deleted, lower, upper) → lent ≡ key → IsCountedIn below lent deleted gone_below → IsCountedIn below lent lower begun → IsCountedIn up_to lent upper ended → IsTaken gone t
    → IsTakenBelow gone key record { deleted = gone_below; begun = begun; ended = ended }
taken_below gone t deleted lower upper key lent gone_below begun ended e l d f u h =
    let is : IsTaken gone (deleted, lower, upper) = subst (λ (x : Tallies). IsTaken gone x) e h in
    let fits = is.wiped.few in
    let many = length-map (filled gone.1) (λ (range : Bounds). range.0) in
    let few = fewer_filled gone.1 in
    let fewer = fewer_upper (filled gone.1) in
    record {
      deleted = d gone.0 is.deleted is.few ∙ ap (λ (k : Key). below k gone.0) l;
      begun = f (lower_bounds (filled gone.1)) is.wiped.lower (omega (arith, many, few, fits)) ∙ ap (λ (k : Key). below k (lower_bounds (filled gone.1))) l;
      ended = u (upper_bounds (filled gone.1)) is.wiped.upper (omega (arith, few, fewer, fits)) ∙ ap (λ (k : Key). up_to k (upper_bounds (filled gone.1))) l;
    }

-- ---- a command more

module _ {A : Type 0} where
  taken_by_del : (gone : Deletions) (old : Tallies) (new : RankCounter) (c : Command A) (key : Key) → c ≡ Del key → IsNotedIn key old.0 new → IsTaken gone old → IsReadyFor c old → length gone.0 < 2 ^ 64 - 1
      → IsTaken (gone.0 ++ deleted_by c, gone.1 ++ wiped_by c) (new, old.1, old.2)
  taken_by_del gone old new c key e n t r s =
      let ready = subst (λ (d : Command A). IsReadyFor d old) e r in
      let l = length-append gone.0 (key ∷ []) in
      let here : IsTaken (gone.0 ++ key ∷ [], gone.1) (new, old.1, old.2) =
      record { deleted = n gone.0 t.deleted ready.deleted.0 s; few = omega (arith, l, s); wiped = record { lower = t.wiped.lower; upper = t.wiped.upper; few = t.wiped.few } } in
      subst (λ (d : Command A). IsTaken (gone.0 ++ deleted_by d, gone.1 ++ wiped_by d) (new, old.1, old.2)) (sym e)
      (subst (λ (x : List Bounds). IsTaken (gone.0 ++ key ∷ [], x) (new, old.1, old.2)) (sym (append-nil gone.1)) here)

  pub taken_by_del_lent : (gone : Deletions) (old : Tallies) (deleted lower upper new : RankCounter) (c : Command A) (key lent : Key) → old ≡ (deleted, lower, upper) → c ≡ Del key → lent ≡ key → IsNotedIn lent deleted new → IsTaken gone old → IsReadyFor c old → length gone.0 < 2 ^ 64 - 1
      → IsTaken (gone.0 ++ deleted_by c, gone.1 ++ wiped_by c) (new, lower, upper)
  taken_by_del_lent gone old deleted lower upper new c key lent e is l n t r s =
      taken_by_del gone (deleted, lower, upper) new c key is (subst (λ (x : Key). IsNotedIn x deleted new) l n) (subst (λ (x : Tallies). IsTaken gone x) e t) (subst (λ (x : Tallies). IsReadyFor c x) e r) s

  -- ---- what a command deletes is among what all commands delete

  module _ (f : Command A → List Key) where
    found_among : (cs : List (Command A)) (place : ℕ) (c : Command A) (k : Key) → place < length cs → c ≡ get_or cs place c → Contains (f c) k → Contains (flat_map f cs) k
    found_among [] place c k l e h = absurd (omega (arith, l))
    found_among (d ∷ cs) zero c k l e h = Contains-append_left (f d) (flat_map f cs) k (subst (λ (x : Command A). Contains (f x) k) e h)
    found_among (d ∷ cs) (suc place) c k l e h = Contains-append_right (f d) (flat_map f cs) k (found_among cs place c k (omega (arith, l)) e h)

    pub all_among : (cs : List (Command A)) (place : ℕ) (c : Command A) (keys : List Key) → place < length cs → c ≡ get_or cs place c → IsPermutation (flat_map f cs) keys → AllByRecursion (λ k. Contains keys k) (f c)
    all_among cs place c keys l e p =
        recursion_from_All (λ k. Contains keys k) (f c) (λ i d b. Contains-permutation (flat_map f cs) keys (get_or (f c) i d) p (found_among cs place c (get_or (f c) i d) l e (Contains-get_or (f c) i d b)))

  pub ready_for : (cs : List (Command A)) (place : ℕ) (c : Command A) (t : Tallies) → place < length cs → c ≡ get_or cs place c → AreReady cs t → IsReadyFor c t
  ready_for cs place c t l e r = record {
    deleted = all_among deleted_by cs place c t.0.0 l e r.deleted;
    lower = all_among lower_by cs place c t.1.0 l e r.lower;
    upper = all_among upper_by cs place c t.2.0 l e r.upper;
  }

  pub ready_still : (cs : List (Command A)) (t u : Tallies) → AreReady cs t → HasKeysOf t u → AreReady cs u
  ready_still cs t u r k = record {
    deleted = subst (λ (x : List Key). IsPermutation (deleted cs) x) (sym k.deleted) r.deleted;
    lower = subst (λ (x : List Key). IsPermutation (all_lower cs) x) (sym k.lower) r.lower;
    upper = subst (λ (x : List Key). IsPermutation (all_upper cs) x) (sym k.upper) r.upper;
  }

  -- ---- a place more

  most_deleted : (c : Command A) → length (deleted_by c) ≤ 1
  most_deleted (Get k) = omega arith
  most_deleted (Put k v) = omega arith
  most_deleted (Add k v) = omega arith
  most_deleted (Del k) = omega arith
  most_deleted (Scan lo hi limit) = omega arith
  most_deleted (Wipe lo hi) = omega arith

  most_wiped : (c : Command A) → length (wiped_by c) ≤ 1
  most_wiped (Get k) = omega arith
  most_wiped (Put k v) = omega arith
  most_wiped (Add k v) = omega arith
  most_wiped (Del k) = omega arith
  most_wiped (Scan lo hi limit) = omega arith
  most_wiped (Wipe lo hi) = omega arith

  few_deleted : (cs : List (Command A)) → length (deleted cs) ≤ length cs
  few_deleted [] = omega arith
  few_deleted (c ∷ cs) =
      let one = most_deleted c in
      let rest = few_deleted cs in
      let parts = length-append (deleted_by c) (deleted cs) in
      omega (arith, one, rest, parts)

  few_wiped : (cs : List (Command A)) → length (wiped cs) ≤ length cs
  few_wiped [] = omega arith
  few_wiped (c ∷ cs) =
      let one = most_wiped c in
      let rest = few_wiped cs in
      let parts = length-append (wiped_by c) (wiped cs) in
      omega (arith, one, rest, parts)

  more_of : {X : Type 0} (f : Command A → List X) (cs : List (Command A)) (place : ℕ) (c : Command A) → place < length cs → c ≡ get_or cs place c → flat_map f (take (place + 1) cs) ≡ flat_map f (take place cs) ++ f c
  more_of {X} f cs place c l e =
      ap (λ (x : List (Command A)). flat_map f x) (take_more cs place c l) ∙ flat_map-append f (take place cs) (get_or cs place c ∷ [])
      ∙ ap (λ (x : List X). flat_map f (take place cs) ++ x) (append-nil (f (get_or cs place c))) ∙ ap (λ (d : Command A). flat_map f (take place cs) ++ f d) (sym e)

  pub taken_on : (cs : List (Command A)) (place : ℕ) (c : Command A) (old new : Tallies) → place < length cs → place < 2 ^ 64 - 1 → c ≡ get_or cs place c → AreReady cs old
      → ((gone : Deletions) → IsTaken gone old → IsReadyFor c old → length gone.0 < 2 ^ 64 - 1 → length gone.1 < 2 ^ 64 - 1 → IsTaken (gone.0 ++ deleted_by c, gone.1 ++ wiped_by c) new)
      → IsTaken (deleted (take place cs), wiped (take place cs)) old → IsTaken (deleted (take (place + 1) cs), wiped (take (place + 1) cs)) new
  taken_on cs place c old new l s e r n t =
      let long = length-take place cs in
      let keys = few_deleted (take place cs) in
      let ranges = few_wiped (take place cs) in
      let here = n (deleted (take place cs), wiped (take place cs)) t (ready_for cs place c old l e r) (omega (arith, long, keys, l, s)) (omega (arith, long, ranges, l, s)) in
      subst (λ (x : List Key). IsTaken (x, wiped (take (place + 1) cs)) new) (sym (more_of deleted_by cs place c l e))
      (subst (λ (x : List Bounds). IsTaken (deleted (take place cs) ++ deleted_by c, x) new) (sym (more_of wiped_by cs place c l e)) here)
