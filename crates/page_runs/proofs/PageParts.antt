-- A page's part of a map: what commands leave of it and answer there, and the parts of a level's pages, joined. For the proofs
-- of this crate and of those above it.
use Rattle.std.specs.Prelude.{◌≡◌, ℕ, zero, suc, ◌≤◌, Bool, true, false, not, cond, ◌&&◌, ◌||◌, ◌+◌, length, is_some, if◌then◌else◌, List, [], ◌∷◌, ◌++◌, flat_map, take, Option, Some, None}
use Rattle.std.proofs.Common.{refl, sym, ap, ◌∙◌, arith, append-nil, Less}
use Rattle.std.specs.List.{AllByRecursion, filter, sum_by}
use Rattle.std.specs.List.Sorted.{IsStrictlySortedBy}
use Rattle.std.specs.Map.{keys_of}
use Rattle.std.specs.Ordering.{is_eq}
use Rattle.std.proofs.lemmas.List.Concat.{length-flat_map}
use Rattle.std.proofs.lemmas.List.Elements.{filter-append}
use Rattle.std.proofs.lemmas.List.Sums.{sum_by-cons}
use Rattle.keys.specs.CommandKey.{is_ranged}
use Rattle.keys.specs.Order.{order, IsRising}
use Rattle.keys.specs.OrderedMap.{value_at}
use Rattle.keys.specs.Range.{is_below, is_before, is_within, in_range, out_of_range, rows}
use Rattle.keys.specs.Step.{reply_to, map_after}
use Rattle.keys.specs.declared.command.Command.{Command}
use Rattle.keys.specs.declared.command.Command.TheVariants.{Get, Put, Add, Del, Scan, Wipe}
use Rattle.keys.proofs.MapLemmas.{total, passes_same, same_map}
use Rattle.delta_chain.specs.Layers.{with_change}
use Rattle.delta_chain.proofs.LayerLemmas.{value_at-with_change, rising-with_change}
use Rattle.index_page.specs.Children.{Place, children, is_between}
use Rattle.index_page.specs.Range.{IsBefore}
use Rattle.index_page.proofs.MeetingLemmas.{not_met}
use Rattle.index_page.proofs.RangeLemmas.{below_is_less, less_is_below, less_through, not_below_lower}
use Rattle.mapping.specs.Levels.{Placed, names}
use Rattle.mapping.specs.Proper.{next_low, Tiled}
use Rattle.mapping.proofs.TileLemmas.{low_is_before}
use Rattle.routing.specs.Routes.{goes_to, ranges}
use Rattle.page_runs.proofs.NamedRows.{value_at-kept, kept-same, kept-both, taken_none}
use Rattle.page_runs.proofs.PageRows.{rising-in_range}

abbrev pub Pairs : Type 0
Pairs = List (List ℕ × List ℕ)

-- ---- ranges that meet a page

not_both_by : (a b : Bool) → (a ≡ true → b ≡ false) → (a && b) ≡ false
not_both_by true b f = f refl
not_both_by false b f = refl

-- no key lies in a page's range and in that of a scan or a wipe that doesn't go to the page
none_in_both : (low : List ℕ) (end : Option (List ℕ)) (lo : List ℕ) (hi : Option (List ℕ)) (k : List ℕ) → (is_within low end lo || is_between lo hi low) ≡ false → (is_within low end k && is_within lo hi k) ≡ false
none_in_both low end lo hi k h = not_both_by (is_within low end k) (is_within lo hi k) (not_met low end lo hi k h)

not_both : (a b : Bool) → (a && b) ≡ false → (not b && a) ≡ a
not_both true true h = absurd (cc)
not_both true false h = refl
not_both false true h = refl
not_both false false h = refl

turned : (a b : Bool) → (a && b) ≡ (b && a)
turned true true = refl
turned true false = refl
turned false true = refl
turned false false = refl

-- a wipe that goes to the page leaves the same in the page's range as it leaves of the pairs there
wiped_part_by : (b : Bool) (low : List ℕ) (end : Option (List ℕ)) (lo : List ℕ) (hi : Option (List ℕ)) (m : Pairs) → (is_within low end lo || is_between lo hi low) ≡ b
    → in_range low end (out_of_range lo hi m) ≡ cond b (out_of_range lo hi (in_range low end m)) (in_range low end m)
wiped_part_by true low end lo hi m h =
    kept-both (λ k. not (is_within lo hi k)) (is_within low end) m
    ∙ kept-same (λ k. not (is_within lo hi k) && is_within low end k) (λ k. is_within low end k && not (is_within lo hi k)) m (λ k. turned (not (is_within lo hi k)) (is_within low end k))
    ∙ sym (kept-both (is_within low end) (λ k. not (is_within lo hi k)) m)
wiped_part_by false low end lo hi m h =
    kept-both (λ k. not (is_within lo hi k)) (is_within low end) m
    ∙ kept-same (λ k. not (is_within lo hi k) && is_within low end k) (is_within low end) m (λ k. not_both (is_within low end k) (is_within lo hi k) (none_in_both low end lo hi k h))

-- ---- a part of a map after one change

-- a test at a key says of that key what it says of one that compares alike
change_in_by : (t w u : Bool) (o below : Option (List ℕ)) → (t ≡ true → u ≡ w) → w ≡ true → cond u (cond t o below) None ≡ cond t o (cond u below None)
change_in_by true w u o below e h = ap (λ (b : Bool). cond b o None) (e refl ∙ h)
change_in_by false w u o below e h = refl

change_out_by : (t w u : Bool) (o below : Option (List ℕ)) → (t ≡ true → u ≡ w) → w ≡ false → cond u (cond t o below) None ≡ cond u below None
change_out_by true w u o below e h = ap (λ (b : Bool). cond b o None) (e refl ∙ h) ∙ ap (λ (b : Bool). cond b below None) (sym (e refl ∙ h))
change_out_by false w u o below e h = refl

module _ (low : List ℕ) (end : Option (List ℕ)) (m : Pairs) (r : IsRising m) where
  part_at : (k : List ℕ) (o : Option (List ℕ)) (q : List ℕ) → value_at q (in_range low end (with_change m k o)) ≡ cond (is_within low end q) (cond (is_eq (order q k)) o (value_at q m)) None
  part_at k o q =
      value_at-kept (is_within low end) (with_change m k o) q
      ∙ ap (λ (t : Option (List ℕ)). cond (is_within low end q) t None) (value_at-with_change m k q o r)

  pub change_inside : (k : List ℕ) (o : Option (List ℕ)) → is_within low end k ≡ true → in_range low end (with_change m k o) ≡ with_change (in_range low end m) k o
  change_inside k o h =
      let part = rising-in_range low end m r in
      same_map (in_range low end (with_change m k o)) (with_change (in_range low end m) k o) (rising-in_range low end (with_change m k o) (rising-with_change m k o r)) (rising-with_change (in_range low end m) k o part)
      (λ q. part_at k o q
      ∙ change_in_by (is_eq (order q k)) (is_within low end k) (is_within low end q) o (value_at q m) (λ t. ap (is_within low end) (passes_same q k t)) h
      ∙ ap (λ (t : Option (List ℕ)). cond (is_eq (order q k)) o t) (sym (value_at-kept (is_within low end) m q))
      ∙ sym (value_at-with_change (in_range low end m) k q o part))

  pub change_outside : (k : List ℕ) (o : Option (List ℕ)) → is_within low end k ≡ false → in_range low end (with_change m k o) ≡ in_range low end m
  change_outside k o h =
      same_map (in_range low end (with_change m k o)) (in_range low end m) (rising-in_range low end (with_change m k o) (rising-with_change m k o r)) (rising-in_range low end m r)
      (λ q. part_at k o q
      ∙ change_out_by (is_eq (order q k)) (is_within low end k) (is_within low end q) o (value_at q m) (λ t. ap (is_within low end) (passes_same q k t)) h
      ∙ sym (value_at-kept (is_within low end) m q))

  -- at a key within the range, the part has what the map has
  pub value_at-inside : (k : List ℕ) → is_within low end k ≡ true → value_at k (in_range low end m) ≡ value_at k m
  value_at-inside k h = value_at-kept (is_within low end) m k ∙ ap (λ (b : Bool). cond b (value_at k m) None) h

  either_part : (b : Bool) (n : Pairs) → n ≡ cond b n n
  either_part true n = refl
  either_part false n = refl

  changed_by : (b : Bool) (k : List ℕ) (o : Option (List ℕ)) → is_within low end k ≡ b → in_range low end (with_change m k o) ≡ cond b (with_change (in_range low end m) k o) (in_range low end m)
  changed_by true k o h = change_inside k o h
  changed_by false k o h = change_outside k o h

  added_inside : (b : Bool) (k v : List ℕ) → is_within low end k ≡ true → in_range low end (cond b m (with_change m k (Some v))) ≡ cond b (in_range low end m) (with_change (in_range low end m) k (Some v))
  added_inside true k v h = refl
  added_inside false k v h = change_inside k (Some v) h

  added_outside : (b : Bool) (k v : List ℕ) → is_within low end k ≡ false → in_range low end (cond b m (with_change m k (Some v))) ≡ in_range low end m
  added_outside true k v h = refl
  added_outside false k v h = change_outside k (Some v) h

  added_by : (b : Bool) (k v : List ℕ) → is_within low end k ≡ b
      → in_range low end (cond (is_some (value_at k m)) m (with_change m k (Some v))) ≡ cond b (cond (is_some (value_at k (in_range low end m))) (in_range low end m) (with_change (in_range low end m) k (Some v))) (in_range low end m)
  added_by true k v h =
      added_inside (is_some (value_at k m)) k v h
      ∙ ap (λ (o : Option (List ℕ)). cond (is_some o) (in_range low end m) (with_change (in_range low end m) k (Some v))) (sym (value_at-inside k h))
  added_by false k v h = added_outside (is_some (value_at k m)) k v h

  module _ {A : Type 0} where
    -- a command that goes to a range leaves the same in it as it leaves of the pairs there
    pub map_after-part : (c : Command A) → in_range low end (map_after m c) ≡ (if goes_to low end c then map_after (in_range low end m) c else in_range low end m)
    map_after-part (Get k) = either_part (goes_to {A = A} low end (Get k)) (in_range low end m)
    map_after-part (Put k v) = changed_by (is_within low end k) k (Some v) refl
    map_after-part (Add k v) = added_by (is_within low end k) k v refl
    map_after-part (Del k) = changed_by (is_within low end k) k None refl
    map_after-part (Scan lo hi limit) = either_part (goes_to {A = A} low end (Scan lo hi limit)) (in_range low end m)
    map_after-part (Wipe lo hi) = wiped_part_by (goes_to {A = A} low end (Wipe lo hi)) low end lo hi m refl

    -- and a command on a key gets there the reply that the whole map gives
    pub reply_to-part : (c : Command A) → is_ranged c ≡ false → goes_to low end c ≡ true → reply_to (in_range low end m) c ≡ reply_to m c
    reply_to-part (Get k) s h = rw (value_at-inside k h) refl
    reply_to-part (Put k v) s h = rw (value_at-inside k h) refl
    reply_to-part (Add k v) s h = rw (value_at-inside k h) refl
    reply_to-part (Del k) s h = rw (value_at-inside k h) refl
    reply_to-part (Scan lo hi limit) s h = absurd (cc)
    reply_to-part (Wipe lo hi) s h = absurd (cc)

-- ---- the parts of a level's pages

-- a key below another that is below the end is before the end
before_end : (mid : List ℕ) (end : Option (List ℕ)) (k : List ℕ) → IsBefore end mid → is_below k mid ≡ true → is_before end k ≡ true
before_end mid None k l h = refl
before_end mid (Some end) k l h = less_is_below k end (total.trans k mid end (below_is_less k mid h) l)

-- a key from mid on is not below a lower key
from_mid : (low mid k : List ℕ) → order low mid ≡ Less → is_below k mid ≡ false → is_below k low ≡ false
from_mid low mid k l h = not_below_lower low k (low_through_mid low mid k l h)
  where
    low_through_mid : (low mid k : List ℕ) → order low mid ≡ Less → is_below k mid ≡ false → order low k ≡ Less
    low_through_mid low mid k l h = less_through low k mid (less_is_below low mid l) h

module _ {V : Type 0} where
  -- the keys above a key that isn't below mid aren't below mid either
  none_before : (low mid k : List ℕ) (m : List (List ℕ × V)) → is_below k mid ≡ false → AllByRecursion (λ j. order k j ≡ Less) (keys_of m) → in_range low (Some mid) m ≡ []
  none_before low mid k [] h a = refl
  none_before low mid k (e ∷ m) h a =
      let past : is_below e.0 mid ≡ false = later (is_below e.0 mid) refl in
      ap (λ (b : Bool). cond (not (is_below e.0 low) && b) (e ∷ in_range low (Some mid) m) (in_range low (Some mid) m)) past
      ∙ never (not (is_below e.0 low)) (in_range low (Some mid) m) ∙ none_before low mid k m h a.1
    where
      later : (b : Bool) → is_below e.0 mid ≡ b → b ≡ false
      later true p = absurd (let t : is_below k mid ≡ true = less_is_below k mid (total.trans k e.0 mid a.0 (below_is_less e.0 mid p)) in cc)
      later false p = refl

      never : (b : Bool) (es : List (List ℕ × V)) → cond (b && false) (e ∷ es) es ≡ es
      never true es = refl
      never false es = refl

  -- a range in two parts
  joined_here : (w : Bool) (e : List ℕ × V) (xs ys zs : List (List ℕ × V)) → xs ++ ys ≡ zs → cond w (e ∷ xs) xs ++ ys ≡ cond w (e ∷ zs) zs
  joined_here true e xs ys zs h = ap (λ (es : List (List ℕ × V)). e ∷ es) h
  joined_here false e xs ys zs h = h

  pub two_parts : (low mid : List ℕ) (end : Option (List ℕ)) (m : List (List ℕ × V)) → order low mid ≡ Less → IsBefore end mid → IsRising m → in_range low (Some mid) m ++ in_range mid end m ≡ in_range low end m
  unfolding IsStrictlySortedBy
  two_parts low mid end [] l b r = refl
  two_parts low mid end (e ∷ m) l b r = by (is_below e.0 mid) refl (two_parts low mid end m l b r.1)
    where
      by : (t : Bool) → is_below e.0 mid ≡ t → in_range low (Some mid) m ++ in_range mid end m ≡ in_range low end m → in_range low (Some mid) (e ∷ m) ++ in_range mid end (e ∷ m) ≡ in_range low end (e ∷ m)
      by true h ih =
          rw (h, before_end mid end e.0 b h) (joined_here (not (is_below e.0 low) && true) e (in_range low (Some mid) m) (in_range mid end m) (in_range low end m) ih)
      by false h ih =
          let none : in_range low (Some mid) m ≡ [] = none_before low mid e.0 m h r.0 in
          let rest : in_range mid end m ≡ in_range low end m = ap (λ (es : List (List ℕ × V)). es ++ in_range mid end m) (sym none) ∙ ih in
          rw (h, from_mid low mid e.0 l h, none) (ap (λ (es : List (List ℕ × V)). cond (is_before end e.0) (e ∷ es) es) rest)

  -- the parts of pages that follow one another, joined, are the part from the first page's low key up to the end
  pub joined_parts : {W : Type 0} (p : Placed W) (ps : List (Placed W)) (end : Option (List ℕ)) (m : List (List ℕ × V)) → Tiled (p ∷ ps) end → IsRising m
      → flat_map (λ (at : Place). in_range at.low at.end m) (children (names (p ∷ ps)) end) ≡ in_range p.page.low end m
  joined_parts p [] end m t r = append-nil (in_range p.page.low end m)
  joined_parts p (q ∷ qs) end m t r =
      ap (λ (es : List (List ℕ × V)). in_range p.page.low (Some q.page.low) m ++ es) (joined_parts q qs end m t.1 r)
      ∙ two_parts p.page.low q.page.low end m (t.0).low (low_is_before q qs end t.1) r

  all_within : (m : List (List ℕ × V)) → in_range [] None m ≡ m
  all_within [] = refl
  all_within (([], v) ∷ m) = ap (λ (es : List (List ℕ × V)). ([], v) ∷ es) (all_within m)
  all_within ((x ∷ xs, v) ∷ m) = ap (λ (es : List (List ℕ × V)). (x ∷ xs, v) ∷ es) (all_within m)

  pub parts_of_all : {W : Type 0} (level : List (Placed W)) (m : List (List ℕ × V)) → next_low level None ≡ Some [] → Tiled level None → IsRising m
      → flat_map (λ (at : Place). in_range at.low at.end m) (ranges level) ≡ m
  parts_of_all [] m n t r = absurd (cc)
  parts_of_all (p ∷ ps) m n t r =
      let first : p.page.low ≡ [] = cc in
      joined_parts p ps None m t r ∙ ap (λ (k : List ℕ). in_range k None m) first ∙ all_within m

  -- ---- the rows of the parts

  filtered_parts : {X : Type 0} (passes : List ℕ × V → Bool) (f : X → List (List ℕ × V)) (xs : List X) → flat_map (λ x. filter passes (f x)) xs ≡ filter passes (flat_map f xs)
  filtered_parts passes f [] = refl
  filtered_parts passes f (x ∷ xs) =
      ap (λ (es : List (List ℕ × V)). filter passes (f x) ++ es) (filtered_parts passes f xs) ∙ sym (filter-append passes (f x) (flat_map f xs))

  -- taking the first few, it is enough to join the first few of each
  cut_first : (n most : ℕ) (xs ys zs : List (List ℕ × V)) → n ≤ most → ((k : ℕ) → k ≤ most → take k ys ≡ take k zs) → take n (take most xs ++ ys) ≡ take n (xs ++ zs)
  cut_first zero most xs ys zs h same = refl
  cut_first (suc n) zero xs ys zs h same = absurd (omega arith)
  cut_first (suc n) (suc most) [] ys zs h same = same (suc n) h
  cut_first (suc n) (suc most) (x ∷ xs) ys zs h same = ap (λ (es : List (List ℕ × V)). x ∷ es) (cut_first n most xs ys zs (omega arith) (λ k l. same k (omega arith)))

  first_of_each : {X : Type 0} (most : ℕ) (f : X → List (List ℕ × V)) (xs : List X) (n : ℕ) → n ≤ most → take n (flat_map (λ x. take most (f x)) xs) ≡ take n (flat_map f xs)
  first_of_each most f [] n h = refl
  first_of_each most f (x ∷ xs) n h = cut_first n most (f x) (flat_map (λ y. take most (f y)) xs) (flat_map f xs) h (λ k l. first_of_each most f xs k l)

  same_parts : {X : Type 0} (f g : X → List (List ℕ × V)) (xs : List X) → ((x : X) → f x ≡ g x) → flat_map f xs ≡ flat_map g xs
  same_parts f g [] h = refl
  same_parts f g (x ∷ xs) h = ap (λ (es : List (List ℕ × V)). es ++ flat_map f xs) (h x) ∙ ap (λ (es : List (List ℕ × V)). g x ++ es) (same_parts f g xs h)

  none_passes : (test : List ℕ → Bool) (es : List (List ℕ × V)) → ((k : List ℕ) → test k ≡ false) → filter (λ e. test e.0) es ≡ []
  none_passes test [] h = refl
  none_passes test (e ∷ es) h = rw (h e.0) (none_passes test es h)

same_sum : {X : Type 0} (f g : X → ℕ) (xs : List X) → ((x : X) → f x ≡ g x) → sum_by f xs ≡ sum_by g xs
same_sum f g [] h = refl
same_sum f g (x ∷ xs) h =
    sum_by-cons f x xs ∙ ap (λ (n : ℕ). n + sum_by f xs) (h x) ∙ ap (λ (n : ℕ). g x + n) (same_sum f g xs h) ∙ sym (sum_by-cons g x xs)

module _ (A : Type 0) {V : Type 0} where
  rows_by : (b : Bool) (low : List ℕ) (end : Option (List ℕ)) (m : List (List ℕ × V)) (lo : List ℕ) (hi : Option (List ℕ)) (limit : ℕ) → goes_to {A = A} low end (Scan lo hi limit) ≡ b
      → (if b then rows lo hi limit (in_range low end m) else []) ≡ take limit (in_range lo hi (in_range low end m))
  rows_by true low end m lo hi limit h = refl
  rows_by false low end m lo hi limit h =
      let none : in_range lo hi (in_range low end m) ≡ [] =
      kept-both (is_within low end) (is_within lo hi) m ∙ none_passes (λ k. is_within low end k && is_within lo hi k) m (λ k. none_in_both low end lo hi k h) in
      sym (ap (λ (es : List (List ℕ × V)). take limit es) none ∙ taken_none limit)

  -- the rows of a scan are those of the pages that it goes to, joined and cut at the limit
  pub rows-parts : {W : Type 0} (level : List (Placed W)) (m : List (List ℕ × V)) (lo : List ℕ) (hi : Option (List ℕ)) (limit : ℕ) → next_low level None ≡ Some [] → Tiled level None → IsRising m
      → take limit (flat_map (λ (at : Place). if goes_to {A = A} at.low at.end (Scan lo hi limit) then rows lo hi limit (in_range at.low at.end m) else []) (ranges level)) ≡ rows lo hi limit m
  rows-parts level m lo hi limit n t r =
      let part : Place → List (List ℕ × V) = λ at. in_range at.low at.end m in
      ap (λ (es : List (List ℕ × V)). take limit es)
      (same_parts (λ (at : Place). if goes_to {A = A} at.low at.end (Scan lo hi limit) then rows lo hi limit (part at) else []) (λ (at : Place). take limit (in_range lo hi (part at))) (ranges level)
      (λ at. rows_by (goes_to {A = A} at.low at.end (Scan lo hi limit)) at.low at.end m lo hi limit refl))
      ∙ first_of_each limit (λ (at : Place). in_range lo hi (part at)) (ranges level) limit (omega arith)
      ∙ ap (λ (es : List (List ℕ × V)). take limit es) (filtered_parts (λ e. is_within lo hi e.0) part (ranges level) ∙ ap (λ (es : List (List ℕ × V)). in_range lo hi es) (parts_of_all level m n t r))

  -- and the pairs of a range are as many as those of the pages that meet it
  count_by_page : (b : Bool) (low : List ℕ) (end : Option (List ℕ)) (m : List (List ℕ × V)) (lo : List ℕ) (hi : Option (List ℕ)) → goes_to {A = A} low end (Wipe lo hi) ≡ b
      → (if b then length (in_range lo hi (in_range low end m)) else 0) ≡ length (in_range lo hi (in_range low end m))
  count_by_page true low end m lo hi h = refl
  count_by_page false low end m lo hi h =
      sym (ap (λ (es : List (List ℕ × V)). length es)
      (kept-both (is_within low end) (is_within lo hi) m ∙ none_passes (λ k. is_within low end k && is_within lo hi k) m (λ k. none_in_both low end lo hi k h)))

  pub counts-parts : {W : Type 0} (level : List (Placed W)) (m : List (List ℕ × V)) (lo : List ℕ) (hi : Option (List ℕ)) → next_low level None ≡ Some [] → Tiled level None → IsRising m
      → sum_by (λ (at : Place). if goes_to {A = A} at.low at.end (Wipe lo hi) then length (in_range lo hi (in_range at.low at.end m)) else 0) (ranges level) ≡ length (in_range lo hi m)
  counts-parts level m lo hi n t r =
      let part : Place → List (List ℕ × V) = λ at. in_range at.low at.end m in
      same_sum (λ (at : Place). if goes_to {A = A} at.low at.end (Wipe lo hi) then length (in_range lo hi (part at)) else 0) (λ (at : Place). length (in_range lo hi (part at))) (ranges level)
      (λ at. count_by_page (goes_to {A = A} at.low at.end (Wipe lo hi)) at.low at.end m lo hi refl)
      ∙ sym (length-flat_map (λ (at : Place). in_range lo hi (part at)) (ranges level))
      ∙ ap (λ (es : List (List ℕ × V)). length es) (filtered_parts (λ e. is_within lo hi e.0) part (ranges level) ∙ ap (λ (es : List (List ℕ × V)). in_range lo hi es) (parts_of_all level m n t r))
