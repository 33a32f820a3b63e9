-- Commands on different keys commute: a page's commands on one key each have the same effect and the same replies in the order of their keys as in
-- the order of the batch. Commands that only read may be executed in any order.
use Rattle.std.specs.Prelude.{◌≡◌, ℕ, ◌<◌, ◌≤◌, ◌==◌, Bool, true, false, cond, ◌&&◌, ◌||◌, List, [], ◌∷◌, ◌++◌, Option, Some, length, nat_eq, slice_get}
use Rattle.std.proofs.Common.{refl, sym, ap, ◌∙◌, subst, arith, inl, inr, Less, Equal}
use Rattle.std.specs.List.{AllByRecursion, IsDistinct, filter, list_all}
use Rattle.std.specs.List.Sorted.{IsPermutation, IsNonDecreasing, IsStrictlyIncreasing, IsStrictlySortedBy}
use Rattle.std.specs.Option.{option_map_or, option_to_list}
use Rattle.std.specs.Ordering.{is_eq, nat_cmp}
use Rattle.std.proofs.lemmas.Bool.{eqb-true, eqb-false, eq-eqb}
use Rattle.std.proofs.lemmas.Cmp.{nat_cmp_total, nat_eq_equiv, ranked}
use Rattle.std.proofs.lemmas.List.Elements.{All-from_recursion, filter_passes, recursion_from_All}
use Rattle.std.proofs.lemmas.List.Folds.{list_all-append}
use Rattle.std.proofs.lemmas.List.Kept.{IsStrictlySortedBy-filter}
use Rattle.std.proofs.lemmas.List.Sorted.{All-permutation, IsPermutation-sym}
use Rattle.std.proofs.lemmas.Map.Keys.{IsDistinct-IsPermutation, IsStrictlyIncreasing-from_distinct, sorted_from_strictly_increasing}
use Rattle.std.proofs.lemmas.Option.{slice_get_cases}
use Rattle.keys.specs.Bytes.{Bytes}
use Rattle.keys.specs.CommandKey.{is_ranged, key_of}
use Rattle.keys.specs.Footprint.{Span, One, Range, span_of, first_of, is_range}
use Rattle.keys.specs.Order.{order, IsRising}
use Rattle.keys.specs.OrderedMap.{value_at}
use Rattle.keys.specs.PlacedPieces.{by_place}
use Rattle.keys.specs.Places.{is_some_that, is_ranged_at}
use Rattle.keys.specs.Step.{reply_to, map_after, replies_to}
use Rattle.keys.specs.declared.command.Command.{Command}
use Rattle.keys.specs.declared.command.Command.TheVariants.{Get, Put, Add, Del, Scan, Wipe}
use Rattle.keys.specs.declared.piece.Piece.{Piece}
use Rattle.keys.specs.declared.command.Reply.{Reply}
use Rattle.keys.proofs.MapLemmas.{same_map, is_itself, order_itself, passes_same}
use Rattle.keys.proofs.PlacedPieces.{AreInOrder, at_place, by_place-in_order, same_by_place}
use Rattle.keys.proofs.RunLemmas.{rising-map_after}
use Rattle.mapping.specs.FreshPids.{is_among}
use Rattle.routing.specs.BatchKeys.{key_or_empty, key_at}
use Rattle.routing.specs.Shares.{ArePoints}
use Rattle.routing.specs.SortedPlaces.{order_of_places, AreInKeyOrder}
use Rattle.routing.proofs.RisingPlaces.{distinct_rising, same_rising_places}
use Rattle.routing.proofs.SliceLemmas.{among-filter}
use Rattle.routing.proofs.SortLemmas.{among-permutation, same_number, same_sorted}
use Rattle.page_runs.specs.Apart.{single_of, single_key, is_on_one, TakesAll, AgreeOn}
use Rattle.page_runs.specs.NetRun.{net_run}
use Rattle.page_runs.specs.Reads.{is_read_only}
use Rattle.page_runs.specs.Replies.{commands_at, pieces_of, ArePlacesOf}
use Rattle.page_runs.proofs.ApartLemmas.{agree_left, agree_taken, net_run-apart, off_by_key, reply_same}
use Rattle.page_runs.proofs.NetLemmas.{Pairs, rising-net_run}
use Rattle.page_runs.proofs.ReadLemmas.{net_run-looks}

-- ---- places

-- at most one place of a list without duplicates is this one
only_by : (b : Bool) (n p : ℕ) (ps : List ℕ) → nat_eq p n ≡ b → AllByRecursion (λ q. nat_eq p q ≡ false) ps → filter (λ q. q == n) ps ≡ cond (is_among n ps) (n ∷ []) []
    → filter (λ q. q == n) (p ∷ ps) ≡ cond (is_among n (p ∷ ps)) (n ∷ []) []
only_by true n p ps e a h =
    let same : p ≡ n = eqb-true p n e in
    let here : nat_eq n p ≡ true = eq-eqb n p (sym same) in
    let none : is_among n ps ≡ false = none_among n ps (subst (λ (i : ℕ). AllByRecursion (λ q. nat_eq i q ≡ false) ps) same a) in
    let rest : filter (λ q. q == n) ps ≡ [] = h ∙ ap (λ (b : Bool). cond b (n ∷ []) []) none in
    rw (e, here, rest, same) refl
  where
    none_among : (n : ℕ) (qs : List ℕ) → AllByRecursion (λ q. nat_eq n q ≡ false) qs → is_among n qs ≡ false
    none_among n [] a = refl
    none_among n (q ∷ qs) a = rw (a.0, none_among n qs a.1) refl
only_by false n p ps e a h =
    let other : nat_eq n p ≡ false = turned (nat_eq n p) n p refl (eqb-false p n e) in
    rw (e, other) h
  where
    turned : (b : Bool) (n p : ℕ) → nat_eq n p ≡ b → (p ≡ n → ⊥) → b ≡ false
    turned true n p e f = absurd (f (sym (eqb-true n p e)))
    turned false n p e f = refl

only : (n : ℕ) (ps : List ℕ) → IsDistinct nat_eq ps → filter (λ q. q == n) ps ≡ cond (is_among n ps) (n ∷ []) []
unfolding IsDistinct
only n [] d = refl
only n (p ∷ ps) d = only_by (nat_eq p n) n p ps refl d.0 (only n ps d.1)

same_only : (n : ℕ) (ps qs : List ℕ) → IsStrictlyIncreasing ps → IsPermutation ps qs → filter (λ p. p == n) ps ≡ filter (λ p. p == n) qs
same_only n ps qs r p =
    let d : IsDistinct nat_eq ps = distinct_rising ps r in
    only n ps d
    ∙ ap (λ (b : Bool). cond b (n ∷ []) []) (among-permutation n ps qs p)
    ∙ sym (only n qs (IsDistinct-IsPermutation nat_eq nat_eq_equiv.symm ps qs p d))

same_when_sorted : (ps qs : List ℕ) → IsStrictlyIncreasing ps → IsPermutation ps qs → IsNonDecreasing qs → ps ≡ qs
same_when_sorted ps qs r p s =
    same_rising_places ps qs r (IsStrictlyIncreasing-from_distinct qs s (IsDistinct-IsPermutation nat_eq nat_eq_equiv.symm ps qs p (distinct_rising ps r))) p

module _ {A : Type 0} (cs : List (Command A)) where
  pub within_permutation : (ps qs : List ℕ) → IsPermutation ps qs → ArePlacesOf cs ps → ArePlacesOf cs qs
  within_permutation ps qs p w = recursion_from_All (λ p. p < length cs) qs (All-permutation (λ p. p < length cs) ps qs p (All-from_recursion (λ p. p < length cs) ps w))

  -- there is a command at a place of the batch
  with_command : {P : Type 0} → (place : ℕ) → place < length cs → ((c : Command A) → slice_get cs place ≡ Some c → P) → P
  with_command place l f = elim ((slice_get_cases cs place).1) [
    | inl w ↦ f w.0 w.2
    | inr w ↦ absurd (let past = w.0 in omega (arith, l, past))
  ]

  -- ---- pieces in the order of their places

  places_least : (n : ℕ) (ps : List ℕ) (rs : List (Reply A)) → AllByRecursion (λ p. nat_cmp n p ≡ Less) ps → AllByRecursion (λ q. n ≤ q.place) (pieces_of ps rs)
  places_least n [] rs a = tt
  places_least n (p ∷ ps) [] a = tt
  places_least n (p ∷ ps) (r ∷ rs) a = let below : n < p = ranked n p Less (sym a.0) in (omega (arith, below), places_least n ps rs a.1)

  in_order-pieces_of : (ps : List ℕ) (rs : List (Reply A)) → IsStrictlySortedBy nat_cmp ps → AreInOrder (pieces_of ps rs)
  unfolding IsStrictlySortedBy
  in_order-pieces_of [] rs s = tt
  in_order-pieces_of (p ∷ ps) [] s = tt
  in_order-pieces_of (p ∷ ps) (r ∷ rs) s = (places_least p ps rs s.0, in_order-pieces_of ps rs s.1)

  pub by_place-pieces_of : (ps : List ℕ) (rs : List (Reply A)) → IsStrictlyIncreasing ps → by_place (pieces_of ps rs) ≡ pieces_of ps rs
  by_place-pieces_of ps rs s = by_place-in_order (pieces_of ps rs) (in_order-pieces_of ps rs (sorted_from_strictly_increasing ps s))

  -- ---- executing only the commands at some of the places

  module _ (is_taken : ℕ → Bool) (Is : ℕ → Type 0) (Agree : Pairs → Pairs → Type 0)
      (taken : (m x : Pairs) (p : ℕ) (c : Command A) → slice_get cs p ≡ Some c → Is p → is_taken p ≡ true → Agree m x → (reply_to m c ≡ reply_to x c) × Agree (map_after m c) (map_after x c))
      (left : (m x : Pairs) (p : ℕ) (c : Command A) → slice_get cs p ≡ Some c → Is p → is_taken p ≡ false → Agree m x → Agree (map_after m c) x) where
    abbrev taken_pieces : List (Piece A) → List (Piece A)
    taken_pieces ps = filter (λ q. is_taken q.place) ps

    apart_by : (b : Bool) (m x : Pairs) (p : ℕ) (c : Command A) (ps : List ℕ) → is_taken p ≡ b → slice_get cs p ≡ Some c → Is p → Agree m x
        → ((n y : Pairs) → Agree n y → taken_pieces (pieces_of ps (replies_to n (commands_at cs ps))) ≡ pieces_of (filter is_taken ps) (replies_to y (commands_at cs (filter is_taken ps))))
        → taken_pieces (pieces_of (p ∷ ps) (replies_to m (commands_at cs (p ∷ ps)))) ≡ pieces_of (filter is_taken (p ∷ ps)) (replies_to x (commands_at cs (filter is_taken (p ∷ ps))))
    apart_by true m x p c ps e at is a ih =
        let both = taken m x p c at is e a in
        let reply : reply_to m c ≡ reply_to x c = both.0 in
        rw (e, at, e, reply) (ap (λ (qs : List (Piece A)). record { place = p; reply = reply_to x c } ∷ qs) (ih (map_after m c) (map_after x c) both.1))
    apart_by false m x p c ps e at is a ih = rw (at, e) (ih (map_after m c) x (left m x p c at is e a))

    pieces_apart : (m x : Pairs) (ps : List ℕ) → ArePlacesOf cs ps → AllByRecursion Is ps → Agree m x
        → taken_pieces (pieces_of ps (replies_to m (commands_at cs ps))) ≡ pieces_of (filter is_taken ps) (replies_to x (commands_at cs (filter is_taken ps)))
    pieces_apart m x [] w is a = refl
    pieces_apart m x (p ∷ ps) w is a = with_command p w.0 (λ c at. apart_by (is_taken p) m x p c ps refl at is.0 a (λ n y b. pieces_apart n y ps w.1 is.1 b))

    -- at a place that is taken, the pieces are those of the commands that are taken
    at_taken_by : (b : Bool) (n : ℕ) (q : Piece A) (qs : List (Piece A)) → is_taken n ≡ true → (q.place == n) ≡ b → at_place n qs ≡ at_place n (taken_pieces qs) → at_place n (q ∷ qs) ≡ at_place n (taken_pieces (q ∷ qs))
    at_taken_by true n q qs t e h =
        let own : is_taken q.place ≡ true = ap is_taken (eqb-true q.place n e) ∙ t in
        rw (e, own, e) (ap (λ (xs : List (Piece A)). q ∷ xs) h)
    at_taken_by false n q qs t e h = rw e (h ∙ passed_over (is_taken q.place) n q (taken_pieces qs) e)
      where
        passed_over : (b : Bool) (n : ℕ) (q : Piece A) (qs : List (Piece A)) → (q.place == n) ≡ false → at_place n qs ≡ at_place n (cond b (q ∷ qs) qs)
        passed_over true n q qs e = rw e refl
        passed_over false n q qs e = refl

    at_taken : (n : ℕ) (qs : List (Piece A)) → is_taken n ≡ true → at_place n qs ≡ at_place n (taken_pieces qs)
    at_taken n [] t = refl
    at_taken n (q ∷ qs) t = at_taken_by (q.place == n) n q qs t refl (at_taken n qs t)

    pub same_at : (n : ℕ) (m : Pairs) (ps qs : List ℕ) → is_taken n ≡ true → Agree m m → ArePlacesOf cs ps → AllByRecursion Is ps → ArePlacesOf cs qs → AllByRecursion Is qs → filter is_taken qs ≡ filter is_taken ps
        → at_place n (pieces_of qs (replies_to m (commands_at cs qs))) ≡ at_place n (pieces_of ps (replies_to m (commands_at cs ps)))
    same_at n m ps qs t a w i v j e =
        at_taken n (pieces_of qs (replies_to m (commands_at cs qs))) t
        ∙ ap (at_place n) (pieces_apart m m qs v j a ∙ ap (λ (os : List ℕ). pieces_of os (replies_to m (commands_at cs os))) e ∙ sym (pieces_apart m m ps w i a))
        ∙ sym (at_taken n (pieces_of ps (replies_to m (commands_at cs ps))) t)

  -- ---- commands that only read

  abbrev IsReadOnlyAt : ℕ → Type 0
  IsReadOnlyAt p = list_all is_read_only (option_to_list (slice_get cs p)) ≡ true

  unchanged : (m : Pairs) (c : Command A) → is_read_only c ≡ true → map_after m c ≡ m
  unchanged m (Get k) h = refl
  unchanged m (Put k v) h = absurd (cc)
  unchanged m (Add k v) h = absurd (cc)
  unchanged m (Del k) h = absurd (cc)
  unchanged m (Scan lo hi limit) h = refl
  unchanged m (Wipe lo hi) h = absurd (cc)

  first_of_both : (a b : Bool) → (a && b) ≡ true → a ≡ true
  first_of_both true b h = refl
  first_of_both false b h = h

  second_of_both : (a b : Bool) → (a && b) ≡ true → b ≡ true
  second_of_both true b h = h
  second_of_both false b h = absurd (cc)

  each_read_only : (ps : List ℕ) → list_all is_read_only (commands_at cs ps) ≡ true → AllByRecursion IsReadOnlyAt ps
  each_read_only [] h = tt
  each_read_only (p ∷ ps) h =
      let first = list_all is_read_only (option_to_list (slice_get cs p)) in
      let rest = list_all is_read_only (commands_at cs ps) in
      let both : (first && rest) ≡ true = sym (list_all-append is_read_only (option_to_list (slice_get cs p)) (commands_at cs ps)) ∙ h in
      (first_of_both first rest both, each_read_only ps (second_of_both first rest both))

  all_read_only : (ps : List ℕ) → AllByRecursion IsReadOnlyAt ps → list_all is_read_only (commands_at cs ps) ≡ true
  all_read_only [] a = refl
  all_read_only (p ∷ ps) a = list_all-append is_read_only (option_to_list (slice_get cs p)) (commands_at cs ps) ∙ rw (a.0, all_read_only ps a.1) refl

  read_only_permutation : (ps qs : List ℕ) → IsPermutation ps qs → list_all is_read_only (commands_at cs ps) ≡ true → list_all is_read_only (commands_at cs qs) ≡ true
  read_only_permutation ps qs p h =
      all_read_only qs (recursion_from_All IsReadOnlyAt qs (All-permutation IsReadOnlyAt ps qs p (All-from_recursion IsReadOnlyAt ps (each_read_only ps h))))

  both_or_none : (a b : Bool) → (a ≡ true → b ≡ true) → (b ≡ true → a ≡ true) → a ≡ b
  both_or_none true b f g = sym (f refl)
  both_or_none false true f g = g refl
  both_or_none false false f g = refl

  pub same_read_only : (ps qs : List ℕ) → IsPermutation ps qs → list_all is_read_only (commands_at cs ps) ≡ list_all is_read_only (commands_at cs qs)
  same_read_only ps qs p =
      both_or_none (list_all is_read_only (commands_at cs ps)) (list_all is_read_only (commands_at cs qs)) (read_only_permutation ps qs p) (read_only_permutation qs ps (IsPermutation-sym ps qs p))

  module _ (ps qs : List ℕ) (rises : IsStrictlyIncreasing ps) (same : IsPermutation ps qs) (within : ArePlacesOf cs ps) where
    in_batch_order : (m : Pairs) → ((n : ℕ) → at_place n (pieces_of qs (replies_to m (commands_at cs qs))) ≡ at_place n (pieces_of ps (replies_to m (commands_at cs ps))))
        → by_place (pieces_of qs (replies_to m (commands_at cs qs))) ≡ pieces_of ps (replies_to m (commands_at cs ps))
    in_batch_order m h =
        same_by_place (pieces_of qs (replies_to m (commands_at cs qs))) (pieces_of ps (replies_to m (commands_at cs ps))) h
        ∙ by_place-pieces_of ps (replies_to m (commands_at cs ps)) rises

    read_as : (m x : Pairs) (c : Command A) (p : ℕ) → slice_get cs p ≡ Some c → IsReadOnlyAt p → m ≡ x → map_after m c ≡ x
    read_as m x c p at is a =
        let reads : (is_read_only c && true) ≡ true = rw at at is in
        unchanged m c (first_of_both (is_read_only c) true reads) ∙ a

    pub same_pieces_of_reads : (m : Pairs) → list_all is_read_only (commands_at cs ps) ≡ true → by_place (pieces_of qs (replies_to m (commands_at cs qs))) ≡ pieces_of ps (replies_to m (commands_at cs ps))
    same_pieces_of_reads m h = in_batch_order m (λ n.
        same_at (λ p. p == n) IsReadOnlyAt (λ m x. m ≡ x)
        (λ m x p c at is t a. (ap (λ (y : Pairs). reply_to y c) a, read_as m x c p at is a ∙ sym (read_as x x c p at is refl)))
        (λ m x p c at is t a. read_as m x c p at is a)
        n m ps qs (eq-eqb n n refl) refl within (each_read_only ps h) (within_permutation ps qs same within)
        (each_read_only qs (read_only_permutation ps qs same h))
        (sym (same_only n ps qs rises same)))

    pub same_run_of_reads : (m : Pairs) → list_all is_read_only (commands_at cs ps) ≡ true → net_run m (commands_at cs qs) ≡ net_run m (commands_at cs ps)
    same_run_of_reads m h = net_run-looks m (commands_at cs qs) (read_only_permutation ps qs same h) ∙ sym (net_run-looks m (commands_at cs ps) h)

    -- ---- commands in the order of the batch

    pub same_run_in_order : (m : Pairs) → IsNonDecreasing qs → net_run m (commands_at cs qs) ≡ net_run m (commands_at cs ps)
    same_run_in_order m s = ap (λ (os : List ℕ). net_run m (commands_at cs os)) (sym (same_when_sorted ps qs rises same s))

    pub same_pieces_in_order : (m : Pairs) → IsNonDecreasing qs → by_place (pieces_of qs (replies_to m (commands_at cs qs))) ≡ pieces_of ps (replies_to m (commands_at cs ps))
    same_pieces_in_order m s =
        ap (λ (os : List ℕ). by_place (pieces_of os (replies_to m (commands_at cs os)))) (sym (same_when_sorted ps qs rises same s))
        ∙ by_place-pieces_of ps (replies_to m (commands_at cs ps)) rises

    -- ---- commands on one key each, in the order of their keys

    module _ (points : ArePoints cs qs) (sorted : AreInKeyOrder cs qs) where
      -- whether the command at this place is on the key
      abbrev is_on_it : Bytes → ℕ → Bool
      is_on_it k p = is_eq (order (key_at cs p) k)

      points_too : ArePoints cs ps
      points_too =
          recursion_from_All (λ p. is_ranged_at cs p ≡ false) ps
          (All-permutation (λ p. is_ranged_at cs p ≡ false) qs ps (IsPermutation-sym ps qs same) (All-from_recursion (λ p. is_ranged_at cs p ≡ false) qs points))

      -- both orders have the commands on one key in the order of the batch
      number_less : (k : Bytes) (p q : ℕ) → is_on_it k p ≡ true → is_on_it k q ≡ true → order_of_places cs p q ≡ Less → nat_cmp p q ≡ Less
      number_less k p q h i l =
          let e : order (key_at cs p) (key_at cs q) ≡ Equal =
          ap (λ (j : Bytes). order j (key_at cs q)) (passes_same (key_at cs p) k h) ∙ ap (λ (j : Bytes). order k j) (passes_same (key_at cs q) k i) ∙ order_itself k in
          rw e at l

      below_all : (k : Bytes) (p : ℕ) (os : List ℕ) → is_on_it k p ≡ true → AllByRecursion (λ q. is_on_it k q ≡ true) os → AllByRecursion (λ q. order_of_places cs p q ≡ Less) os → AllByRecursion (λ q. nat_cmp p q ≡ Less) os
      below_all k p [] h a s = tt
      below_all k p (q ∷ os) h a s = (number_less k p q h a.0 s.0, below_all k p os h a.1 s.1)

      by_number : (k : Bytes) (os : List ℕ) → AllByRecursion (λ p. is_on_it k p ≡ true) os → AreInKeyOrder cs os → IsStrictlySortedBy nat_cmp os
      unfolding IsStrictlySortedBy
      by_number k [] a s = tt
      by_number k (p ∷ os) a s = (below_all k p os a.0 a.1 s.0, by_number k os a.1 s.1)

      same_on : (k : Bytes) → filter (is_on_it k) qs ≡ filter (is_on_it k) ps
      same_on k =
          same_sorted nat_cmp nat_cmp_total same_number (filter (is_on_it k) qs) (filter (is_on_it k) ps)
          (λ n. among-filter (is_on_it k) n qs ∙ ap (λ (b : Bool). b && is_on_it k n) (sym (among-permutation n ps qs same)) ∙ sym (among-filter (is_on_it k) n ps))
          (by_number k (filter (is_on_it k) qs) (recursion_from_All (λ p. is_on_it k p ≡ true) (filter (is_on_it k) qs) (filter_passes (is_on_it k) qs)) (IsStrictlySortedBy-filter (order_of_places cs) (is_on_it k) qs sorted))
          (IsStrictlySortedBy-filter nat_cmp (is_on_it k) ps (sorted_from_strictly_increasing ps rises))

      -- whether a key is this one
      abbrev is_key : Bytes → Bytes → Bool
      is_key k q = is_eq (order q k)

      -- which commands are executed along with those on the key: scans and wipes, of which there are none
      abbrev is_executed : Bytes → Command A → Bool
      is_executed k c = is_ranged c || is_on_one (is_key k) c

      abbrev AgreeAt : Bytes → Pairs → Pairs → Type 0
      AgreeAt k m x = IsRising m × IsRising x × AgreeOn (is_key k) m x

      single_by : (s : Span) → is_range s ≡ false → single_of s ≡ Some (first_of s)
      single_by (One k) h = refl
      single_by (Range lo hi) h = absurd (cc)

      single_at : (p : ℕ) (c : Command A) → slice_get cs p ≡ Some c → is_ranged_at cs p ≡ false → single_key c ≡ Some (key_of c)
      single_at p c at is = single_by (span_of c) (sym (ap (is_some_that is_ranged) at) ∙ is)

      key_as : (k : Bytes) (p : ℕ) (c : Command A) (b : Bool) → slice_get cs p ≡ Some c → is_on_it k p ≡ b → is_key k (key_of c) ≡ b
      key_as k p c b at h = ap (λ (o : Option (Command A)). is_key k (key_or_empty o)) (sym at) ∙ h

      on_one : (k : Bytes) (p : ℕ) (c : Command A) → slice_get cs p ≡ Some c → is_ranged_at cs p ≡ false → is_on_one (is_key k) c ≡ is_key k (key_of c)
      on_one k p c at is = ap (λ (o : Option Bytes). option_map_or (is_key k) o false) (single_at p c at is)

      taken_on : (k : Bytes) (m x : Pairs) (p : ℕ) (c : Command A) → slice_get cs p ≡ Some c → is_ranged_at cs p ≡ false → is_on_it k p ≡ true → AgreeAt k m x
          → (reply_to m c ≡ reply_to x c) × AgreeAt k (map_after m c) (map_after x c)
      taken_on k m x p c at is t a =
          (reply_same (is_key k) m x c a.2 (on_one k p c at is ∙ key_as k p c true at t), (rising-map_after m c a.0, rising-map_after x c a.1, agree_taken (is_key k) (is_executed k) m x c a.0 a.1 a.2))

      left_on : (k : Bytes) (m x : Pairs) (p : ℕ) (c : Command A) → slice_get cs p ≡ Some c → is_ranged_at cs p ≡ false → is_on_it k p ≡ false → AgreeAt k m x → AgreeAt k (map_after m c) x
      left_on k m x p c at is t a =
          (rising-map_after m c a.0, a.1, agree_left (is_key k) (is_executed k) m x c a.0 a.2 (off_by_key (is_key k) c (key_of c) (single_at p c at is) (key_as k p c false at t)))

      pub same_pieces : (m : Pairs) → IsRising m → by_place (pieces_of qs (replies_to m (commands_at cs qs))) ≡ pieces_of ps (replies_to m (commands_at cs ps))
      same_pieces m r = in_batch_order m (λ n.
          same_at (is_on_it (key_at cs n)) (λ p. is_ranged_at cs p ≡ false) (AgreeAt (key_at cs n)) (taken_on (key_at cs n)) (left_on (key_at cs n))
          n m ps qs (is_itself (key_at cs n)) (r, r, λ q h. refl) within points_too (within_permutation ps qs same within) points (same_on (key_at cs n)))

      executes_all : (k : Bytes) → TakesAll {A = A} (is_key k) (is_executed k)
      executes_all k (Get j) h = off_by_key {A = A} (is_key k) (Get j) j refl h
      executes_all k (Put j v) h = off_by_key {A = A} (is_key k) (Put j v) j refl h
      executes_all k (Add j v) h = off_by_key {A = A} (is_key k) (Add j v) j refl h
      executes_all k (Del j) h = off_by_key {A = A} (is_key k) (Del j) j refl h
      executes_all k (Scan lo hi limit) h = absurd (cc)
      executes_all k (Wipe lo hi) h = absurd (cc)

      executed_by : (b : Bool) (k : Bytes) (p : ℕ) (c : Command A) (os : List ℕ) → is_on_it k p ≡ b → slice_get cs p ≡ Some c → is_ranged_at cs p ≡ false → filter (is_executed k) (commands_at cs os) ≡ commands_at cs (filter (is_on_it k) os)
          → filter (is_executed k) (commands_at cs (p ∷ os)) ≡ commands_at cs (filter (is_on_it k) (p ∷ os))
      executed_by b k p c os e at is h =
          let plain : is_ranged c ≡ false = sym (ap (is_some_that is_ranged) at) ∙ is in
          let executed : is_executed k c ≡ b = ap (λ (r : Bool). r || is_on_one (is_key k) c) plain ∙ on_one k p c at is ∙ key_as k p c b at e in
          ap (λ (o : Option (Command A)). filter (is_executed k) (option_to_list o ++ commands_at cs os)) at
          ∙ executed_if b k p c os e at executed h
        where
          executed_if : (b : Bool) (k : Bytes) (p : ℕ) (c : Command A) (os : List ℕ) → is_on_it k p ≡ b → slice_get cs p ≡ Some c → is_executed k c ≡ b → filter (is_executed k) (commands_at cs os) ≡ commands_at cs (filter (is_on_it k) os)
              → filter (is_executed k) (c ∷ commands_at cs os) ≡ commands_at cs (filter (is_on_it k) (p ∷ os))
          executed_if true k p c os e at x h = rw (x, e, at, h) refl
          executed_if false k p c os e at x h = rw (x, e, h) refl

      executed : (k : Bytes) (os : List ℕ) → ArePlacesOf cs os → ArePoints cs os → filter (is_executed k) (commands_at cs os) ≡ commands_at cs (filter (is_on_it k) os)
      executed k [] w a = refl
      executed k (p ∷ os) w a = with_command p w.0 (λ c at. executed_by (is_on_it k p) k p c os refl at a.0 (executed k os w.1 a.1))

      run_at : (m : Pairs) → IsRising m → (os : List ℕ) (k : Bytes) → ArePlacesOf cs os → ArePoints cs os → value_at k (net_run m (commands_at cs os)) ≡ value_at k (net_run m (commands_at cs (filter (is_on_it k) os)))
      run_at m r os k w a =
          net_run-apart (is_key k) (is_executed k) m m (commands_at cs os) k (executes_all k) r r (λ j h. refl) (is_itself k)
          ∙ ap (λ (ds : List (Command A)). value_at k (net_run m ds)) (executed k os w a)

      pub same_run : (m : Pairs) → IsRising m → net_run m (commands_at cs qs) ≡ net_run m (commands_at cs ps)
      same_run m r =
          same_map (net_run m (commands_at cs qs)) (net_run m (commands_at cs ps)) (rising-net_run m (commands_at cs qs)) (rising-net_run m (commands_at cs ps))
          (λ k. run_at m r qs k (within_permutation ps qs same within) points
          ∙ ap (λ (os : List ℕ). value_at k (net_run m (commands_at cs os))) (same_on k)
          ∙ sym (run_at m r ps k within points_too))
