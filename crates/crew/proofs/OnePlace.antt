-- Each job of a round is at one place: no event changes how often a number occurs on the board, with the workers and among the collected results
-- together.
use Rattle.std.specs.Prelude.{◌≡◌, ℕ, zero, suc, cond, ◌+◌, ◌<◌, ◌≤◌, ◌⊎◌, ◌==◌, nat_lt, List, [], ◌∷◌, ◌++◌, length, set, replicate, if◌then◌else◌, slice_get, Option, Some, None}
use Rattle.std.specs.List.{count_by, flat_map, range_with_len}
use Rattle.std.proofs.Common.{refl, sym, ap, ◌∙◌, arith, inl, inr, zero-add, add-zero, length-append}
use Rattle.std.proofs.lemmas.Bool.{cases_lt, lt-ltb, le-ltb, eq-eqb, ne_eqb, cases_eq}
use Rattle.std.proofs.lemmas.List.{map-append}
use Rattle.std.proofs.lemmas.List.Sums.{sum_by-append}
use Rattle.std.proofs.lemmas.Option.{same_Some}
use Rattle.crew.specs.declared.machine.Event.{Event}
use Rattle.crew.specs.declared.machine.Event.TheVariants.{Draw, Work, Back, Home}
use Rattle.crew.specs.Round.{Fate, WorkerState, State, joined, numbered, numbered_pieces, draw_by, work_by, home_by, event_of, worker_of, after_event, after_events, begun, round}
use Rattle.crew.specs.Round.Fate.{Made, Kept}
use Rattle.crew.specs.SoundRound.{numbers, numbers_anywhere}

-- how often n occurs in a list
abbrev count : ℕ → List ℕ → ℕ
count n xs = count_by (λ m. m == n) xs

count-append : (n : ℕ) (xs ys : List ℕ) → count n (xs ++ ys) ≡ count n xs + count n ys
count-append n xs ys = sum_by-append (λ m. cond (m == n) 1 0) xs ys

count_here : (n m : ℕ) (xs : List ℕ) → m ≡ n → count n (m ∷ xs) ≡ 1 + count n xs
count_here n m xs e = count-append n (m ∷ []) xs ∙ ap (λ b. (0 + cond b 1 0) + count n xs) (eq-eqb m n e)

count_other : (n m : ℕ) (xs : List ℕ) → (m ≡ n → ⊥) → count n (m ∷ xs) ≡ count n xs
count_other n m xs ne = count-append n (m ∷ []) xs ∙ ap (λ b. (0 + cond b 1 0) + count n xs) (ne_eqb m n ne) ∙ zero-add (count n xs)

numbers-append : {X : Type 0} (xs ys : List (ℕ × X)) → numbers (xs ++ ys) ≡ numbers xs ++ numbers ys
numbers-append xs ys = map-append (λ x. x.0) xs ys

-- ---- numbers from k on

count_before : (n k len : ℕ) → n < k → count n (range_with_len k len) ≡ 0
count_before n k zero h = refl
count_before n k (suc len) h = count_other n k (range_with_len (k + 1) len) (λ e. omega arith) ∙ count_before n (k + 1) len (omega arith)

count_after : (n k len : ℕ) → k + len ≤ n → count n (range_with_len k len) ≡ 0
count_after n k zero h = refl
count_after n k (suc len) h = count_other n k (range_with_len (k + 1) len) (λ e. omega arith) ∙ count_after n (k + 1) len (omega arith)

count_within_from : (n k len : ℕ) → k ≤ n → (k ≡ n) ⊎ (k ≡ n → ⊥) → (k < n → count n (range_with_len (k + 1) len) ≡ 1) → count n (range_with_len k (suc len)) ≡ 1
count_within_from n k len low (inl e) later = count_here n k (range_with_len (k + 1) len) e ∙ ap (λ c. 1 + c) (count_before n (k + 1) len (omega arith))
count_within_from n k len low (inr ne) later = count_other n k (range_with_len (k + 1) len) ne ∙ later (omega arith)

count_within : (n k len : ℕ) → k ≤ n → n < k + len → count n (range_with_len k len) ≡ 1
count_within n k zero low high = absurd (omega arith)
count_within n k (suc len) low high = count_within_from n k len low (cases_eq k n) (λ h. count_within n (k + 1) len (omega arith) (omega arith))

count_all_from : (n len : ℕ) → (n < len) ⊎ (len ≤ n) → count n (range_with_len 0 len) ≡ (if nat_lt n len then 1 else 0)
count_all_from n len (inl h) = count_within n 0 len (omega arith) (omega arith) ∙ ap (λ b. if b then 1 else 0) (sym (lt-ltb n len h))
count_all_from n len (inr h) = count_after n 0 len (omega arith) ∙ ap (λ b. if b then 1 else 0) (sym (le-ltb n len h))

-- ---- at the beginning

range-append : (k a b : ℕ) → range_with_len k a ++ range_with_len (k + a) b ≡ range_with_len k (a + b)
range-append k zero b = ap (λ m. range_with_len m b) (add-zero k) ∙ ap (λ m. range_with_len k m) (sym (zero-add b))
range-append k (suc a) b =
    let next : k + suc a ≡ (k + 1) + a = omega arith in
    let all : suc (a + b) ≡ suc a + b = omega arith in
    ap (λ m. k ∷ (range_with_len (k + 1) a ++ range_with_len m b)) next ∙ ap (λ rest. k ∷ rest) (range-append (k + 1) a b) ∙ ap (λ m. range_with_len k m) all

numbers-numbered : {J : Type 0} (k : ℕ) (jobs : List J) → numbers (numbered k jobs) ≡ range_with_len k (length jobs)
numbers-numbered k [] = refl
numbers-numbered k (j ∷ js) = ap (λ rest. k ∷ rest) (numbers-numbered (k + 1) js)

numbers_of_pieces : {J : Type 0} (k : ℕ) (pieces : List (List J)) → flat_map numbers (numbered_pieces k pieces) ≡ range_with_len k (length (joined pieces))
numbers_of_pieces k [] = refl
numbers_of_pieces k (piece ∷ pieces) =
    ap (λ first. first ++ flat_map numbers (numbered_pieces (k + length piece) pieces)) (numbers-numbered k piece)
    ∙ ap (λ rest. range_with_len k (length piece) ++ rest) (numbers_of_pieces (k + length piece) pieces)
    ∙ range-append k (length piece) (length (joined pieces))
    ∙ ap (λ n. range_with_len k n) (sym (length-append piece (joined pieces)))

abbrev on_board : {X : Type 0} → ℕ → List (List (ℕ × X)) → ℕ
on_board n board = count n (flat_map numbers board)

module _ {J D : Type 0} where
  abbrev hand_numbers : WorkerState J D → List ℕ
  hand_numbers hand = numbers hand.unworked ++ numbers hand.worked

  -- how often n occurs at each of the three places
  abbrev in_hands : ℕ → List (WorkerState J D) → ℕ
  in_hands n hands = count n (flat_map hand_numbers hands)

  abbrev in_hand : ℕ → WorkerState J D → ℕ
  in_hand n hand = count n (hand_numbers hand)

  abbrev at_home : ℕ → List (ℕ × Fate J D) → ℕ
  at_home n home = count n (numbers home)

  abbrev anywhere : ℕ → State J D → ℕ
  anywhere n s = (on_board n s.board + in_hands n s.hands) + at_home n s.home

  anywhere_is : (n : ℕ) (s : State J D) → count n (numbers_anywhere s) ≡ anywhere n s
  anywhere_is n s =
      count-append n (flat_map numbers s.board ++ flat_map hand_numbers s.hands) (numbers s.home)
      ∙ ap (λ c. c + at_home n s.home) (count-append n (flat_map numbers s.board) (flat_map hand_numbers s.hands))

  -- ---- a worker state that changes

  hand_changes : (n : ℕ) (hands : List (WorkerState J D)) (w : ℕ) (old new : WorkerState J D) → slice_get hands w ≡ Some old
      → in_hands n (set hands w new) + in_hand n old ≡ in_hands n hands + in_hand n new
  hand_changes n [] w old new e = absurd (cc)
  hand_changes n (hand ∷ hands) zero old new e =
      let same : in_hand n hand ≡ in_hand n old = ap (in_hand n) (same_Some hand old e) in
      let before = count-append n (hand_numbers hand) (flat_map hand_numbers hands) in
      let after = count-append n (hand_numbers new) (flat_map hand_numbers hands) in
      omega (arith, same, before, after)
  hand_changes n (hand ∷ hands) (suc w) old new e =
      let later = hand_changes n hands w old new e in
      let before = count-append n (hand_numbers hand) (flat_map hand_numbers hands) in
      let after = count-append n (hand_numbers hand) (flat_map hand_numbers (set hands w new)) in
      omega (arith, later, before, after)

  -- ---- no event changes how often a number occurs

  draw_keeps : (n : ℕ) (s : State J D) (w : ℕ) (unworked : List (ℕ × J)) (worked : List (ℕ × Fate J D)) (board : List (List (ℕ × J)))
      → slice_get s.hands w ≡ Some (record { unworked = unworked; worked = worked }) → s.board ≡ board
      → anywhere n (draw_by s w unworked worked board) ≡ anywhere n s
  draw_keeps n s w [] worked [] held lies = refl
  draw_keeps n s w [] worked (piece ∷ rest) held lies =
      let hands = hand_changes n s.hands w (record { unworked = []; worked = worked }) (record { unworked = piece; worked = worked }) held in
      let new = count-append n (numbers piece) (numbers worked) in
      let board : on_board n s.board ≡ on_board n (piece ∷ rest) = ap (on_board n) lies in
      let first = count-append n (numbers piece) (flat_map numbers rest) in
      omega (arith, hands, new, board, first)
  draw_keeps n s w (job ∷ jobs) worked board held lies = refl

  work_keeps : (n : ℕ) (s : State J D) (w : ℕ) (unworked : List (ℕ × J)) (worked : List (ℕ × Fate J D)) (fate : J → Fate J D)
      → slice_get s.hands w ≡ Some (record { unworked = unworked; worked = worked }) → anywhere n (work_by s w unworked worked fate) ≡ anywhere n s
  work_keeps n s w [] worked fate held = refl
  work_keeps n s w (job ∷ jobs) worked fate held =
      let noted = worked ++ (job.0, fate job.1) ∷ [] in
      let hands = hand_changes n s.hands w (record { unworked = job ∷ jobs; worked = worked }) (record { unworked = jobs; worked = noted }) held in
      let old = count-append n (numbers (job ∷ jobs)) (numbers worked) in
      let first = count-append n (job.0 ∷ []) (numbers jobs) in
      let new = count-append n (numbers jobs) (numbers noted) in
      let last : count n (numbers noted) ≡ count n (numbers worked) + count n (job.0 ∷ []) =
      ap (count n) (numbers-append worked ((job.0, fate job.1) ∷ [])) ∙ count-append n (numbers worked) (job.0 ∷ []) in
      omega (arith, hands, old, first, new, last)

  home_keeps : (n : ℕ) (s : State J D) (w : ℕ) (unworked : List (ℕ × J)) (worked : List (ℕ × Fate J D)) (board : List (List (ℕ × J)))
      → slice_get s.hands w ≡ Some (record { unworked = unworked; worked = worked }) → s.board ≡ board
      → anywhere n (home_by s w unworked worked board) ≡ anywhere n s
  home_keeps n s w [] worked [] held lies =
      let hands = hand_changes n s.hands w (record { unworked = []; worked = worked }) (record { unworked = []; worked = [] }) held in
      let board : on_board n s.board ≡ 0 = ap (on_board n) lies in
      let home : at_home n (s.home ++ worked) ≡ at_home n s.home + count n (numbers worked) =
      ap (count n) (numbers-append s.home worked) ∙ count-append n (numbers s.home) (numbers worked) in
      omega (arith, hands, board, home)
  home_keeps n s w [] worked (piece ∷ rest) held lies = refl
  home_keeps n s w (job ∷ jobs) worked board held lies = refl

  event_keeps : (n : ℕ) (made : J → D) (s : State J D) (hand : Option (WorkerState J D)) (event : Event) → slice_get s.hands (worker_of event) ≡ hand
      → anywhere n (event_of made s hand event) ≡ anywhere n s
  event_keeps n made s None event held = refl
  event_keeps n made s (Some hand) (Draw w) held = draw_keeps n s w hand.unworked hand.worked s.board held refl
  event_keeps n made s (Some hand) (Work w) held = work_keeps n s w hand.unworked hand.worked (λ j. Made (made j)) held
  event_keeps n made s (Some hand) (Back w) held = work_keeps n s w hand.unworked hand.worked Kept held
  event_keeps n made s (Some hand) (Home w) held = home_keeps n s w hand.unworked hand.worked s.board held refl

  events_keep : (n : ℕ) (made : J → D) (s : State J D) (events : List Event) → anywhere n (after_events made s events) ≡ anywhere n s
  events_keep n made s [] = refl
  events_keep n made s (event ∷ events) =
      events_keep n made (after_event made s event) events ∙ event_keeps n made s (slice_get s.hands (worker_of event)) event refl

none_held : (J D : Type 0) (n workers : ℕ) → in_hands {J = J} {D = D} n (replicate workers (record { unworked = []; worked = [] })) ≡ 0
none_held J D n zero = refl
none_held J D n (suc workers) = none_held J D n workers

-- the number of each job occurs exactly once in total, and no other number occurs
pub each_once : {J D : Type 0} (made : J → D) (pieces : List (List J)) (workers : ℕ) (events : List Event) (n : ℕ)
    → count_by (λ m. m == n) (numbers_anywhere (round made pieces workers events)) ≡ (if nat_lt n (length (joined pieces)) then 1 else 0)
each_once {J} {D} made pieces workers events n =
    let board : on_board n (numbered_pieces 0 pieces) ≡ (if nat_lt n (length (joined pieces)) then 1 else 0) =
    ap (count n) (numbers_of_pieces 0 pieces) ∙ count_all_from n (length (joined pieces)) (cases_lt n (length (joined pieces))) in
    let hands = none_held J D n workers in
    let kept = events_keep n made (begun pieces workers) events in
    let all = anywhere_is n (round made pieces workers events) in
    omega (arith, board, hands, kept, all)
