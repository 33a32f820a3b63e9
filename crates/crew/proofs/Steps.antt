-- An event changes the places of the jobs, given by their numbers, as it changes the round without the jobs' contents.
use Rattle.std.specs.Prelude.{◌≡◌, ◌==◌, Bool, true, false, cond, not, nat_lt, ℕ, suc, ◌+◌, ◌-◌, ◌<◌, ◌≤◌, List, [], ◌∷◌, ◌++◌, map, length, get_or, set, replicate, slice_get, Option, Some, None, option_map, Vec}
use Rattle.std.proofs.Common.{refl, sym, ap, ◌∙◌, arith}
use Rattle.std.specs.Ordering.{is_lt, nat_cmp}
use Rattle.std.specs.declared.cmp.Ordering.TheVariants.{Less, Equal, Greater}
use Rattle.std.proofs.lemmas.Bool.{ltb-true, ltb-false, not-true, not-false}
use Rattle.std.proofs.lemmas.List.{map-set, map_push, map-append, length-map, set-get_or}
use Rattle.std.proofs.lemmas.Option.{slice_get-map, slice_get-get_or, slice_get_past}
use Rattle.std.specs.declared.alloc.Global.{Global}
use Rattle.std.specs.declared.ops.Range.{Range}
use Rattle.crew.specs.declared.machine.Event.{Event}
use Rattle.crew.specs.declared.machine.Event.TheVariants.{Draw, Work, Back, Home}
use Rattle.crew.specs.declared.machine.Mark.{Mark}
use Rattle.crew.specs.declared.machine.Mark.TheVariants.{Made as MarkMade, Back as MarkBack}
use Rattle.crew.specs.declared.progress.WorkerState.{WorkerState as WorkerStateByNumber}
use Rattle.crew.specs.declared.progress.Progress.{Progress}
use Rattle.crew.specs.Round.{Fate, WorkerState, State, numbered, draw_by, work_by, home_by, event_of, worker_of, after_event}
use Rattle.crew.specs.Round.Fate.{Made, Kept}
use Rattle.crew.specs.Marks.{jobs_in, fate_by, fates_by, hand_by, state_by, event_by}

-- where the jobs are by these three lists
abbrev pub state_of : List (Range ℕ) → List WorkerStateByNumber → List (ℕ × Mark) → State (Unit {0}) (Unit {0})
state_of board hands home = record { board = map jobs_in board; hands = map hand_by hands; home = fates_by home }

abbrev after : State (Unit {0}) (Unit {0}) → Event → State (Unit {0}) (Unit {0})
after s event = after_event (λ u. u) s event

-- ---- ranges

is_below : (less same : Bool) → is_lt (cond less Less (cond same Equal Greater)) ≡ less
is_below true same = refl
is_below false true = refl
is_below false false = refl

-- what `is_empty` says of a range
pub idle : (start end : ℕ) → true ≡ not (is_lt (nat_cmp start end)) → end ≤ start
idle start end e = ltb-false start end (sym (is_below (nat_lt start end) (start == end)) ∙ not-true _ (sym e))

pub busy : (start end : ℕ) → false ≡ not (is_lt (nat_cmp start end)) → start < end
busy start end e = ltb-true start end (sym (is_below (nat_lt start end) (start == end)) ∙ not-false _ (sym e))

jobs_in_none : (span : Range ℕ) → span.end ≤ span.start → jobs_in span ≡ []
jobs_in_none span h = let none : span.end - span.start ≡ 0 = omega arith in ap (λ n. numbered span.start (replicate n tt)) none

jobs_in_next : (span : Range ℕ) → span.start < span.end → jobs_in span ≡ (span.start, tt) ∷ jobs_in (record { start = span.start + 1; end = span.end })
jobs_in_next span h =
    let more : span.end - span.start ≡ suc (span.end - (span.start + 1)) = omega arith in
    ap (λ n. numbered span.start (replicate n tt)) more

-- ---- an event of a worker who is not there

pub nobody : (p : Progress) (event : Event) → length p.hands.items ≤ worker_of event → state_by p ≡ after (state_by p) event
nobody p event h =
    let none : slice_get (map hand_by p.hands.items) (worker_of event) ≡ None =
    slice_get_past (map hand_by p.hands.items) (worker_of event) (omega (arith, length-map p.hands.items hand_by)) in
    sym (ap (λ hand. event_of (λ u. u) (state_by p) hand event) none)

-- ---- nothing is collected while there are pieces on the board

home_waits : (s : State (Unit {0}) (Unit {0})) (w : ℕ) (unworked : List (ℕ × Unit {0})) (worked : List (ℕ × Fate (Unit {0}) (Unit {0}))) (board : List (Range ℕ)) → 0 < length board
    → home_by s w unworked worked (map jobs_in board) ≡ s
home_waits s w [] worked [] h = absurd (omega arith)
home_waits s w [] worked (piece ∷ rest) h = refl
home_waits s w (job ∷ jobs) worked board h = refl

waits_from : (p : Progress) (w : ℕ) (hand : Option (WorkerState (Unit {0}) (Unit {0}))) → 0 < length p.board.items → event_of (λ u. u) (state_by p) hand (Home w) ≡ state_by p
waits_from p w None h = refl
waits_from p w (Some hand) h = home_waits (state_by p) w hand.unworked hand.worked p.board.items h

pub brings_none : (p : Progress) (w : ℕ) → 0 < length p.board.items → state_by p ≡ after (state_by p) (Home w)
brings_none p w h = sym (waits_from p w (slice_get (map hand_by p.hands.items) w) h)

-- ---- an event of a worker who holds this

module _ (p : Progress) (w : ℕ) (hand : WorkerStateByNumber) (there : w < length p.hands.items) (is : hand ≡ get_or p.hands.items w hand) where
  -- the worker states, where this worker's state is replaced by that one
  abbrev pub hands_with : WorkerStateByNumber → List WorkerStateByNumber
  hands_with new = set p.hands.items w new

  held : slice_get (map hand_by p.hands.items) w ≡ Some (hand_by hand)
  held = slice_get-map hand_by p.hands.items w ∙ ap (λ o. option_map hand_by o) (slice_get-get_or p.hands.items w hand there) ∙ ap (λ h. Some (hand_by h)) (sym is)

  -- the event, if the state of its worker is known
  by_hand : (event : Event) → worker_of event ≡ w → after (state_by p) event ≡ event_of (λ u. u) (state_by p) (Some (hand_by hand)) event
  by_hand event e =
      ap (λ n. event_of (λ u. u) (state_by p) (slice_get (map hand_by p.hands.items) n) event) e ∙ ap (λ h. event_of (λ u. u) (state_by p) h event) held

  -- nothing changes if the same worker state is stored again
  put_back : (event : Event) → worker_of event ≡ w → event_of (λ u. u) (state_by p) (Some (hand_by hand)) event ≡ state_by p
      → state_of p.board.items (hands_with hand) p.home.items ≡ after (state_by p) event
  put_back event e same =
      let hands : hands_with hand ≡ p.hands.items = ap (λ h. set p.hands.items w h) is ∙ set-get_or p.hands.items w hand in
      ap (λ hands. state_of p.board.items hands p.home.items) hands ∙ sym same ∙ sym (by_hand event e)

  -- ---- it claims a piece

  pub draws_not : hand.unworked.start < hand.unworked.end → state_of p.board.items (hands_with hand) p.home.items ≡ after (state_by p) (Draw w)
  draws_not h = put_back (Draw w) refl
      (ap (λ jobs. draw_by (state_by p) w jobs (fates_by hand.worked.items) (map jobs_in p.board.items)) (jobs_in_next hand.unworked h))

  pub draws_nothing : p.board.items ≡ [] → hand.unworked.end ≤ hand.unworked.start
      → state_of p.board.items (hands_with hand) p.home.items ≡ after (state_by p) (Draw w)
  draws_nothing none h = put_back (Draw w) refl
      (ap (λ jobs. draw_by (state_by p) w jobs (fates_by hand.worked.items) (map jobs_in p.board.items)) (jobs_in_none hand.unworked h)
      ∙ ap (λ board. draw_by (state_by p) w [] (fates_by hand.worked.items) (map jobs_in board)) none)

  pub draws : (piece : Range ℕ) (rest : List (Range ℕ)) → p.board.items ≡ piece ∷ rest → hand.unworked.end ≤ hand.unworked.start
      → state_of rest (hands_with (record { unworked = piece; worked = hand.worked })) p.home.items ≡ after (state_by p) (Draw w)
  draws piece rest lies h = sym
      (by_hand (Draw w) refl
      ∙ ap (λ jobs. draw_by (state_by p) w jobs (fates_by hand.worked.items) (map jobs_in p.board.items)) (jobs_in_none hand.unworked h)
      ∙ ap (λ board. draw_by (state_by p) w [] (fates_by hand.worked.items) (map jobs_in board)) lies
      ∙ ap (λ hands. record { board = map jobs_in rest; hands = hands; home = fates_by p.home.items })
      (sym (map-set hand_by p.hands.items w (record { unworked = piece; worked = hand.worked }))))

  -- ---- it does a job

  works_by : (mark : Mark) (jobs : List (ℕ × Unit {0})) → jobs_in hand.unworked ≡ jobs
      → after (state_by p) (event_by mark w) ≡ work_by (state_by p) w jobs (fates_by hand.worked.items) (λ u. fate_by mark)
  works_by MarkMade jobs e = by_hand (Work w) refl ∙ ap (λ jobs. work_by (state_by p) w jobs (fates_by hand.worked.items) (λ u. Made tt)) e
  works_by MarkBack jobs e = by_hand (Back w) refl ∙ ap (λ jobs. work_by (state_by p) w jobs (fates_by hand.worked.items) (λ u. Kept tt)) e

  pub works_nothing : (mark : Mark) → hand.unworked.end ≤ hand.unworked.start
      → state_of p.board.items (hands_with hand) p.home.items ≡ after (state_by p) (event_by mark w)
  works_nothing mark h =
      let hands : hands_with hand ≡ p.hands.items = ap (λ h. set p.hands.items w h) is ∙ set-get_or p.hands.items w hand in
      ap (λ hands. state_of p.board.items hands p.home.items) hands ∙ sym (works_by mark [] (jobs_in_none hand.unworked h))

  pub works : (mark : Mark) (worked : Vec (ℕ × Mark) Global) → hand.unworked.start < hand.unworked.end → worked.items ≡ hand.worked.items ++ (hand.unworked.start, mark) ∷ []
      → state_of p.board.items (hands_with (record { unworked = record { start = hand.unworked.start + 1; end = hand.unworked.end }; worked = worked })) p.home.items
      ≡ after (state_by p) (event_by mark w)
  works mark worked h noted =
      let new : WorkerStateByNumber = record { unworked = record { start = hand.unworked.start + 1; end = hand.unworked.end }; worked = worked } in
      let fates : fates_by worked.items ≡ fates_by hand.worked.items ++ (hand.unworked.start, fate_by mark) ∷ [] =
      ap fates_by noted ∙ map_push (λ x. (x.0, fate_by x.1)) hand.worked.items (hand.unworked.start, mark) in
      ap (λ hands. record { board = map jobs_in p.board.items; hands = hands; home = fates_by p.home.items })
      (map-set hand_by p.hands.items w new ∙ ap (λ fates. set (map hand_by p.hands.items) w (record { unworked = jobs_in new.unworked; worked = fates })) fates)
      ∙ sym (works_by mark _ (jobs_in_next hand.unworked h))

  -- ---- its results are collected

  pub brings_not : hand.unworked.start < hand.unworked.end → state_of p.board.items (hands_with hand) p.home.items ≡ after (state_by p) (Home w)
  brings_not h = put_back (Home w) refl
      (ap (λ jobs. home_by (state_by p) w jobs (fates_by hand.worked.items) (map jobs_in p.board.items)) (jobs_in_next hand.unworked h))

  pub brings : (home : List (ℕ × Mark)) (worked : Vec (ℕ × Mark) Global) → p.board.items ≡ [] → hand.unworked.end ≤ hand.unworked.start
      → home ≡ p.home.items ++ hand.worked.items → worked.items ≡ []
      → state_of p.board.items (hands_with (record { unworked = hand.unworked; worked = worked })) home ≡ after (state_by p) (Home w)
  brings home worked none h all emptied =
      let new : WorkerStateByNumber = record { unworked = hand.unworked; worked = worked } in
      let idle : hand_by new ≡ record { unworked = []; worked = [] } =
      ap (λ jobs. record { unworked = jobs; worked = fates_by worked.items }) (jobs_in_none hand.unworked h)
      ∙ ap (λ marks. record { unworked = []; worked = fates_by marks }) emptied in
      let hands : map hand_by (hands_with new) ≡ set (map hand_by p.hands.items) w (record { unworked = []; worked = [] }) =
      map-set hand_by p.hands.items w new ∙ ap (λ h. set (map hand_by p.hands.items) w h) idle in
      let fates : fates_by home ≡ fates_by p.home.items ++ fates_by hand.worked.items =
      ap fates_by all ∙ map-append (λ x. (x.0, fate_by x.1)) p.home.items hand.worked.items in
      let before : after (state_by p) (Home w) ≡ home_by (state_by p) w [] (fates_by hand.worked.items) [] =
      by_hand (Home w) refl
      ∙ ap (λ jobs. home_by (state_by p) w jobs (fates_by hand.worked.items) (map jobs_in p.board.items)) (jobs_in_none hand.unworked h)
      ∙ ap (λ board. home_by (state_by p) w [] (fates_by hand.worked.items) (map jobs_in board)) none in
      ap (λ board. record { board = map jobs_in board; hands = map hand_by (hands_with new); home = fates_by home }) none
      ∙ ap (λ hands. record { board = []; hands = hands; home = fates_by home }) hands
      ∙ ap (λ home. record { board = []; hands = set (map hand_by p.hands.items) w (record { unworked = []; worked = [] }); home = home }) fates
      ∙ sym before
