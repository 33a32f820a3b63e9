-- A round of work as a state machine, without threads and schedules: each job is on the board in its piece, or held by one worker, or collected.
use Rattle.std.specs.Prelude.{◌≡◌, ℕ, ◌+◌, length, List, [], ◌∷◌, ◌++◌, map, flat_map, set, replicate, eqb, if◌then◌else◌, slice_get, Option, Some, None}
use Rattle.std.specs.List.{range_with_len}
use Rattle.crew.specs.declared.machine.Event.{Event}
use Rattle.crew.specs.declared.machine.Event.TheVariants.{Draw, Work, Back, Home}

-- the result of a job: its output, or the unchanged job
pub data Fate (J D : Type 0) : Type 0 where
  Made : D → Fate J D
  Kept : J → Fate J D

-- the state of a worker: jobs that it still has to do, and results of others, each with its number
pub record WorkerState (J D : Type 0) : Type 0 where
  pub unworked : List (ℕ × J)
  pub worked : List (ℕ × Fate J D)

-- the unclaimed pieces, in order; the state of each worker; and the collected results
pub record State (J D : Type 0) : Type 0 where
  pub board : List (List (ℕ × J))
  pub hands : List (WorkerState J D)
  pub home : List (ℕ × Fate J D)

-- ---- jobs and their numbers

-- the jobs of all pieces, in order
abbrev pub joined : {J : Type 0} → List (List J) → List J
joined pieces = flat_map (λ piece. piece) pieces

-- the jobs with their numbers, from n on
abbrev pub numbered : {J : Type 0} → ℕ → List J → List (ℕ × J)
numbered n [] = []
numbered n (j ∷ js) = (n, j) ∷ numbered (n + 1) js

-- the same for all pieces
abbrev pub numbered_pieces : {J : Type 0} → ℕ → List (List J) → List (List (ℕ × J))
numbered_pieces n [] = []
numbered_pieces n (piece ∷ pieces) = numbered n piece ∷ numbered_pieces (n + length piece) pieces

-- the result recorded for the number n
abbrev pub fate_of : {F : Type 0} → ℕ → List (ℕ × F) → Option F
fate_of n [] = None
fate_of n (x ∷ rest) = if eqb x.0 n then Some x.1 else fate_of n rest

-- ---- events; an event that is not possible changes nothing

-- the worker of an event
abbrev pub worker_of : Event → ℕ
worker_of (Draw w) = w
worker_of (Work w) = w
worker_of (Back w) = w
worker_of (Home w) = w

module _ {J D : Type 0} where
  abbrev pub with_hand : State J D → ℕ → WorkerState J D → State J D
  with_hand s w hand = record { board = s.board; hands = set s.hands w hand; home = s.home }

  -- a worker without remaining jobs claims the whole next piece
  abbrev pub draw_by : State J D → ℕ → List (ℕ × J) → List (ℕ × Fate J D) → List (List (ℕ × J)) → State J D
  draw_by s w [] worked [] = s
  draw_by s w [] worked (piece ∷ rest) =
      record { board = rest; hands = set s.hands w (record { unworked = piece; worked = worked }); home = s.home }
  draw_by s w (job ∷ jobs) worked board = s

  -- its next job gets this result
  abbrev pub work_by : State J D → ℕ → List (ℕ × J) → List (ℕ × Fate J D) → (J → Fate J D) → State J D
  work_by s w [] worked fate = s
  work_by s w (job ∷ jobs) worked fate = with_hand s w (record { unworked = jobs; worked = worked ++ (job.0, fate job.1) ∷ [] })

  -- if the board is empty and the worker has no remaining jobs, all its results are collected
  abbrev pub home_by : State J D → ℕ → List (ℕ × J) → List (ℕ × Fate J D) → List (List (ℕ × J)) → State J D
  home_by s w [] worked [] = record { board = []; hands = set s.hands w (record { unworked = []; worked = [] }); home = s.home ++ worked }
  home_by s w [] worked (piece ∷ rest) = s
  home_by s w (job ∷ jobs) worked board = s

  -- an event of worker w, which has this state
  abbrev pub event_of : (J → D) → State J D → Option (WorkerState J D) → Event → State J D
  event_of made s None event = s
  event_of made s (Some hand) (Draw w) = draw_by s w hand.unworked hand.worked s.board
  event_of made s (Some hand) (Work w) = work_by s w hand.unworked hand.worked (λ j. Made (made j))
  event_of made s (Some hand) (Back w) = work_by s w hand.unworked hand.worked Kept
  event_of made s (Some hand) (Home w) = home_by s w hand.unworked hand.worked s.board

  abbrev pub after_event : (J → D) → State J D → Event → State J D
  after_event made s event = event_of made s (slice_get s.hands (worker_of event)) event

  abbrev pub after_events : (J → D) → State J D → List Event → State J D
  after_events made s [] = s
  after_events made s (event ∷ events) = after_events made (after_event made s event) events

  -- the initial state: all pieces are on the board, and `workers` workers have no jobs
  abbrev pub begun : List (List J) → ℕ → State J D
  begun pieces workers =
      record { board = numbered_pieces 0 pieces; hands = replicate workers (record { unworked = []; worked = [] }); home = [] }

  -- the state of the round of these pieces after these events
  abbrev pub round : (J → D) → List (List J) → ℕ → List Event → State J D
  round made pieces workers events = after_events made (begun pieces workers) events

  -- all `jobs` jobs are collected with outputs, which are these, in the order of the jobs
  abbrev pub AreHome : State J D → ℕ → List D → Type 0
  AreHome s jobs ds = map (λ n. fate_of n s.home) (range_with_len 0 jobs) ≡ map (λ d. Some (Made d)) ds
