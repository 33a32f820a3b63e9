-- Which jobs of a round are collected, by their numbers alone: it depends neither on the jobs nor on their outputs.
use Rattle.std.specs.Prelude.{ℕ, ◌-◌, List, map, replicate, Option, option_map}
use Rattle.std.specs.declared.ops.Range.{Range}
use Rattle.crew.specs.declared.machine.Event.{Event}
use Rattle.crew.specs.declared.machine.Event.TheVariants.{Work, Back}
use Rattle.crew.specs.declared.machine.Mark.{Mark}
use Rattle.crew.specs.declared.machine.Mark.TheVariants.{Made as MarkMade, Back as MarkBack}
use Rattle.crew.specs.declared.progress.WorkerState.{WorkerState as WorkerStateByNumber}
use Rattle.crew.specs.declared.progress.Progress.{Progress}
use Rattle.crew.specs.Round.{Fate, WorkerState, State, numbered, fate_of}
use Rattle.crew.specs.Round.Fate.{Made, Kept}

-- ---- marks

module _ {J D : Type 0} where
  -- the mark of the result of a job
  abbrev pub mark_of : Fate J D → Mark
  mark_of (Made d) = MarkMade
  mark_of (Kept j) = MarkBack

  -- the mark of the result that is collected under this number
  abbrev pub mark_at : State J D → ℕ → Option Mark
  mark_at s n = option_map mark_of (fate_of n s.home)

-- ---- a round without its jobs' contents: only their numbers remain

-- these jobs without their contents
abbrev pub forgotten : {J : Type 0} → List J → List (Unit {0})
forgotten jobs = map (λ j. tt) jobs

-- a result with this mark
abbrev pub fate_by : Mark → Fate (Unit {0}) (Unit {0})
fate_by MarkMade = Made tt
fate_by MarkBack = Kept tt

-- the jobs with these numbers
abbrev pub jobs_in : Range ℕ → List (ℕ × Unit {0})
jobs_in span = numbered span.start (replicate (span.end - span.start) tt)

-- the results of these jobs
abbrev pub fates_by : List (ℕ × Mark) → List (ℕ × Fate (Unit {0}) (Unit {0}))
fates_by marks = map (λ x. (x.0, fate_by x.1)) marks

-- the state of a worker
abbrev pub hand_by : WorkerStateByNumber → WorkerState (Unit {0}) (Unit {0})
hand_by hand = record { unworked = jobs_in hand.unworked; worked = fates_by hand.worked.items }

-- the state of a round
abbrev pub state_by : Progress → State (Unit {0}) (Unit {0})
state_by p = record { board = map jobs_in p.board.items; hands = map hand_by p.hands.items; home = fates_by p.home.items }

-- the event that gives this worker's next job this mark
abbrev pub event_by : Mark → ℕ → Event
event_by MarkMade w = Work w
event_by MarkBack w = Back w
