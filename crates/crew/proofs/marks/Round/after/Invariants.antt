use Rattle.std.proofs.Common.{◌≡◌, drop, map}
use Rattle.crew.specs.Round.{begun, after_events}
use Rattle.crew.specs.Marks.{forgotten, state_by}
use Rattle.crew.proofs.marks.Round.after.Given as goal

-- the remaining events change the present places of the jobs into those after all events
abbrev pub invariant-loop-event : goal.invariant-loop-event
invariant-loop-event g l =
    after_events (λ u. u) (state_by l.progress) (drop l.event-index l.events) ≡ after_events (λ u. u) (begun (map (λ piece. forgotten piece.items) l.pieces) l.workers) l.events
