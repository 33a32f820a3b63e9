use Rattle.std.proofs.Common.{arith}
use Rattle.crew.proofs.MarksMet.{all_met}
use Rattle.crew.proofs.marks.Round.after.Goals as goal

pub returns : goal.returns
returns g c =
    all_met c.args.pieces.now c.args.workers c.args.events.now c.loop-event.event-index c.in_ok-jobs.jobs c.loop-event.progress c.in_ok-marks.marks.items
    c.in_ok-jobs.ensures c.in_ok-marks.ensures.count c.in_ok-marks.ensures.marks (omega arith) c.loop-event.invariant
