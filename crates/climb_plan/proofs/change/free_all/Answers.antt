use Rattle.std.proofs.Common.{◌+◌, ◌∷◌, [], drop, get_or}
use Rattle.std.proofs.lemmas.List.{drop_more}
use Rattle.climb_plan.proofs.ChangedRooms.{left_away, left_freed}
use Rattle.climb_plan.proofs.change.free_all.Goals as goal

pub loop-pid-preserved : goal.loop-pid-preserved
loop-pid-preserved c =
    let pids = c.args.pids.now in
    let at = c.loop-pid.pid-index in
    let more = drop_more pids at 0 c.loop-pid-test.true in
    record {
      away = left_away c.loop-pid.tree c.free.new.self (get_or pids at 0 ∷ []) (drop (at + 1) pids) c.free.ensures (rw more at c.loop-pid.invariant.away);
      freed = left_freed c.loop-pid.tree c.free.new.self (get_or pids at 0 ∷ []) (drop (at + 1) pids) c.free.ensures _ (rw more at c.loop-pid.invariant.freed);
    }
