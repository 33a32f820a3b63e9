use Rattle.std.proofs.Common.{ap, map, Some}
use Rattle.climb_plan.proofs.Installing.{placed_apart, away_next, put_step, put_held}
use Rattle.climb_plan.proofs.install.undo_parents.Goals as goal

pub loop-parent-preserved : goal.loop-parent-preserved
loop-parent-preserved c =
    let tree = c.loop-parent.tree in
    let held = c.in-Some.parent.held in
    let left = c.in-Some.ensures.steps.0 in
    let now = put_held tree _ held _ c.undo.ensures c.put_job_back.ensures in
    record {
      away = away_next tree _ _ held.pid _ _ (ap (map (λ d. d.held.pid)) left) now (placed_apart tree.table held.pid (Some held.page)) c.loop-parent.invariant.away;
      put = put_step _ _ _ (held.pid, held.page) _ _ (ap (map (λ d. (d.held.pid, d.held.page))) left) now c.loop-parent.invariant.put;
    }
