use Rattle.std.proofs.Common.{ap, map, Some}
use Rattle.climb_plan.proofs.Installing.{placed_apart, away_next, put_step}
use Rattle.engine.proofs.BatchLeaves.{put_held}
use Rattle.engine.proofs.leaves.undo_leaves.Goals as goal

pub loop-leaf-preserved : goal.loop-leaf-preserved
loop-leaf-preserved c =
    let tree = c.loop-leaf.tree in
    let held = c.in-Some.leaf.held in
    let pid = held.route.pid in
    let left = c.in-Some.ensures.steps.0 in
    let now = put_held tree _ held _ c.undo.ensures c.put_leaf_back.ensures in
    record {
      away = away_next tree _ _ pid _ _ (ap (map (λ d. d.held.route.pid)) left) now (placed_apart tree.table pid (Some held.page)) c.loop-leaf.invariant.away;
      put = put_step _ _ _ (pid, held.page) _ _ (ap (map (λ d. (d.held.route.pid, d.held.page))) left) now c.loop-leaf.invariant.put;
    }
