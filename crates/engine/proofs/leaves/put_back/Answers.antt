use Rattle.std.proofs.Common.{ap, map}
use Rattle.engine.specs.Tasks.{task_held}
use Rattle.engine.proofs.TaskLemmas.{away_first, away_left, put_left}
use Rattle.engine.proofs.leaves.put_back.Goals as goal

pub put_task_back-requires : goal.put_task_back-requires
put_task_back-requires c =
    away_first c.loop-task.tree (task_held c.in-Some.task) _ _ (ap (map task_held) c.in-Some.ensures.steps.0) c.loop-task.invariant.away

pub loop-task-preserved : goal.loop-task-preserved
loop-task-preserved c =
    let left = ap (map task_held) c.in-Some.ensures.steps.0 in
    record {
      away = away_left c.loop-task.tree c.put_task_back.new.tree (task_held c.in-Some.task) _ _ left c.put_task_back.ensures c.loop-task.invariant.away;
      put = put_left c.loop-task.tree c.put_task_back.new.tree (task_held c.in-Some.task) _ _ left c.put_task_back.ensures _ c.loop-task.invariant.put;
    }
