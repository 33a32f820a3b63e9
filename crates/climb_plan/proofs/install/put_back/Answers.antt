use Rattle.std.proofs.Common.{ap, map, Some}
use Rattle.climb_plan.proofs.Installing.{placed_apart, away_next, put_step}
use Rattle.climb_plan.proofs.install.put_back.Goals as goal

pub loop-job-preserved : goal.loop-job-preserved
loop-job-preserved c =
    let tree = c.loop-job.tree in
    let job = c.in-Some.job in
    let left = c.in-Some.ensures.steps.0 in
    record {
      away = away_next tree _ _ job.pid _ _ (ap (map (λ j. j.pid)) left) c.put_job_back.ensures (placed_apart tree.table job.pid (Some job.page)) c.loop-job.invariant.away;
      put = put_step _ _ _ (job.pid, job.page) _ _ (ap (map (λ j. (j.pid, j.page))) left) c.put_job_back.ensures c.loop-job.invariant.put;
    }
