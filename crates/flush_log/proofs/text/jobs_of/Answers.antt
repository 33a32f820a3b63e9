use Rattle.std.proofs.Common.{◌≡◌, ap, ◌+◌, ◌++◌, ◌∷◌, [], flat_map, drop, get_or, map, true, false, rules}
use Rattle.std.proofs.lemmas.List.{drop_more}
use Rattle.mapping.specs.TreeInMemory.{tree_of}
use Rattle.flush_log.specs.FlushText.{pid_frames}
use Rattle.flush_log.specs.ImageWork.{ImageHeld, job_held}
use Rattle.flush_log.proofs.TextImages.{some_due, jobs-push, jobs-skip, due-push}
use Rattle.flush_log.proofs.text.jobs_of.Goals as goal
use Rattle.flush_log.proofs.text.jobs_of.Goals.{then-not-is_written+in_ok-reserve, else-not-is_written}

pub loop-pid-preserved : goal.loop-pid-preserved
loop-pid-preserved c =
    let t = tree_of c.args.tree.now in
    let pids = c.args.pids.now in
    let at = c.loop-pid.pid-index in
    let pid = get_or pids at 0 in
    let from = drop at pids in
    let left = drop (at + 1) pids in
    let next = drop_more pids at 0 c.loop-pid-test.true in
    let all = flat_map (pid_frames c.args.text t) pids in
    let job : ImageHeld = job_held c.job_of-job.result in
    elim c.if-not-is_written.branch [
      | then-not-is_written+in_ok-reserve w ↦
          let fails : c.is_written.result ≡ false = search rules in
          let due =
          some_due c.args.text t pid job.page job.logged c.is_written.result (ap (λ (h : ImageHeld). h.page) c.job_of-job.ensures) (ap (λ (h : ImageHeld). h.logged) c.job_of-job.ensures) c.is_written.ensures fails in
          let items : w.push_reserved.new.self.items ≡ c.loop-pid.jobs.items ++ c.job_of-job.result ∷ [] = cc (w.push_reserved.ensures.items, w.in_ok-reserve.ensures.items) in
          rw w.jobs-is (record {
            text = jobs-push c.args.text t c.loop-pid.jobs.items w.push_reserved.new.self.items c.job_of-job.result pid from left all items c.job_of-job.ensures next c.loop-pid.invariant.text;
            due = due-push c.args.text t c.loop-pid.jobs.items w.push_reserved.new.self.items c.job_of-job.result pid items c.job_of-job.ensures c.loop-pid.invariant.due (c.requires.writable pid, due);
          })
      | else-not-is_written w ↦
          let holds : c.is_written.result ≡ true = search rules in
          rw w.jobs-is (record {
            text = jobs-skip c.args.text t (map job_held c.loop-pid.jobs.items) pid from left all job.page job.logged c.is_written.result next c.loop-pid.invariant.text (ap (λ (h : ImageHeld). h.page) c.job_of-job.ensures) (ap (λ (h : ImageHeld). h.logged) c.job_of-job.ensures) c.is_written.ensures holds;
            due = c.loop-pid.invariant.due;
          })
    ]
