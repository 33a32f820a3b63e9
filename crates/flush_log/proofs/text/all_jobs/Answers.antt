use Rattle.std.proofs.Common.{◌∙◌, ◌≡◌, ap, ◌++◌, ◌∷◌, [], false, rules}
use Rattle.mapping.specs.TreeInMemory.{tree_of}
use Rattle.flush_log.specs.FlushText.{commit_frames}
use Rattle.flush_log.specs.ImageWork.{ImageHeld, job_held}
use Rattle.flush_log.proofs.TextImages.{some_due, jobs-start, jobs-push, due-push}
use Rattle.flush_log.proofs.text.all_jobs.Goals as goal

pub loop-pid-init : goal.loop-pid-init
loop-pid-init c =
    let none : c.new-jobs.result.items ≡ [] = c.new-jobs.ensures.items in
    rw none (record {
      text = jobs-start c.args.text c.args.tree.now c.into_iter-pid-iterator.result c.requires.home (c.into_iter-pid-iterator.ensures.into_iter_gives ∙ c.known_pids-pid-items.ensures);
      due = tt;
    })

pub loop-pid-preserved-then-not-is_written : goal.loop-pid-preserved-then-not-is_written
loop-pid-preserved-then-not-is_written c =
    let t = tree_of c.args.tree.now in
    let fails : c.is_written.result ≡ false = search rules in
    let job : ImageHeld = job_held c.job_of-job.result in
    let due =
    some_due c.args.text t c.in-Some.pid job.page job.logged c.is_written.result (ap (λ (h : ImageHeld). h.page) c.job_of-job.ensures) (ap (λ (h : ImageHeld). h.logged) c.job_of-job.ensures) c.is_written.ensures fails in
    let items : c.push_reserved.new.self.items ≡ c.loop-pid.jobs.items ++ c.job_of-job.result ∷ [] = cc (c.push_reserved.ensures.items, c.in_ok-reserve.ensures.items) in
    record {
      text = jobs-push c.args.text t c.loop-pid.jobs.items c.push_reserved.new.self.items c.job_of-job.result c.in-Some.pid c.loop-pid.pid-iterator c.next.new.self (commit_frames c.args.text t) items c.job_of-job.ensures c.in-Some.ensures.steps c.loop-pid.invariant.text;
      due = due-push c.args.text t c.loop-pid.jobs.items c.push_reserved.new.self.items c.job_of-job.result c.in-Some.pid items c.job_of-job.ensures c.loop-pid.invariant.due (c.requires.writable c.in-Some.pid, due);
    }
