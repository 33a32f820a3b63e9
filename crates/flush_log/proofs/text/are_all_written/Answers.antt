use Rattle.std.proofs.Common.{◌∙◌, ◌≡◌, ℕ, List, sym, ap, refl, flat_map, true, false, rules}
use Rattle.keys.specs.declared.version.Version.TheVariants.{One}
use Rattle.mapping.specs.TreeInMemory.{tree_of}
use Rattle.flush_log.specs.FlushText.{pid_frames, flush_frames}
use Rattle.flush_log.specs.ImageWork.{ImageHeld, job_held}
use Rattle.flush_log.specs.declared.text.CommitKind.TheVariants.{Flush}
use Rattle.flush_log.proofs.TextImages.{can_be_written, few_runs, some_due, written-skip, not_all_written, jobs-start}
use Rattle.flush_log.proofs.text.are_all_written.Goals as goal

pub loop-pid-init : goal.loop-pid-init
loop-pid-init c = λ version.
    jobs-start (Flush version) c.args.tree.now c.into_iter-pid-iterator.result c.requires.home (c.into_iter-pid-iterator.ensures.into_iter_gives ∙ c.known_pids-pid-items.ensures)

pub is_written-requires : goal.is_written-requires
is_written-requires c =
    few_runs (Flush One) (tree_of c.args.tree.now) c.in-Some.pid (job_held c.job_of-job.result) c.job_of-job.ensures (can_be_written (Flush One) (tree_of c.args.tree.now) c.in-Some.pid c.requires.proper)

pub returns-then-not-is_written : goal.returns-then-not-is_written
returns-then-not-is_written c = λ version.
    let t = tree_of c.args.tree.now in
    let fails : c.is_written.result ≡ false = search rules in
    let job : ImageHeld = job_held c.job_of-job.result in
    let due =
    some_due (Flush version) t c.in-Some.pid job.page job.logged c.is_written.result (ap (λ (h : ImageHeld). h.page) c.job_of-job.ensures) (ap (λ (h : ImageHeld). h.logged) c.job_of-job.ensures) c.is_written.ensures fails in
    let some = not_all_written (Flush version) t c.in-Some.pid c.next.new.self c.loop-pid.pid-iterator (flush_frames version t) c.in-Some.ensures.steps (c.loop-pid.invariant version) due in
    (λ h. absurd (cc), λ e. absurd (some e))

pub loop-pid-preserved : goal.loop-pid-preserved
loop-pid-preserved c = λ version.
    let t = tree_of c.args.tree.now in
    let holds : c.is_written.result ≡ true = search rules in
    let job : ImageHeld = job_held c.job_of-job.result in
    written-skip (Flush version) t c.in-Some.pid c.next.new.self c.loop-pid.pid-iterator (flush_frames version t) job.page job.logged c.is_written.result c.in-Some.ensures.steps (c.loop-pid.invariant version)
    (ap (λ (h : ImageHeld). h.page) c.job_of-job.ensures) (ap (λ (h : ImageHeld). h.logged) c.job_of-job.ensures) c.is_written.ensures holds

pub returns : goal.returns
returns c = λ version.
    let t = tree_of c.args.tree.now in
    let none = sym (c.loop-pid.invariant version) ∙ ap (λ (ns : List ℕ). flat_map (pid_frames (Flush version) t) ns) c.in-None.ensures.steps.0 in
    (λ h. none, λ e. refl)
