use Rattle.std.proofs.Common.{◌∙◌, ◌≡◌, ℕ, List, ◌+◌, sym, ap, refl, flat_map, drop, get_or, arith, true, false, rules}
use Rattle.std.proofs.lemmas.List.{drop_all, drop_more}
use Rattle.keys.specs.declared.version.Version.TheVariants.{One}
use Rattle.mapping.specs.TreeInMemory.{tree_of}
use Rattle.flush_log.specs.FlushText.{pid_frames}
use Rattle.flush_log.specs.ImageWork.{ImageHeld, job_held}
use Rattle.flush_log.specs.declared.text.CommitKind.TheVariants.{Flush}
use Rattle.flush_log.proofs.TextImages.{can_be_written, few_runs, some_due, written-skip, not_all_written}
use Rattle.flush_log.proofs.text.are_written.Goals as goal

pub is_written-requires : goal.is_written-requires
is_written-requires c =
    let pid = get_or c.args.pids.now c.loop-pid.pid-index 0 in
    few_runs (Flush One) (tree_of c.args.tree.now) pid (job_held c.job_of-job.result) c.job_of-job.ensures (can_be_written (Flush One) (tree_of c.args.tree.now) pid c.requires.proper)

pub returns-then-not-is_written : goal.returns-then-not-is_written
returns-then-not-is_written c = λ version.
    let t = tree_of c.args.tree.now in
    let pids = c.args.pids.now in
    let at = c.loop-pid.pid-index in
    let pid = get_or pids at 0 in
    let fails : c.is_written.result ≡ false = search rules in
    let job : ImageHeld = job_held c.job_of-job.result in
    let due =
    some_due (Flush version) t pid job.page job.logged c.is_written.result (ap (λ (h : ImageHeld). h.page) c.job_of-job.ensures) (ap (λ (h : ImageHeld). h.logged) c.job_of-job.ensures) c.is_written.ensures fails in
    let some = not_all_written (Flush version) t pid (drop (at + 1) pids) (drop at pids) (flat_map (pid_frames (Flush version) t) pids) (drop_more pids at 0 c.loop-pid-test.true) (c.loop-pid.invariant version) due in
    (λ h. absurd (cc), λ e. absurd (some e))

pub loop-pid-preserved : goal.loop-pid-preserved
loop-pid-preserved c = λ version.
    let t = tree_of c.args.tree.now in
    let pids = c.args.pids.now in
    let at = c.loop-pid.pid-index in
    let pid = get_or pids at 0 in
    let holds : c.is_written.result ≡ true = search rules in
    let job : ImageHeld = job_held c.job_of-job.result in
    written-skip (Flush version) t pid (drop (at + 1) pids) (drop at pids) (flat_map (pid_frames (Flush version) t) pids) job.page job.logged c.is_written.result (drop_more pids at 0 c.loop-pid-test.true) (c.loop-pid.invariant version)
    (ap (λ (h : ImageHeld). h.page) c.job_of-job.ensures) (ap (λ (h : ImageHeld). h.logged) c.job_of-job.ensures) c.is_written.ensures holds

pub returns : goal.returns
returns c = λ version.
    let t = tree_of c.args.tree.now in
    let pids = c.args.pids.now in
    let end = drop_all c.loop-pid.pid-index pids (omega (arith, c.loop-pid-test.false)) in
    let none = sym (c.loop-pid.invariant version) ∙ ap (λ (ns : List ℕ). flat_map (pid_frames (Flush version) t) ns) end in
    (λ h. none, λ e. refl)
