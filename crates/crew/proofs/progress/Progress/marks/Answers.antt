use Rattle.std.proofs.Common.{ℕ, ◌<◌, length, sym, ap, ◌∙◌, arith, None, slice_index_or}
use Rattle.std.proofs.lemmas.List.{length-set, get_or_read}
use Rattle.crew.specs.declared.machine.Mark.TheVariants.{Made}
use Rattle.crew.proofs.MarkTable.{written, kept, none_there, some_there}
use Rattle.crew.proofs.progress.Progress.marks.Goals as goal
use Rattle.crew.proofs.progress.Progress.marks.Goals.{then-job-jobs+then-is_none, else-job-jobs, else-job-jobs-via-then-job-jobs+else-is_none, else-job-jobs-via-else-job-jobs}

pub loop-job-preserved : goal.loop-job-preserved
loop-job-preserved c =
    let marks = c.loop-job.marks.items in
    let so_far = λ (n : ℕ) (h : n < length marks). c.loop-job.invariant.marks n (omega arith) in
    elim c.if-job-jobs.branch [
      | then-job-jobs+then-is_none w ↦ record {
        count = ap (λ v. length v.items) w.marks-is ∙ length-set marks _ _ ∙ c.loop-job.invariant.count;
        marks = λ n h.
            ap (λ v. slice_index_or v.items n None) w.marks-is
            ∙ written marks c.deref-job-items.result.now c.loop-job.job-index (0, Made) c.loop-job-test.true so_far (omega arith)
            (sym (get_or_read marks _ w.index.result.now (omega arith) w.index.ensures None) ∙ none_there w.index.result.now w.if-is_none.ensures) n (omega arith);
      }
      | else-job-jobs w ↦ record {
        count = ap (λ v. length v.items) w.marks-is ∙ c.loop-job.invariant.count;
        marks = λ n h.
            ap (λ v. slice_index_or v.items n None) w.marks-is
            ∙ kept marks c.deref-job-items.result.now c.loop-job.job-index (0, Made) c.loop-job-test.true so_far
            (λ within.
            elim w.else-job-jobs.branch [
              | else-job-jobs-via-then-job-jobs+else-is_none w' ↦
                  let had = some_there w'.index.result.now w'.if-is_none.ensures in
                  (had.0, sym (get_or_read marks _ w'.index.result.now (omega arith) w'.index.ensures None) ∙ had.1)
              | else-job-jobs-via-else-job-jobs w' ↦ absurd (omega arith)
            ]) n (omega arith);
      }
    ]
