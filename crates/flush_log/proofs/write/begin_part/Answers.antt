use Rattle.std.proofs.Common.{ℕ, ◌/◌, ◌%◌, ap, ◌∙◌}
use Rattle.flush_log.specs.Layout.{opened}
use Rattle.flush_log.proofs.GatherLemmas.{opened-new}
use Rattle.flush_log.proofs.write.begin_part.Goals as goal

pub returns-clause-same : goal.returns-clause-same
returns-clause-same c =
    let size = c.from-seg_size.result in
    c.begin_segment.ensures.same
    ∙ opened-new (c.args.tail / size) (c.args.tail % size) c.if-used-gt0.false
    ∙ ap (λ (n : ℕ). opened (c.args.tail / n) (c.args.tail % n)) c.from-seg_size.ensures
