use Rattle.std.proofs.lemmas.Result.{err_from_is_err_and}
use Rattle.recovery.proofs.ReadBytes.{reads_without_failure, reads_with_fault}
use Rattle.recovery.proofs.RecoverLemmas.{tree-recovered, tree-refused}
use Rattle.recovery.proofs.recovered.recover.Goals as goal

pub returns-in_err-tree-clause-read : goal.returns-in_err-tree-clause-read
returns-in_err-tree-clause-read g c =
    let r = c.in_ok-format in
    let (file, read, log) = r.ensures.read in
    let p = err_from_is_err_and c.from_residual-in_err-tree.result c.from_residual-in_err-tree.ensures.1 in
    rw (p.1, p.2) (
      file,
      read,
      tree-refused file r.field-0 log _ _ c.in_err-tree.field-0.0 c.in_err-tree.ensures.err,
    )

pub returns-clause-read : goal.returns-clause-read
returns-clause-read g c =
    let r = c.in_ok-format in
    let (file, read, log) = r.ensures.read in (
      file,
      read,
      tree-recovered file r.field-0 log c.in_ok-tree.tree c.in_ok-tree.pairs c.in_ok-tree.ensures.ok,
    )

pub returns-in_err-format-clause-only_reads : goal.returns-in_err-format-clause-only_reads
returns-in_err-format-clause-only_reads g c = reads_with_fault g.D.Disk.view g.D.Disk.failed c.args.disk.now c.read_parts.new.disk c.from_residual.result c.in_err-format.field-0.0 c.from_residual.ensures.1 c.in_err-format.ensures.only_reads

pub returns-in_err-tree-clause-only_reads : goal.returns-in_err-tree-clause-only_reads
returns-in_err-tree-clause-only_reads g c =
    let ok = c.in_ok-format.ensures.only_reads in
    reads_without_failure g.D.Disk.view g.D.Disk.failed c.args.disk.now c.read_parts.new.disk c.from_residual-in_err-tree.result ok.kept ok.same ok.counted

pub returns-clause-only_reads : goal.returns-clause-only_reads
returns-clause-only_reads g c =
    let ok = c.in_ok-format.ensures.only_reads in
    record { kept = ok.kept; same = ok.same; counted = ok.counted; uncounted = tt }
