use Rattle.std.proofs.Common.{rules, subst, sym, IsTrue}
use Rattle.recovery.proofs.ReadBytes.{kept_then, same_on}
use Rattle.engine.proofs.UnfinishedLemmas.{more_read, other_read}
use Rattle.engine.proofs.unfinished.has_only_zeros.Goals as goal

pub returns-then-not-branch-clause-exact : goal.returns-then-not-branch-clause-exact
returns-then-not-branch-clause-exact g c honest =
    let view = g.D.Disk.view in
    let loop = c.pieces.invariant in
    let read = c.in_ok-reads_zeros.ensures.exact (subst IsTrue (sym loop.kept.honest) honest) in
    other_read (view c.args.disk.now).seen (view c.pieces.disk).seen c.pieces.at _ c.in_ok-reads_zeros.field-0 (loop.same honest).seen (search rules) read

pub pieces-preserved : goal.pieces-preserved
pieces-preserved g c =
    let view = g.D.Disk.view in
    let loop = c.pieces.invariant in record {
      within = search rules;
      kept = kept_then (view c.args.disk.now) (view c.pieces.disk) (view c.reads_zeros.new.disk) loop.kept c.reads_zeros.ensures.kept;
      counted = search rules;
      same = same_on (view c.args.disk.now) (view c.pieces.disk) (view c.reads_zeros.new.disk) loop.kept loop.same c.reads_zeros.ensures.same;
      zeros = λ honest. (
          let read = c.in_ok-reads_zeros.ensures.exact (subst IsTrue (sym loop.kept.honest) honest) in
          more_read (view c.args.disk.now).seen (view c.pieces.disk).seen c.pieces.at c.min-size.result _ c.in_ok-reads_zeros.field-0 (loop.same honest).seen (search rules) (loop.zeros honest) (search rules) read);
    }
