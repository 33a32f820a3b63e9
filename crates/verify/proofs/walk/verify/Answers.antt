use Rattle.std.proofs.Common.{sym, subst}
use Rattle.mapping.specs.Finding.{finding}
use Rattle.mapping.specs.TreeInMemory.{tree_of}
use Rattle.verify.specs.Report.{IsFaultOf}
use Rattle.verify.proofs.LevelLemmas.{err_of}
use Rattle.verify.proofs.WalkLemmas.{owes_nothing}
use Rattle.verify.proofs.walk.verify.Goals as goal

pub returns-in_err-leaves-clause-sound : goal.returns-in_err-leaves-clause-sound
returns-in_err-leaves-clause-sound g c = owes_nothing c.from_residual.result _ c.from_residual.ensures.0

pub returns-in_err-leaves-clause-report : goal.returns-in_err-leaves-clause-report
returns-in_err-leaves-clause-report g c = owes_nothing c.from_residual.result _ c.from_residual.ensures.0

pub returns-in_err-leaves-clause-err : goal.returns-in_err-leaves-clause-err
returns-in_err-leaves-clause-err g c =
    let found = finding c.args.settings.now (tree_of c.args.tree.now) in
    err_of c.from_residual.result _ _ c.from_residual.ensures.1 (λ e h. subst (IsFaultOf found) (sym h) c.in_err-leaves.ensures.err)

pub returns-in_err-pairs-clause-sound : goal.returns-in_err-pairs-clause-sound
returns-in_err-pairs-clause-sound g c = owes_nothing c.from_residual-in_err-pairs.result _ c.from_residual-in_err-pairs.ensures.0

pub returns-in_err-pairs-clause-report : goal.returns-in_err-pairs-clause-report
returns-in_err-pairs-clause-report g c = owes_nothing c.from_residual-in_err-pairs.result _ c.from_residual-in_err-pairs.ensures.0

pub returns-in-Some-clause-sound : goal.returns-in-Some-clause-sound
returns-in-Some-clause-sound g c = tt

pub returns-in-Some-clause-report : goal.returns-in-Some-clause-report
returns-in-Some-clause-report g c = tt
