use Rattle.std.proofs.Common.{inr, refl}
use Rattle.std.proofs.lemmas.Result.{err_from_is_err_and}
use Rattle.keys.specs.Limits.{first_bad_field}
use Rattle.bwsh.proofs.CopyOrderLemmas.{IsUncopied-field, unrefused}
use Rattle.bwsh.proofs.context.Session.begin_copy.Goals as goal

pub returns-in_err-check-clause-settings : goal.returns-in_err-check-clause-settings
returns-in_err-check-clause-settings g c = let p = err_from_is_err_and c.from_residual.result c.from_residual.ensures.1 in rw p.1 tt

pub returns-in_err-check-clause-good : goal.returns-in_err-check-clause-good
returns-in_err-check-clause-good g c = let p = err_from_is_err_and c.from_residual.result c.from_residual.ensures.1 in rw p.1 tt

pub returns-in_err-check-clause-refused : goal.returns-in_err-check-clause-refused
returns-in_err-check-clause-refused g c =
    let settings = c.args.settings in
    let p = err_from_is_err_and c.from_residual.result c.from_residual.ensures.1 in
    rw (p.1, p.2) (IsUncopied-field settings (first_bad_field settings) tt c.check.result c.in_err-check.field-0.0 refl c.check.ensures c.in_err-check.was)

pub returns-in_err-file-clause-refused : goal.returns-in_err-file-clause-refused
returns-in_err-file-clause-refused g c =
    let p = err_from_is_err_and c.from_residual-in_err-file.result c.from_residual-in_err-file.ensures.1 in
    rw (p.1, p.2) (inr c.in_err-file.ensures.device)

pub returns-clause-settings : goal.returns-clause-settings
returns-clause-settings g c = refl

pub returns-clause-good : goal.returns-clause-good
returns-clause-good g c = unrefused (first_bad_field c.args.settings) tt c.check.result c.check.ensures c.in_ok-check.was
