use Rattle.std.proofs.Common.{inr}
use Rattle.std.proofs.lemmas.Result.{err_from_is_err_and}
use Rattle.bwsh.proofs.StoreLemmas.{IsUnopened-checked}
use Rattle.bwsh.proofs.context.Session.new_store.Goals as goal

pub returns-in_err-check : goal.returns-in_err-check
returns-in_err-check g c file =
    let p = err_from_is_err_and c.from_residual.result c.from_residual.ensures.1 in
    rw (p.1, p.2) (IsUnopened-checked c.args.self.now.asked.now.settings file c.in_err-check.field-0.0 c.in_err-check.ensures)

pub returns-in_err-file : goal.returns-in_err-file
returns-in_err-file g c file =
    let p = err_from_is_err_and c.from_residual-in_err-file.result c.from_residual-in_err-file.ensures.1 in
    rw (p.1, p.2) (inr (inr c.in_err-file.ensures.device))

pub returns-in_err-disk : goal.returns-in_err-disk
returns-in_err-disk g c file =
    let p = err_from_is_err_and c.from_residual-in_err-disk.result c.from_residual-in_err-disk.ensures.1 in
    rw (p.1, p.2) (inr (inr c.in_err-disk.ensures.device))

-- a disk over a file isn't honest
pub returns : goal.returns
returns g c file = c.create_store.ensures.opens file (rw c.disk.ensures (λ honest. absurd (cc)))
