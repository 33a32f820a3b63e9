use Rattle.std.proofs.Common.{[], inr}
use Rattle.std.proofs.lemmas.Result.{err_from_is_err_and}
use Rattle.bwsh.proofs.context.Session.old_store.Goals as goal

pub returns-in_err-opened : goal.returns-in_err-opened
returns-in_err-opened g c =
    let p = err_from_is_err_and c.from_residual.result c.from_residual.ensures.1 in
    ([], rw (p.1, p.2) (inr (inr c.in_err-opened.ensures.device)))

pub returns-in_err-store : goal.returns-in_err-store
returns-in_err-store g c =
    let p = err_from_is_err_and c.from_residual-in_err-store.result c.from_residual-in_err-store.ensures.1 in
    let (file, opens) = c.in_err-store.ensures in
    (file, rw (p.1, p.2) opens)

-- the lock is kept
pub returns-in_err-check_call : goal.returns-in_err-check_call
returns-in_err-check_call g c =
    let p = err_from_is_err_and c.from_residual-in_err-check_call.result c.from_residual-in_err-check_call.ensures.1 in
    ([], rw (p.1, p.2) (inr (inr c.in_err-check_call.ensures.device)))
