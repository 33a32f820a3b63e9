use Rattle.std.proofs.Common.{◌∙◌}
use Rattle.std.proofs.lemmas.Result.{err_from_is_err_and}
use Rattle.engine.proofs.HandleLemmas.{one_refused}
use Rattle.engine.proofs.handle.Handle.execute_one.Goals as goal

pub returns-in_err-replies : goal.returns-in_err-replies
returns-in_err-replies g c =
    let p = err_from_is_err_and c.from_residual-in_err-replies.result c.from_residual-in_err-replies.ensures.1 in
    rw (p.1, p.2) (one_refused g.D.Disk.view c.args.self.now c.execute_all.new.self c.args.command c.deref.result.now (λ replies. replies.items) _ (c.deref.ensures.value ∙ c.in_ok-commands.ensures.items) c.in_err-replies.ensures)
