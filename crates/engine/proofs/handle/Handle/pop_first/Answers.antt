use Rattle.std.proofs.Common.{◌∙◌, sym}
use Rattle.std.proofs.lemmas.Result.{err_from_is_err_and}
use Rattle.engine.proofs.HandleLemmas.{not_popped, popped_first}
use Rattle.engine.proofs.handle.Handle.pop_first.Goals as goal

pub returns-in_err-del-clause-call : goal.returns-in_err-del-clause-call
returns-in_err-del-clause-call g c =
    let p = err_from_is_err_and c.from_residual-in_err-del.result c.from_residual-in_err-del.ensures.1 in
    rw (p.1, p.2) (not_popped g.D.Disk.view c.args.self.now c.del.new.self (c.in-Some.key, c.in-Some.value) c.as_bytes.result.now (sym c.in_ok-key.ensures ∙ c.in-Some.is) c.as_bytes.ensures _ c.in_err-del.ensures.call)

pub returns-clause-contents : goal.returns-clause-contents
returns-clause-contents g c =
    (popped_first g.D.Disk.view c.args.self.now c.del.new.self (c.in-Some.key, c.in-Some.value) c.as_bytes.result.now (sym c.in_ok-key.ensures ∙ c.in-Some.is) c.as_bytes.ensures
    _ c.in_ok-del.ensures.answer c.in_ok-del.ensures.contents c.in_ok-del.ensures.call).0

pub returns-clause-call : goal.returns-clause-call
returns-clause-call g c =
    (popped_first g.D.Disk.view c.args.self.now c.del.new.self (c.in-Some.key, c.in-Some.value) c.as_bytes.result.now (sym c.in_ok-key.ensures ∙ c.in-Some.is) c.as_bytes.ensures
    _ c.in_ok-del.ensures.answer c.in_ok-del.ensures.contents c.in_ok-del.ensures.call).1
