use Rattle.std.proofs.Common.{inl, refl}
use Rattle.std.proofs.lemmas.Result.{err_from_is_err_and}
use Rattle.std.specs.Prelude.{Bool, if◌then◌else◌}
use Rattle.keys.specs.declared.command.Command.TheVariants.{Put}
use Rattle.keys.specs.declared.command.Reply.TheVariants.{New, Replaced}
use Rattle.engine.proofs.HandleLemmas.{call_refused, call_unchanged, put_done}
use Rattle.engine.proofs.handle.Handle.put.Goals as goal

-- there was no memory for the command
pub returns-in_err-command-clause-call : goal.returns-in_err-command-clause-call
returns-in_err-command-clause-call g c = (let p = err_from_is_err_and c.from_residual.result c.from_residual.ensures.1 in rw (p.1, p.2) (inl (refl, refl)))

pub returns-in_err-reply-clause-unchanged : goal.returns-in_err-reply-clause-unchanged
returns-in_err-reply-clause-unchanged g c =
    let p = err_from_is_err_and c.from_residual-in_err-reply.result c.from_residual-in_err-reply.ensures.1 in
    rw p.1 (call_unchanged g.D.Disk.view c.args.self.now c.execute_one.new.self c.in_ok-command.command (λ reply. reply) _ c.in_err-reply.ensures)

pub returns-in_err-reply-clause-call : goal.returns-in_err-reply-clause-call
returns-in_err-reply-clause-call g c =
    let p = err_from_is_err_and c.from_residual-in_err-reply.result c.from_residual-in_err-reply.ensures.1 in
    rw (p.1, p.2) (call_refused g.D.Disk.view c.args.self.now c.execute_one.new.self (Put c.args.key.now c.args.value.now) (λ reply. reply) (λ (was_absent : Bool). if was_absent then New else Replaced) c.in_ok-command.command _ c.in_ok-command.ensures c.in_err-reply.ensures)

pub returns-clause-answer : goal.returns-clause-answer
returns-clause-answer g c = (put_done g.D.Disk.view c.args.self.now c.execute_one.new.self c.in_ok-command.command c.in_ok-reply.reply c.in_ok-reply.ensures c.args.key.now c.args.value.now c.is_new.result c.in_ok-command.ensures c.is_new.ensures).0

pub returns-clause-contents : goal.returns-clause-contents
returns-clause-contents g c = (put_done g.D.Disk.view c.args.self.now c.execute_one.new.self c.in_ok-command.command c.in_ok-reply.reply c.in_ok-reply.ensures c.args.key.now c.args.value.now c.is_new.result c.in_ok-command.ensures c.is_new.ensures).1

pub returns-clause-call : goal.returns-clause-call
returns-clause-call g c = (put_done g.D.Disk.view c.args.self.now c.execute_one.new.self c.in_ok-command.command c.in_ok-reply.reply c.in_ok-reply.ensures c.args.key.now c.args.value.now c.is_new.result c.in_ok-command.ensures c.is_new.ensures).2
