use Rattle.std.proofs.Common.{inl, refl}
use Rattle.std.proofs.lemmas.Result.{err_from_is_err_and}
use Rattle.std.specs.Option.{option_copied}
use Rattle.std.specs.Prelude.{ℕ}
use Rattle.keys.specs.declared.command.Command.TheVariants.{Wipe}
use Rattle.keys.specs.declared.command.Reply.TheVariants.{Wiped}
use Rattle.engine.proofs.HandleLemmas.{call_refused, call_unchanged, wipe_done}
use Rattle.engine.proofs.handle.Handle.wipe.Goals as goal

-- there was no memory for the command
pub returns-in_err-command-clause-call : goal.returns-in_err-command-clause-call
returns-in_err-command-clause-call g c = (let p = err_from_is_err_and c.from_residual.result c.from_residual.ensures.1 in rw (p.1, p.2) (inl (refl, refl)))

pub returns-in_err-reply-clause-unchanged : goal.returns-in_err-reply-clause-unchanged
returns-in_err-reply-clause-unchanged g c =
    let p = err_from_is_err_and c.from_residual-in_err-reply.result c.from_residual-in_err-reply.ensures.1 in
    rw p.1 (call_unchanged g.D.Disk.view c.args.self.now c.execute_one.new.self c.in_ok-command.command (λ reply. reply) _ c.in_err-reply.ensures)

pub returns-in_err-reply-clause-call : goal.returns-in_err-reply-clause-call
returns-in_err-reply-clause-call g c =
    let p = err_from_is_err_and c.from_residual-in_err-reply.result c.from_residual-in_err-reply.ensures.1 in
    rw (p.1, p.2) (call_refused g.D.Disk.view c.args.self.now c.execute_one.new.self (Wipe c.args.lo.now (option_copied c.args.hi)) (λ reply. reply) (λ (count : ℕ). Wiped count) c.in_ok-command.command _ c.in_ok-command.ensures c.in_err-reply.ensures)

pub returns-clause-answer : goal.returns-clause-answer
returns-clause-answer g c = (wipe_done g.D.Disk.view c.args.self.now c.execute_one.new.self c.in_ok-command.command c.in_ok-reply.reply c.in_ok-reply.ensures c.args.lo.now (option_copied c.args.hi) c.wiped_count.result c.in_ok-command.ensures c.wiped_count.ensures).0

pub returns-clause-contents : goal.returns-clause-contents
returns-clause-contents g c = (wipe_done g.D.Disk.view c.args.self.now c.execute_one.new.self c.in_ok-command.command c.in_ok-reply.reply c.in_ok-reply.ensures c.args.lo.now (option_copied c.args.hi) c.wiped_count.result c.in_ok-command.ensures c.wiped_count.ensures).1

pub returns-clause-call : goal.returns-clause-call
returns-clause-call g c = (wipe_done g.D.Disk.view c.args.self.now c.execute_one.new.self c.in_ok-command.command c.in_ok-reply.reply c.in_ok-reply.ensures c.args.lo.now (option_copied c.args.hi) c.wiped_count.result c.in_ok-command.ensures c.wiped_count.ensures).2
