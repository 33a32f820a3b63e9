use Rattle.std.proofs.Common.{sym, ap, ◌∙◌}
use Rattle.recovery.specs.Gathered.{first_unfit}
use Rattle.recovery.proofs.KeptPages.{unfit-found, unfit-here, unfit-later}
use Rattle.recovery.proofs.gather.Gathering.unfit.Goals as goal

pub loop-entry-preserved : goal.loop-entry-preserved
loop-entry-preserved c =
    unfit-later c.loop-entry.entry-iterator c.next.new.self c.args.self.now.by_pid.entries (c.in-Some.entry.0.now, c.in-Some.entry.1.now) c.in-Some.ensures.steps c.loop-entry.invariant
    (sym c.is_unfit.ensures ∙ c.if-is_unfit.false)

pub returns-then-is_unfit : goal.returns-then-is_unfit
returns-then-is_unfit c w found live =
    sym (unfit-here c.loop-entry.entry-iterator c.next.new.self c.args.self.now.by_pid.entries (c.in-Some.entry.0.now, c.in-Some.entry.1.now) c.in-Some.ensures.steps c.loop-entry.invariant
    (sym c.is_unfit.ensures ∙ c.if-is_unfit.true))
    ∙ unfit-found w c.args.self.now found c.iter-entry-items.ensures.ordered live

pub returns : goal.returns
returns c w found live = sym (ap first_unfit c.in-None.ensures.steps.0) ∙ c.loop-entry.invariant ∙ unfit-found w c.args.self.now found c.iter-entry-items.ensures.ordered live
