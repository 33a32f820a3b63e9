use Rattle.std.proofs.Common.{◌∙◌, subst, sym}
use Rattle.bwsh.specs.declared.line.Line.{Line}
use Rattle.bwsh.specs.Source.{Orders}
use Rattle.bwsh.proofs.SourceLemmas.{Orders-bad, Orders-order}
use Rattle.bwsh.proofs.source.Source.order_of.Goals as goal

pub returns-in-Order-clause-orders : goal.returns-in-Order-clause-orders
returns-in-Order-clause-orders g c =
    let old = c.args.self.now in
    let before = c.before-in-Order in
    subst (λ (line : Line). Orders old before.new.self line before.result) (sym c.in-Order.is)
    (Orders-order old before.new.self c.in-Order.order before.result before.ensures.orders before.ensures.pending)

pub returns-in-Bad-clause-orders : goal.returns-in-Bad-clause-orders
returns-in-Bad-clause-orders g c =
    let old = c.args.self.now in
    let discard = c.discard in
    subst (λ (line : Line). Orders old discard.new.self line discard.result) (sym c.in-Bad.is)
    (Orders-bad old discard.new.self c.in-Bad.why discard.result discard.ensures.answer discard.ensures.pending (discard.ensures.queued ∙ c.requires))
