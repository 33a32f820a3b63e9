use Rattle.std.proofs.Common.{sym, ◌∙◌}
use Rattle.climb_plan.proofs.RewritingSeen.{call_at}
use Rattle.climb_plan.proofs.family.first_to_restructure.Goals as goal

pub returns-then-needs_restructuring : goal.returns-then-needs_restructuring
returns-then-needs_restructuring c = call_at c.args.seen.now c.loop-page.page-index c.page-item.result c.low.result.now c.loop-page-test.true c.page-item.is c.loop-page.invariant (sym c.needs_restructuring.ensures ∙ c.if-needs_restructuring.true) c.low.ensures
