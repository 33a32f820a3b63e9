use Rattle.std.proofs.Common.{◌∙◌}
use Rattle.engine.proofs.BatchRows.{counted_more}
use Rattle.engine.proofs.handle.batch.Batch.push.Goals as goal

pub invariant_of-self-2 : goal.invariant_of-self-2
invariant_of-self-2 c =
    counted_more c.self.inside.commands.items c.push.new.self.items c.args.command c.self.inside.rows c.from.result c.saturating_add-rows.result c.self.invariant (c.from.ensures ∙ c.row_limit.ensures)
    c.saturating_add-rows.ensures c.in_ok-push.ensures.items
