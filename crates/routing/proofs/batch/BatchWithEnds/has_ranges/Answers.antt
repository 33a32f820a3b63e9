use Rattle.std.proofs.Common.{◌∙◌}
use Rattle.routing.proofs.BatchLemmas.{any_same}
use Rattle.routing.proofs.batch.BatchWithEnds.has_ranges.Goals as goal

pub returns : goal.returns
returns c = c.has_range.ensures ∙ any_same c.self.inside.commands.now _ c.args.self.now c.self.view_is
