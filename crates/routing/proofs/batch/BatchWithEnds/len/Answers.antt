use Rattle.routing.proofs.BatchLemmas.{length_same}
use Rattle.routing.proofs.batch.BatchWithEnds.len.Goals as goal

pub returns : goal.returns
returns c = length_same c.self.inside.commands.now _ c.args.self.now c.self.view_is
