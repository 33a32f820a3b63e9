use Rattle.routing.proofs.BatchLemmas.{end_there}
use Rattle.routing.proofs.batch.end_at.Goals as goal

pub returns-in-Some : goal.returns-in-Some
returns-in-Some c = end_there _ c.args.ends.now c.args.place c.in-Some.end.now c.in-Some.ensures.lookup.3.0 c.in-Some.ensures.lookup.1
