use Rattle.routing.proofs.RisingPlaces.{kept_rising, kept_same}
use Rattle.routing.proofs.page_run.PageRun.places.Goals as goal

pub returns-clause-same : goal.returns-clause-same
returns-clause-same c = kept_same c.args.self.now c.self.inside.pid c.self.inside.places.items c.as_slice.result.now c.self.view_is c.as_slice.ensures

pub returns-clause-rising : goal.returns-clause-rising
returns-clause-rising c = kept_rising c.args.self.now c.self.inside.pid c.self.inside.places.items c.self.view_is c.self.invariant
