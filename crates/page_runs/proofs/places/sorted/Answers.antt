use Rattle.routing.proofs.SliceLemmas.{rises_when_sorted}
use Rattle.page_runs.proofs.places.sorted.Goals as goal

pub returns-clause-rising : goal.returns-clause-rising
returns-clause-rising c = rises_when_sorted c.sort_unstable.new.self.items c.sort_unstable.ensures.sorted
