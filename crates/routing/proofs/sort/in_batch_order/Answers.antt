use Rattle.std.proofs.Common.{rules}
use Rattle.routing.proofs.SliceLemmas.{rises_when_sorted}
use Rattle.routing.proofs.sort.in_batch_order.Goals as goal

pub returns-clause-rising : goal.returns-clause-rising
returns-clause-rising c = search (rules, rises_when_sorted)
