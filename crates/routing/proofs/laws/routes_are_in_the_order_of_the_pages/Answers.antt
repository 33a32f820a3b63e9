use Rattle.routing.proofs.RouteLemmas.{routes-in_order}
use Rattle.routing.proofs.laws.routes_are_in_the_order_of_the_pages.Goals as goal

pub returns : goal.returns
returns g c = routes-in_order
