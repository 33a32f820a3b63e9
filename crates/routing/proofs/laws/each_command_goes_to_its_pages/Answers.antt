use Rattle.routing.proofs.RouteLemmas.{routes-within, routes-some, routes-once}
use Rattle.routing.proofs.laws.each_command_goes_to_its_pages.Goals as goal

pub returns : goal.returns
returns g c = record {
  within = routes-within;
  some = routes-some;
  once = routes-once;
}
