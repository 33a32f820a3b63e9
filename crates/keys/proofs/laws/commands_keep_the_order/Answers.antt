use Rattle.keys.proofs.RunLemmas.{rising-map_after, rising-map_after_all}
use Rattle.keys.proofs.laws.commands_keep_the_order.Goals as goal

pub returns : goal.returns
returns g c = record {
  one = rising-map_after;
  all = rising-map_after_all;
}
