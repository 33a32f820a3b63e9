use Rattle.keys.proofs.RunLemmas.{replies_to-append, map_after_all-append}
use Rattle.keys.proofs.laws.joined_commands_follow_one_another.Goals as goal

pub returns : goal.returns
returns g c = record {
  replies = replies_to-append;
  map = map_after_all-append;
}
