use Rattle.engine.proofs.InTurn.{flat-replies_in_turn, map_in_turn-flat}
use Rattle.engine.proofs.laws.batches_are_their_commands_joined.Goals as goal

pub returns : goal.returns
returns g c = record {
  replies = flat-replies_in_turn;
  map = map_in_turn-flat;
}
