use Rattle.std.proofs.Common.{refl}
use Rattle.mapping.proofs.FirstTree.{first_is_proper, first_logs_are_true}
use Rattle.mapping.proofs.laws.the_first_tree_is_proper_and_empty.Goals as goal

pub returns : goal.returns
returns c = record {
  proper = first_is_proper;
  logs = first_logs_are_true;
  empty = refl;
}
