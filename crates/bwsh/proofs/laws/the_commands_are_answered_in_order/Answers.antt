use Rattle.bwsh.proofs.PrintedLemmas.{printed-orders, printed-parsed}
use Rattle.bwsh.proofs.laws.the_commands_are_answered_in_order.Goals as goal

pub returns : goal.returns
returns c = record {
  orders = printed-orders;
  lines = printed-parsed;
}
