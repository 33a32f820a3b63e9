use Rattle.std.proofs.Common.{[]}
use Rattle.bwsh.proofs.OrderLemmas.{commands-orders_of}
use Rattle.bwsh.proofs.laws.each_command_is_ordered_once.Goals as goal

pub returns : goal.returns
returns c = commands-orders_of []
