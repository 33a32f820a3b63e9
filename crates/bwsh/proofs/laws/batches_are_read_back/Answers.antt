use Rattle.bwsh.proofs.OrderLemmas.{orders_of-batch_lines}
use Rattle.bwsh.proofs.laws.batches_are_read_back.Goals as goal

pub returns : goal.returns
returns c = orders_of-batch_lines
