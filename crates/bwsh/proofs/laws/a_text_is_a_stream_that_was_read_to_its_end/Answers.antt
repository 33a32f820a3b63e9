use Rattle.std.proofs.Common.{[]}
use Rattle.bwsh.proofs.OrderLemmas.{asked-orders_of}
use Rattle.bwsh.proofs.RefusalLemmas.{first_bad-after}
use Rattle.bwsh.proofs.TextLemmas.{answered-accepted, answered-all}
use Rattle.bwsh.proofs.laws.a_text_is_a_stream_that_was_read_to_its_end.Goals as goal

pub returns : goal.returns
returns c = record {
  orders = λ bounds parsed good within. asked-orders_of bounds 1 [] parsed good within;
  stream = answered-all;
  text = answered-accepted;
  found = first_bad-after;
}
