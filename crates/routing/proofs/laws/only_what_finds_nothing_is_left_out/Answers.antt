use Rattle.routing.proofs.RunLemmas.{out_reaches, out_wiped, out_unput}
use Rattle.routing.proofs.laws.only_what_finds_nothing_is_left_out.Goals as goal

pub returns : goal.returns
returns g c = record {
  reaches = λ cs at r place h t o. out_reaches cs at r h place t o;
  wiped = λ cs at r place h t o. out_wiped cs at r h place t o;
  unput = λ cs at r place other d h t o. out_unput cs at r h place t o other d;
}
