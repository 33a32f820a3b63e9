use Rattle.keys.proofs.MapLemmas.{total, same_key}
use Rattle.keys.proofs.laws.keys_are_totally_ordered.Goals as goal

pub returns : goal.returns
returns c = record {
  total = total;
  exact = same_key;
}
