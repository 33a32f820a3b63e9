use Rattle.std.proofs.Common.{arith}
use Rattle.flush_log.proofs.FitLemmas.{are_sized}
use Rattle.flush_log.proofs.HeadLemmas.{head-filtered, found-in, text-in}
use Rattle.flush_log.proofs.laws.the_head_segment_is_taken_off.Goals as goal

pub returns : goal.returns
returns c = record {
  rest = λ g file head tail found. head-filtered g file head tail found;
  found = λ g file head tail found good. let size = (are_sized g.settings good).least_size in found-in g file head tail found (omega (arith, size));
  text = λ s tail text good. let size = (are_sized s good).least_size in text-in s tail text (omega (arith, size));
}
