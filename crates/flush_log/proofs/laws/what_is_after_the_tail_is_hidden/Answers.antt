use Rattle.std.proofs.Common.{arith}
use Rattle.flush_log.proofs.FitLemmas.{are_sized}
use Rattle.flush_log.proofs.HideLemmas.{hidden, in-segments}
use Rattle.flush_log.proofs.laws.what_is_after_the_tail_is_hidden.Goals as goal

pub returns : goal.returns
returns c = record {
  hidden = λ g file other head tail good. let size = (are_sized g.settings good).least_size in let count = (are_sized g.settings good).least_count in hidden g file other head tail (omega (arith, size)) (omega (arith, count));
  places = λ s head tail place good. let count = (are_sized s good).least_count in in-segments s head tail place (omega (arith, count));
}
