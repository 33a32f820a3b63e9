use Rattle.std.proofs.Common.{arith}
use Rattle.flush_log.proofs.FitLemmas.{are_sized}
use Rattle.flush_log.proofs.StandingLemmas.{first-fault}
use Rattle.flush_log.proofs.laws.the_first_fault_is_answered.Goals as goal

pub returns : goal.returns
returns c g file head tail fault good = let size = (are_sized g.settings good).least_size in first-fault g file head tail fault (omega (arith, size))
