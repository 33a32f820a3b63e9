use Rattle.std.proofs.Common.{arith}
use Rattle.flush_log.proofs.FitLemmas.{are_sized}
use Rattle.flush_log.proofs.SlotLemmas.{one_slot}
use Rattle.flush_log.proofs.slot_laws.a_slot_has_one_encoding.Goals as goal

pub returns : goal.returns
returns c s m n t u good mt mu same = one_slot s m n t u (let size = (are_sized s good).least_size in omega arith) mt mu same
