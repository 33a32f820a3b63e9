use Rattle.std.proofs.Common.{refl, arith}
use Rattle.flush_log.proofs.FitLemmas.{are_sized}
use Rattle.flush_log.proofs.SlotLemmas.{slot-back, slot-stands, closed, shut}
use Rattle.flush_log.proofs.slot_laws.a_slot_is_read_back.Goals as goal

pub returns : goal.returns
returns c = record {
  length = λ t. refl;
  read = λ s n t disk good may stands. slot-back s n t disk (let size = (are_sized s good).least_size in omega arith) may stands;
  stands = λ s n t disk read. let is = slot-stands s n t disk read in (is.bytes, is.good);
  closed = λ s n disk. (closed s n disk, shut s n disk);
}
