use Rattle.flush_log.proofs.NextSlotLemmas.{next_good}
use Rattle.flush_log.proofs.SlotLemmas.{slot-is}
use Rattle.flush_log.proofs.commit_laws.the_slot_of_a_commit_is_well_formed.Goals as goal

pub returns : goal.returns
returns c g n t u text good may = next_good g n t u text good (slot-is g.settings n t may)
