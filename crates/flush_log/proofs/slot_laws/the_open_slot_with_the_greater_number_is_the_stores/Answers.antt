use Rattle.flush_log.proofs.SlotLemmas.{store_slot-read, store_slot-newest, store_slot-none, none_open, one_refused}
use Rattle.flush_log.proofs.slot_laws.the_open_slot_with_the_greater_number_is_the_stores.Goals as goal

pub returns : goal.returns
returns c = record { own = store_slot-read; greatest = store_slot-newest; none = store_slot-none; none_open = none_open; one_refused = one_refused }
