use Rattle.recovery.proofs.FirstStore.{new-store}
use Rattle.recovery.proofs.laws.a_new_disk_stands_for_the_first_store.Goals as goal

pub returns : goal.returns
returns c s disk good room = new-store s disk good room
