use Rattle.flush_log.proofs.NewStoreLemmas.{new_settings, new_slot, new_log}
use Rattle.flush_log.proofs.commit_laws.a_new_store_is_one_empty_leaf.Goals as goal

pub returns : goal.returns
returns c s disk good room = (new_settings s disk good room, new_slot s disk good room, new_log s disk good room)
