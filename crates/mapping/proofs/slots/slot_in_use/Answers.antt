use Rattle.mapping.proofs.TableSlots.{none_is_not_some, place-gap}
use Rattle.mapping.proofs.slots.slot_in_use.Goals as goal

-- a pid that has no slot has no place
pub unreachable-requires : goal.unreachable-requires
unreachable-requires g c = none_is_not_some _ (place-gap c.args.slots.now c.in-Err.field-0 c.args.pid c.in-Err.ensures) c.requires.in_use
