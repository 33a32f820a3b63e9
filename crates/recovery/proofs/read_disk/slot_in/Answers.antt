use Rattle.std.proofs.Common.{ℕ, List, ◌++◌, replicate, sym, ap₂, ◌∙◌, arith}
use Rattle.std.proofs.lemmas.List.{length-take, take_rest}
use Rattle.flush_log.specs.Slot.{newer}
use Rattle.recovery.proofs.ReadSlots.{first-of, second-of, disk-of, slot-good}
use Rattle.recovery.proofs.read_disk.slot_in.Goals as goal

pub slice_bounds-read_slot-end : goal.slice_bounds-read_slot-end
slice_bounds-read_slot-end c = let long = length-take 64 c.args.slots.now in grind (arith, long, c.requires.length)

pub read_slot-first-requires-clause-length : goal.read_slot-first-requires-clause-length
read_slot-first-requires-clause-length c = let long = length-take 64 c.args.slots.now in grind (arith, long, c.requires.length)

pub returns-clause-read : goal.returns-clause-read
returns-clause-read c disk are =
    let slots = c.args.slots.now in
    c.newer.ensures ∙ ap₂ newer (c.read_slot-first.ensures disk (first-of disk slots are)) (c.read_slot-second.ensures disk (second-of disk slots are ∙ sym (take_rest slots 64)))

pub returns-clause-slot : goal.returns-clause-slot
returns-clause-slot c =
    let slots = c.args.slots.now in
    let disk : List ℕ = replicate 128 0 ++ slots in
    let are = disk-of slots c.requires.length in
    slot-good c.args.settings.now disk c.newer.result
    (c.newer.ensures ∙ ap₂ newer (c.read_slot-first.ensures disk (first-of disk slots are)) (c.read_slot-second.ensures disk (second-of disk slots are ∙ sym (take_rest slots 64))))
