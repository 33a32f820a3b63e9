use Rattle.std.proofs.Common.{◌<◌, ◌≤◌, length, ap, ◌∙◌, arith}
use Rattle.mapping.specs.Flushed.{marked_as_written}
use Rattle.mapping.proofs.FlushedSlots.{so_far-more, all-marked_as_written}
use Rattle.mapping.proofs.table.Table+Page+A+A.flushed.Goals as goal

pub invariant_of-self : goal.invariant_of-self
invariant_of-self g c =
    let same = c.loop-slot.auto.slot-items in
    let ended : length c.loop-slot.slot-items ≤ c.loop-slot.slot-index = omega (arith, c.loop-slot-test.false) in
    (all-marked_as_written c.self.inside.slots.items c.deref_mut-slot-items.result.now c.loop-slot.slot-items c.self.inside.filled c.loop-slot.slot-index c.self.inside.slots.len c.self.invariant
    c.deref_mut-slot-items.ensures.value c.loop-slot.invariant ended (omega (arith, c.deref_mut-slot-items.ensures.len))).0

pub loop-slot-preserved : goal.loop-slot-preserved
loop-slot-preserved g c =
    let same = c.loop-slot.auto.slot-items in
    let within : c.loop-slot.slot-index < length c.loop-slot.slot-items = omega (arith, c.loop-slot-test.true) in
    so_far-more c.deref_mut-slot-items.result.now c.loop-slot.slot-items c.loop-slot.slot-index c.loop-slot.invariant c.slot-item.result c.logged_then-slot.result within c.logged_then-slot.ensures

pub returns : goal.returns
returns g c =
    let same = c.loop-slot.auto.slot-items in
    let ended : length c.loop-slot.slot-items ≤ c.loop-slot.slot-index = omega (arith, c.loop-slot-test.false) in
    (all-marked_as_written c.self.inside.slots.items c.deref_mut-slot-items.result.now c.loop-slot.slot-items c.self.inside.filled c.loop-slot.slot-index c.self.inside.slots.len c.self.invariant
    c.deref_mut-slot-items.ensures.value c.loop-slot.invariant ended (omega (arith, c.deref_mut-slot-items.ensures.len))).1
    ∙ ap marked_as_written c.self.view_is
