use Rattle.std.proofs.Common.{◌<◌, ◌^◌, ap, sym, subst, ◌∙◌}
use Rattle.flush_log.specs.Slot.{Slot, is_slot}
use Rattle.flush_log.proofs.SlotReading.{height_decides}
use Rattle.flush_log.proofs.slot.is_slot.Goals as goal
use Rattle.flush_log.proofs.slot.is_slot.Goals.{then-is_sequence, else-is_sequence}

pub returns-then-is_log : goal.returns-then-is_log
returns-then-is_log c = elim c.if-is_sequence.branch [
  | then-is_sequence w ↦
      (let t : Slot = record { sequence = c.slot.inside.ends.sequence; head = c.slot.inside.ends.head; tail = c.slot.inside.ends.tail; root = c.slot.inside.root; height = c.slot.inside.height; version = c.slot.inside.version } in
      let small = subst (λ (u : Slot). u.root < 2 ^ 64) (sym c.slot.view_is) c.requires.root in
      c.is_height.ensures
      ∙ height_decides c.args.settings.now c.args.n t
      (sym c.is_sequence.ensures ∙ w.if-is_sequence.true)
      (sym w.is_log.ensures ∙ sym w.value-is ∙ c.if-is_log.true)
      small
      ∙ ap (is_slot c.args.settings.now c.args.n) c.slot.view_is)
  | else-is_sequence w ↦ absurd (cc)
]
