use Rattle.std.proofs.Common.{◌∙◌, true, false, bytes_eq, sym, ap, refl}
use Rattle.keys.specs.Bytes.{Bytes}
use Rattle.flush_log.specs.Slot.{is_slot}
use Rattle.flush_log.proofs.SlotReading.{reads_none, reads_open}
use Rattle.flush_log.proofs.slot.read_slot.Goals as goal
use Rattle.flush_log.proofs.slot.read_slot.Goals.{else-eq-via-then-eq+else-is_slot, else-eq-via-else-eq}

pub returns-then-bytes-ne1 : goal.returns-then-bytes-ne1
returns-then-bytes-ne1 c disk h = reads_none c.args.settings.now c.args.n disk c.args.bytes.now h c.if-bytes-ne1.true

pub returns-then-is_slot : goal.returns-then-is_slot
returns-then-is_slot c disk h =
    let same = sym c.if-eq.true ∙ c.eq.ensures ∙ ap (λ (bs : Bytes). bytes_eq bs c.args.bytes.now) (c.as_slice.ensures ∙ c.slot_bytes.ensures) in
    let good = sym c.if-is_slot.true ∙ c.is_slot.ensures in
    reads_open c.args.settings.now c.args.n disk c.args.bytes.now c.slot_in-slot.result true true h c.if-bytes-ne1.false c.slot_in-slot.ensures.said same good

pub returns-else-eq : goal.returns-else-eq
returns-else-eq c disk h =
    let slot = c.slot_in-slot.result in
    elim c.else-eq.branch [
      | else-eq-via-then-eq+else-is_slot w ↦
          (let same = sym w.if-eq.true ∙ c.eq.ensures ∙ ap (λ (bs : Bytes). bytes_eq bs c.args.bytes.now) (c.as_slice.ensures ∙ c.slot_bytes.ensures) in
          let good = sym w.if-is_slot.false ∙ w.is_slot.ensures in
          reads_open c.args.settings.now c.args.n disk c.args.bytes.now slot true false h c.if-bytes-ne1.false c.slot_in-slot.ensures.said same good)
      | else-eq-via-else-eq w ↦
          (let same = sym w.if-eq.false ∙ c.eq.ensures ∙ ap (λ (bs : Bytes). bytes_eq bs c.args.bytes.now) (c.as_slice.ensures ∙ c.slot_bytes.ensures) in
          reads_open c.args.settings.now c.args.n disk c.args.bytes.now slot false (is_slot c.args.settings.now c.args.n slot) h c.if-bytes-ne1.false c.slot_in-slot.ensures.said same refl)
    ]
