use Rattle.std.proofs.Common.{◌≡◌, IsTrue, OnOk, List, ℕ, sym, ap, subst, ◌∙◌}
use Rattle.flush_log.specs.Slot.{Slot, slot_place}
use Rattle.flush_log.proofs.SlotRuns.{has_slots, slot_opened, slot_leaves}
use Rattle.flush_log.proofs.commit.write_slot.Goals as goal

pub returns-clause-written : goal.returns-clause-written
returns-clause-written g c honest =
    let disk = g.D.Disk in
    let old = disk.view c.args.disk.now in
    let mid = disk.view c.write_through.new.disk in
    let still = subst IsTrue (sym c.write_through.ensures.kept.honest) honest in
    let at = c.slot_place-gate.ensures ∙ ap (λ (t : Slot). slot_place t.sequence) c.slot.view_is in
    let all = slot_opened c.args.slot.now c.slot_place-gate.result c.slot_bytes-bytes.result at c.slot_bytes-bytes.ensures old.seen mid.seen
    (has_slots old (g.met.D.Disk.lawful c.args.disk.now honest) c.requires) (c.in_ok-write_through.ensures.written honest) in
    subst (λ (f : List ℕ). OnOk c.write_through-2.result ((disk.view c.write_through-2.new.disk).seen ≡ f)) all (c.write_through-2.ensures.written still)

pub returns-clause-crash : goal.returns-clause-crash
returns-clause-crash g c is_synced shut =
    let disk = g.D.Disk in
    let old = disk.view c.args.disk.now in
    let mid = disk.view c.write_through.new.disk in
    let still = subst IsTrue (sym c.write_through.ensures.kept.honest) is_synced.honest in
    let at = c.slot_place-gate.ensures ∙ ap (λ (t : Slot). slot_place t.sequence) c.slot.view_is in
    slot_leaves c.args.slot.now c.slot_place-gate.result c.slot_bytes-bytes.result at c.slot_bytes-bytes.ensures old is_synced
    (has_slots old (g.met.D.Disk.lawful c.args.disk.now is_synced.honest) c.requires) shut mid (disk.view c.write_through-2.new.disk)
    (c.in_ok-write_through.ensures.is_synced is_synced.honest) (c.in_ok-write_through.ensures.written is_synced.honest) (c.write_through.ensures.crash is_synced.honest) (c.write_through-2.ensures.crash still)
