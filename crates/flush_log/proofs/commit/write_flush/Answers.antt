use Rattle.std.proofs.Common.{◌≡◌, false, IsTrue, OnOk, List, ℕ, sym, ap, subst, ◌∙◌}
use Rattle.flush_log.specs.Overlay.{overlay}
use Rattle.flush_log.specs.Disk.{LeavesOnly, CountsFailure}
use Rattle.flush_log.specs.Layout.{spans, with_spans}
use Rattle.flush_log.specs.Slot.{Slot, slot_place, slot_bytes, is_open}
use Rattle.flush_log.specs.Commit.{seen_after, close_gate, IsUncommitted}
use Rattle.flush_log.proofs.ViewLemmas.{counts_failed, owes_nothing}
use Rattle.flush_log.proofs.OutcomeLemmas.{within_more}
use Rattle.flush_log.proofs.SlotRuns.{slots_within, has_slots, all_within}
use Rattle.flush_log.proofs.CommitRuns.{slot_committed, mid_closed, unfinished, commit_leaves}
use Rattle.flush_log.proofs.commit.write_flush.Goals as goal

pub returns-in_err-write_hidden-clause-kept : goal.returns-in_err-write_hidden-clause-kept
returns-in_err-write_hidden-clause-kept g c = c.write_hidden.ensures.kept

pub returns-in_err-write_hidden-clause-failed : goal.returns-in_err-write_hidden-clause-failed
returns-in_err-write_hidden-clause-failed g c =
    counts_failed c.from_residual.result (g.D.Disk.failed c.args.disk.now) (g.D.Disk.failed c.write_hidden.new.disk) c.from_residual.ensures.0
    c.in_err-write_hidden.ensures.failed

pub returns-in_err-write_hidden-clause-written : goal.returns-in_err-write_hidden-clause-written
returns-in_err-write_hidden-clause-written g c text of some inside honest = owes_nothing c.from_residual.result _ c.from_residual.ensures.0

pub returns-in_err-write_hidden-clause-is_synced : goal.returns-in_err-write_hidden-clause-is_synced
returns-in_err-write_hidden-clause-is_synced g c honest = owes_nothing c.from_residual.result _ c.from_residual.ensures.0

pub returns-clause-kept : goal.returns-clause-kept
returns-clause-kept g c = record { honest = c.write_slot.ensures.kept.honest ∙ c.write_hidden.ensures.kept.honest; size = c.write_slot.ensures.kept.size ∙ c.write_hidden.ensures.kept.size }

pub returns-clause-failed : goal.returns-clause-failed
returns-clause-failed g c = subst (λ (n : ℕ). CountsFailure c.write_slot.result n (g.D.Disk.failed c.write_slot.new.disk)) c.in_ok-write_hidden.ensures.failed c.write_slot.ensures.failed

pub returns-clause-is_synced : goal.returns-clause-is_synced
returns-clause-is_synced g c honest = c.write_slot.ensures.is_synced (subst IsTrue (sym c.write_hidden.ensures.kept.honest) honest)

pub returns-in_err-write_hidden-clause-crash : goal.returns-in_err-write_hidden-clause-crash
returns-in_err-write_hidden-clause-crash g c text of some inside is_synced was =
    let disk = g.D.Disk in
    let old = disk.view c.args.disk.now in
    let mid = disk.view c.write_hidden.new.disk in
    let s = c.args.settings.now in
    let rs = spans s c.args.tail text in
    let law = g.met.D.Disk.lawful c.args.disk.now is_synced.honest in
    let number = ap (λ (t : Slot). t.sequence) c.slot.view_is in
    let first = subst (λ (n : ℕ). LeavesOnly old mid (IsUncommitted s n rs old.seen)) number
    (c.write_hidden.ensures.crash text of some inside is_synced (subst (λ (n : ℕ). c.args.is_open ≡ is_open n old.seen) (sym number) was)) in
    unfinished s c.args.slot.now c.args.is_open rs old.seen (has_slots old law (slots_within s old.size c.requires.within)) (all_within s rs old law (within_more s _ _ rs c.requires.within inside)) old mid first

pub returns-clause-written : goal.returns-clause-written
returns-clause-written g c text of some inside honest =
    let disk = g.D.Disk in
    let old = disk.view c.args.disk.now in
    let mid = disk.view c.write_hidden.new.disk in
    let s = c.args.settings.now in
    let rs = spans s c.args.tail text in
    let t = c.args.slot.now in
    let law = g.met.D.Disk.lawful c.args.disk.now honest in
    let still = subst IsTrue (sym c.write_hidden.ensures.kept.honest) honest in
    let number = ap (λ (t : Slot). t.sequence) c.slot.view_is in
    let seen = subst (λ (n : ℕ). mid.seen ≡ with_spans s (seen_after (close_gate c.args.is_open (slot_place n)) old.seen) rs) number (c.in_ok-write_hidden.ensures.written text of some honest) in
    let all = ap (λ (f : List ℕ). overlay f (slot_place t.sequence) (slot_bytes t)) seen
    ∙ slot_committed s t c.args.is_open rs old.seen (has_slots old law (slots_within s old.size c.requires.within)) (all_within s rs old law (within_more s _ _ rs c.requires.within inside)) in
    subst (λ (f : List ℕ). OnOk c.write_slot.result ((disk.view c.write_slot.new.disk).seen ≡ f)) all (c.write_slot.ensures.written still)

pub returns-clause-crash : goal.returns-clause-crash
returns-clause-crash g c text of some inside is_synced was =
    let disk = g.D.Disk in
    let old = disk.view c.args.disk.now in
    let mid = disk.view c.write_hidden.new.disk in
    let s = c.args.settings.now in
    let rs = spans s c.args.tail text in
    let t = c.args.slot.now in
    let law = g.met.D.Disk.lawful c.args.disk.now is_synced.honest in
    let long = has_slots old law (slots_within s old.size c.requires.within) in
    let fit = all_within s rs old law (within_more s _ _ rs c.requires.within inside) in
    let number = ap (λ (t : Slot). t.sequence) c.slot.view_is in
    let first = subst (λ (n : ℕ). LeavesOnly old mid (IsUncommitted s n rs old.seen)) number
    (c.write_hidden.ensures.crash text of some inside is_synced (subst (λ (n : ℕ). c.args.is_open ≡ is_open n old.seen) (sym number) was)) in
    let seen = subst (λ (n : ℕ). mid.seen ≡ with_spans s (seen_after (close_gate c.args.is_open (slot_place n)) old.seen) rs) number (c.in_ok-write_hidden.ensures.written text of some is_synced.honest) in
    let shut = subst (λ (f : List ℕ). is_open t.sequence f ≡ false) (sym seen) (mid_closed s t c.args.is_open rs old.seen long fit was) in
    commit_leaves s t c.args.is_open rs old.seen long fit old mid (disk.view c.write_slot.new.disk) was seen first (c.write_slot.ensures.crash (c.in_ok-write_hidden.ensures.is_synced is_synced.honest) shut)
