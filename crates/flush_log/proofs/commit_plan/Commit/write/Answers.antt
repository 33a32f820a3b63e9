use Rattle.std.proofs.Common.{◌≡◌, ◌⊎◌, ◌≤◌, IsTrue, List, ℕ, [], length, sym, ap, subst, ◌∙◌, inl}
use Rattle.flush_log.specs.Commit.{AreWithin, IsBesideSpans}
use Rattle.flush_log.specs.CommitPlan.{CommitPlan, LeftOf}
use Rattle.flush_log.specs.Images.{AreOfText, FitSegments, frames_in}
use Rattle.flush_log.specs.Layout.{spans}
use Rattle.flush_log.specs.Segments.{disk_size}
use Rattle.flush_log.specs.Slot.{Slot, is_open}
use Rattle.flush_log.specs.Disk.{CountsFailure}
use Rattle.flush_log.proofs.ViewLemmas.{counts_failed, owes_nothing}
use Rattle.flush_log.proofs.OverlayLemmas.{agree_same}
use Rattle.flush_log.proofs.PlannedLemmas.{planned-fits, gate-still, planned-left, planned-written}
use Rattle.flush_log.proofs.SameLemmas.{settled_still, leaves_the_same}
use Rattle.flush_log.proofs.commit_plan.Commit.write.Goals as goal

pub returns-in_err-is_open-clause-kept : goal.returns-in_err-is_open-clause-kept
returns-in_err-is_open-clause-kept g c = c.is_gate_open.ensures.kept

pub returns-in_err-is_open-clause-failed : goal.returns-in_err-is_open-clause-failed
returns-in_err-is_open-clause-failed g c = counts_failed c.from_residual.result (g.D.Disk.failed c.args.disk.now) (g.D.Disk.failed c.is_gate_open.new.disk) c.from_residual.ensures.0 c.in_err-is_open.ensures.failed

pub returns-in_err-is_open-clause-written : goal.returns-in_err-is_open-clause-written
returns-in_err-is_open-clause-written g c t text is honest = owes_nothing c.from_residual.result _ c.from_residual.ensures.0

pub returns-in_err-is_open-clause-is_synced : goal.returns-in_err-is_open-clause-is_synced
returns-in_err-is_open-clause-is_synced g c honest = owes_nothing c.from_residual.result _ c.from_residual.ensures.0

pub returns-in_err-is_open-clause-crash : goal.returns-in_err-is_open-clause-crash
returns-in_err-is_open-clause-crash g c t text is is_synced =
    let view = g.D.Disk.view in
    let s = c.args.settings.now in
    let old = view c.args.disk.now in
    leaves_the_same old (view c.is_gate_open.new.disk) (LeftOf s t text old.seen) (g.met.D.Disk.lawful c.args.disk.now is_synced.honest) (c.is_gate_open.ensures.same is_synced.honest) is_synced
    (inl (inl (agree_same (IsBesideSpans s (spans s t.tail text)) old.seen)))

pub returns-clause-kept : goal.returns-clause-kept
returns-clause-kept g c = record { honest = c.write_flush.ensures.kept.honest ∙ c.is_gate_open.ensures.kept.honest; size = c.write_flush.ensures.kept.size ∙ c.is_gate_open.ensures.kept.size }

pub returns-clause-failed : goal.returns-clause-failed
returns-clause-failed g c = subst (λ (n : ℕ). CountsFailure c.write_flush.result n (g.D.Disk.failed c.write_flush.new.disk)) c.in_ok-is_open.ensures.failed c.write_flush.ensures.failed

pub returns-clause-is_synced : goal.returns-clause-is_synced
returns-clause-is_synced g c honest = c.write_flush.ensures.is_synced (subst IsTrue (sym c.is_gate_open.ensures.kept.honest) honest)

pub write_flush-requires-clause-fits : goal.write_flush-requires-clause-fits
write_flush-requires-clause-fits g c =
    let (t, text, is) = c.requires.planned in
    let s = c.args.settings.now in
    subst (λ (images : List (List (List ℕ))). FitSegments s (frames_in images)) (sym (c.deref.ensures.value ∙ ap (λ (m : CommitPlan). m.images) c.self.view_is))
    (planned-fits s t text c.args.self is c.requires.checked)

pub returns-clause-written : goal.returns-clause-written
returns-clause-written g c t text is honest =
    let view = g.D.Disk.view in
    let s = c.args.settings.now in
    let same = sym (c.deref.ensures.value ∙ ap (λ (m : CommitPlan). m.images) c.self.view_is) in
    let from = ap (λ (m : CommitPlan). m.tail) c.self.view_is ∙ is.from in
    let slot = ap (λ (m : CommitPlan). m.slot) c.self.view_is ∙ is.slot in
    let of = subst (λ (images : List (List (List ℕ))). AreOfText images text) same is.encoded.of in
    let some = subst (λ (images : List (List (List ℕ))). (images ≡ []) ⊎ (1 ≤ length text)) same is.encoded.some in
    let inside = subst (λ (n : ℕ). AreWithin s (disk_size s) (spans s n text)) (sym from) is.within in
    let still = subst IsTrue (sym c.is_gate_open.ensures.kept.honest) honest in
    planned-written s t _ _ text slot from (view c.args.disk.now) (view c.is_gate_open.new.disk) (view c.write_flush.new.disk) (c.is_gate_open.ensures.same honest) c.write_flush.result
    (c.write_flush.ensures.written text of some inside still)

pub returns-clause-crash : goal.returns-clause-crash
returns-clause-crash g c t text is is_synced =
    let view = g.D.Disk.view in
    let s = c.args.settings.now in
    let old = view c.args.disk.now in
    let mid = view c.is_gate_open.new.disk in
    let same = sym (c.deref.ensures.value ∙ ap (λ (m : CommitPlan). m.images) c.self.view_is) in
    let from = ap (λ (m : CommitPlan). m.tail) c.self.view_is ∙ is.from in
    let slot = ap (λ (m : CommitPlan). m.slot) c.self.view_is ∙ is.slot in
    let of = subst (λ (images : List (List (List ℕ))). AreOfText images text) same is.encoded.of in
    let some = subst (λ (images : List (List (List ℕ))). (images ≡ []) ⊎ (1 ≤ length text)) same is.encoded.some in
    let inside = subst (λ (n : ℕ). AreWithin s (disk_size s) (spans s n text)) (sym from) is.within in
    let read = c.is_gate_open.ensures.same is_synced.honest in
    let gate = gate-still c.in_ok-is_open.is_open _ old mid read (c.in_ok-is_open.ensures.gate is_synced.honest) in
    let number = ap (λ (u : Slot). u.sequence) c.slot.view_is in
    planned-left s t _ _ text slot from old mid (view c.write_flush.new.disk) read
    (c.write_flush.ensures.crash text of some inside (settled_still old mid c.is_gate_open.ensures.kept read is_synced) (subst (λ (n : ℕ). c.in_ok-is_open.is_open ≡ is_open n mid.seen) number gate))
