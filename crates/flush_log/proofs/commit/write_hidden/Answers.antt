use Rattle.std.proofs.Common.{IsTrue, sym, subst, ◌≡◌, ℕ, ◌+◌, ◌-◌, ◌^◌, min, List, ap, ◌∙◌}
use Rattle.flush_log.specs.Layout.{spans, with_spans}
use Rattle.flush_log.specs.Disk.{CountsFailure}
use Rattle.flush_log.proofs.ViewLemmas.{counts_failed, owes_nothing, always}
use Rattle.flush_log.proofs.OutcomeLemmas.{within_more}
use Rattle.flush_log.proofs.SlotRuns.{slots_within, has_slots, all_within}
use Rattle.flush_log.proofs.CommitRuns.{closing_leaves, spans_leave, prepare_leaves}
use Rattle.flush_log.proofs.commit.write_hidden.Goals as goal

pub returns-in_err-close_gate-clause-kept : goal.returns-in_err-close_gate-clause-kept
returns-in_err-close_gate-clause-kept g c = c.close_gate.ensures.kept

pub returns-in_err-close_gate-clause-failed : goal.returns-in_err-close_gate-clause-failed
returns-in_err-close_gate-clause-failed g c =
    counts_failed c.from_residual.result (g.D.Disk.failed c.args.disk.now) (g.D.Disk.failed c.close_gate.new.disk) c.from_residual.ensures.0
    c.in_err-close_gate.ensures.failed

pub returns-in_err-close_gate-clause-written : goal.returns-in_err-close_gate-clause-written
returns-in_err-close_gate-clause-written g c text of some honest = owes_nothing c.from_residual.result _ c.from_residual.ensures.0

pub returns-in_err-close_gate-clause-is_synced : goal.returns-in_err-close_gate-clause-is_synced
returns-in_err-close_gate-clause-is_synced g c honest = owes_nothing c.from_residual.result _ c.from_residual.ensures.0

pub returns-in_err-write_images-clause-kept : goal.returns-in_err-write_images-clause-kept
returns-in_err-write_images-clause-kept g c = record { honest = c.write_images.ensures.kept.honest ∙ c.close_gate.ensures.kept.honest; size = c.write_images.ensures.kept.size ∙ c.close_gate.ensures.kept.size }

pub returns-in_err-write_images-clause-failed : goal.returns-in_err-write_images-clause-failed
returns-in_err-write_images-clause-failed g c =
    counts_failed c.from_residual-in_err-write_images.result (g.D.Disk.failed c.args.disk.now) (g.D.Disk.failed c.write_images.new.disk) c.from_residual-in_err-write_images.ensures.0
    (subst (λ (n : ℕ). g.D.Disk.failed c.write_images.new.disk ≡ min (n + 1) (2 ^ 64 - 1)) c.in_ok-close_gate.ensures.failed c.in_err-write_images.ensures.failed)

pub returns-in_err-write_images-clause-written : goal.returns-in_err-write_images-clause-written
returns-in_err-write_images-clause-written g c text of some honest = owes_nothing c.from_residual-in_err-write_images.result _ c.from_residual-in_err-write_images.ensures.0

pub returns-in_err-write_images-clause-is_synced : goal.returns-in_err-write_images-clause-is_synced
returns-in_err-write_images-clause-is_synced g c honest = owes_nothing c.from_residual-in_err-write_images.result _ c.from_residual-in_err-write_images.ensures.0

pub returns-clause-kept : goal.returns-clause-kept
returns-clause-kept g c = record { honest = c.sync.ensures.kept.honest ∙ c.write_images.ensures.kept.honest ∙ c.close_gate.ensures.kept.honest; size = c.sync.ensures.kept.size ∙ c.write_images.ensures.kept.size ∙ c.close_gate.ensures.kept.size }

pub returns-clause-failed : goal.returns-clause-failed
returns-clause-failed g c = subst (λ (n : ℕ). CountsFailure c.sync.result n (g.D.Disk.failed c.sync.new.self)) (c.in_ok-write_images.ensures.failed ∙ c.in_ok-close_gate.ensures.failed) c.sync.ensures.failed

pub returns-clause-written : goal.returns-clause-written
returns-clause-written g c text of some honest =
    let s = c.args.settings.now in
    let honest1 = subst IsTrue (sym c.close_gate.ensures.kept.honest) honest in
    let honest2 = subst IsTrue (sym c.write_images.ensures.kept.honest) honest1 in
    always c.sync.result
    (c.sync.ensures.seen honest2 ∙ c.in_ok-write_images.ensures.written text of some honest1 ∙ ap (λ (f : List ℕ). with_spans s f (spans s c.args.tail text)) (c.in_ok-close_gate.ensures.written honest))

pub returns-clause-is_synced : goal.returns-clause-is_synced
returns-clause-is_synced g c honest =
    c.sync.ensures.is_synced (subst IsTrue (sym c.write_images.ensures.kept.honest) (subst IsTrue (sym c.close_gate.ensures.kept.honest) honest))

pub returns-in_err-close_gate-clause-crash : goal.returns-in_err-close_gate-clause-crash
returns-in_err-close_gate-clause-crash g c text of some fit is_synced was =
    let disk = g.D.Disk in
    let s = c.args.settings.now in
    let old = disk.view c.args.disk.now in
    let law = g.met.D.Disk.lawful c.args.disk.now is_synced.honest in
    let rs = spans s c.args.tail text in
    closing_leaves s c.args.sequence c.args.is_open rs old is_synced (has_slots old law (slots_within s old.size c.requires.within)) (all_within s rs old law (within_more s _ _ rs c.requires.within fit)) was
    (disk.view c.close_gate.new.disk) (c.close_gate.ensures.crash is_synced.honest)

pub returns-in_err-write_images-clause-crash : goal.returns-in_err-write_images-clause-crash
returns-in_err-write_images-clause-crash g c text of some fit is_synced was =
    let disk = g.D.Disk in
    let s = c.args.settings.now in
    let old = disk.view c.args.disk.now in
    let law = g.met.D.Disk.lawful c.args.disk.now is_synced.honest in
    let rs = spans s c.args.tail text in
    let honest1 = subst IsTrue (sym c.close_gate.ensures.kept.honest) is_synced.honest in
    spans_leave s c.args.sequence c.args.is_open rs old is_synced (has_slots old law (slots_within s old.size c.requires.within)) (all_within s rs old law (within_more s _ _ rs c.requires.within fit)) was
    (disk.view c.close_gate.new.disk) (disk.view c.write_images.new.disk) (g.met.D.Disk.lawful c.close_gate.new.disk honest1) (c.close_gate.ensures.crash is_synced.honest) (c.write_images.ensures.crash text of some honest1)

pub returns-clause-crash : goal.returns-clause-crash
returns-clause-crash g c text of some fit is_synced was =
    let disk = g.D.Disk in
    let s = c.args.settings.now in
    let old = disk.view c.args.disk.now in
    let law = g.met.D.Disk.lawful c.args.disk.now is_synced.honest in
    let rs = spans s c.args.tail text in
    let honest1 = subst IsTrue (sym c.close_gate.ensures.kept.honest) is_synced.honest in
    let honest2 = subst IsTrue (sym c.write_images.ensures.kept.honest) honest1 in
    prepare_leaves s c.args.sequence c.args.is_open rs old is_synced (has_slots old law (slots_within s old.size c.requires.within)) (all_within s rs old law (within_more s _ _ rs c.requires.within fit)) was
    (disk.view c.close_gate.new.disk) (disk.view c.write_images.new.disk) (disk.view c.sync.new.self) (g.met.D.Disk.lawful c.close_gate.new.disk honest1) (g.met.D.Disk.lawful c.write_images.new.disk honest2)
    (c.close_gate.ensures.crash is_synced.honest) (c.write_images.ensures.crash text of some honest1) (c.sync.ensures.crash honest2)
