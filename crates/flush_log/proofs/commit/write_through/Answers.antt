use Rattle.std.proofs.Common.{◌≡◌, ℕ, IsTrue, length, sym, subst, ◌∙◌}
use Rattle.flush_log.specs.Disk.{Torn, CountsFailure}
use Rattle.flush_log.proofs.ViewLemmas.{counts_failed, owes_nothing, always, then}
use Rattle.flush_log.proofs.commit.write_through.Goals as goal

pub returns-in_err-write_at-clause-kept : goal.returns-in_err-write_at-clause-kept
returns-in_err-write_at-clause-kept g c = c.write_at.ensures.kept

pub returns-in_err-write_at-clause-failed : goal.returns-in_err-write_at-clause-failed
returns-in_err-write_at-clause-failed g c = counts_failed c.from_residual.result (g.D.Disk.failed c.args.disk.now) (g.D.Disk.failed c.write_at.new.self) c.from_residual.ensures.0 c.in_err-write_at.ensures.failed

pub returns-in_err-write_at-clause-written : goal.returns-in_err-write_at-clause-written
returns-in_err-write_at-clause-written g c honest = owes_nothing c.from_residual.result _ c.from_residual.ensures.0

pub returns-in_err-write_at-clause-is_synced : goal.returns-in_err-write_at-clause-is_synced
returns-in_err-write_at-clause-is_synced g c honest = owes_nothing c.from_residual.result _ c.from_residual.ensures.0

pub returns-in_err-write_at-clause-crash : goal.returns-in_err-write_at-clause-crash
returns-in_err-write_at-clause-crash g c = c.write_at.ensures.crash

pub returns-clause-kept : goal.returns-clause-kept
returns-clause-kept g c = record { honest = c.sync.ensures.kept.honest ∙ c.write_at.ensures.kept.honest; size = c.sync.ensures.kept.size ∙ c.write_at.ensures.kept.size }

pub returns-clause-failed : goal.returns-clause-failed
returns-clause-failed g c = subst (λ (n : ℕ). CountsFailure c.sync.result n (g.D.Disk.failed c.sync.new.self)) c.in_ok-write_at.ensures.failed c.sync.ensures.failed

pub returns-clause-written : goal.returns-clause-written
returns-clause-written g c honest =
    let still = subst IsTrue (sym c.write_at.ensures.kept.honest) honest in
    always c.sync.result (c.sync.ensures.seen still ∙ c.in_ok-write_at.ensures.written honest)

pub returns-clause-is_synced : goal.returns-clause-is_synced
returns-clause-is_synced g c honest = c.sync.ensures.is_synced (subst IsTrue (sym c.write_at.ensures.kept.honest) honest)

pub returns-clause-crash : goal.returns-clause-crash
returns-clause-crash g c honest =
    let view = g.D.Disk.view in
    let torn = Torn c.args.at (length c.args.bytes.now) in
    let still = subst IsTrue (sym c.write_at.ensures.kept.honest) honest in
    then (view c.args.disk.now) (view c.write_at.new.self) (view c.sync.new.self) torn (λ before c. c ≡ before) torn (g.met.D.Disk.lawful c.write_at.new.self still)
    (λ d e f wrote is. subst (torn d) (sym is) wrote) (λ d e wrote. wrote) (c.write_at.ensures.crash honest) (c.sync.ensures.crash still)
