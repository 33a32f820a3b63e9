use Rattle.std.proofs.Common.{◌≡◌, [], true, replicate, ℕ, length, refl, ap}
use Rattle.flush_log.specs.Disk.{HasFailed}
use Rattle.flush_log.specs.Record.{view_of, calls_of}
use Rattle.flush_log.specs.Faults.{is_wanted}
use Rattle.flush_log.proofs.RecordLemmas.{none_leaves}
use Rattle.flush_log.proofs.FaultLemmas.{not_synced}
use Rattle.flush_log.proofs.fault_disk.FaultDiskDisk.sync.Goals as goal

pub returns-then-is_to_fail-clause-kept : goal.returns-then-is_to_fail-clause-kept
returns-then-is_to_fail-clause-kept g c = record { honest = refl; size = refl }

pub returns-then-is_to_fail-clause-failed : goal.returns-then-is_to_fail-clause-failed
returns-then-is_to_fail-clause-failed g c = c.count_failure.ensures

pub returns-then-is_to_fail-clause-is_synced : goal.returns-then-is_to_fail-clause-is_synced
returns-then-is_to_fail-clause-is_synced g c _ = tt

pub returns-then-is_to_fail-clause-seen : goal.returns-then-is_to_fail-clause-seen
returns-then-is_to_fail-clause-seen g c _ = refl

pub returns-then-is_to_fail-clause-crash : goal.returns-then-is_to_fail-clause-crash
returns-then-is_to_fail-clause-crash g c _ =
    let disk = c.args.self.now.disk in
    let calls = calls_of disk.calls.items in
    none_leaves disk.len disk.len calls calls refl refl (λ before c. c ≡ before) (λ file. refl)

pub returns-then-is_to_fail-clause-counted : goal.returns-then-is_to_fail-clause-counted
returns-then-is_to_fail-clause-counted g c = c.is_to_fail.ensures.counted

pub returns-then-is_to_fail-clause-same : goal.returns-then-is_to_fail-clause-same
returns-then-is_to_fail-clause-same g c = (refl, refl)

pub returns-then-is_to_fail-clause-wanted : goal.returns-then-is_to_fail-clause-wanted
returns-then-is_to_fail-clause-wanted g c = tt

pub returns-clause-kept : goal.returns-clause-kept
returns-clause-kept g c = record { honest = refl; size = ap (λ (n : ℕ). length {A = ℕ} (replicate n 0)) c.sync_recorded.ensures.len }

pub returns-clause-failed : goal.returns-clause-failed
returns-clause-failed g c = c.counted.ensures.failed

pub returns-clause-seen : goal.returns-clause-seen
returns-clause-seen g c _ = c.sync_recorded.ensures.seen

pub returns-clause-crash : goal.returns-clause-crash
returns-clause-crash g c _ = c.sync_recorded.ensures.crash

pub returns-clause-counted : goal.returns-clause-counted
returns-clause-counted g c = c.is_to_fail.ensures.counted

pub returns-clause-same : goal.returns-clause-same
returns-clause-same g c = (refl, refl)

pub returns-clause-none : goal.returns-clause-none
returns-clause-none g c =
    let old = c.args.self.now.disk in
    let new = c.sync_recorded.new.self in
    let wanted = is_wanted c.args.self.now.failing c.is_to_fail.new.calls in
    not_synced (wanted ≡ true) (HasFailed old.failures new.failures) []
    (view_of (replicate old.len 0) (calls_of old.calls.items)) (view_of (replicate new.len 0) (calls_of new.calls.items)) old.failures new.failures (λ failed. failed)
    c.sync_recorded.result c.counted.result c.counted.ensures.same c.sync_recorded.ensures.none c.sync_recorded.ensures.failed
