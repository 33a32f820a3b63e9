use Rattle.std.proofs.Common.{◌≡◌, true, take, replicate, sym, ◌∙◌, refl}
use Rattle.flush_log.specs.Overlay.{overlay}
use Rattle.flush_log.specs.Disk.{HasFailed}
use Rattle.flush_log.specs.Commit.{seen_after}
use Rattle.flush_log.specs.Record.{view_of, calls_of}
use Rattle.flush_log.specs.Faults.{is_wanted}
use Rattle.flush_log.proofs.ViewLemmas.{leaves_part}
use Rattle.flush_log.proofs.FaultLemmas.{cut_short, not_cut, part_written}
use Rattle.flush_log.proofs.fault_disk.FaultDiskDisk.write_at.Goals as goal

pub returns-then-is_to_fail-clause-kept : goal.returns-then-is_to_fail-clause-kept
returns-then-is_to_fail-clause-kept g c = c.write_recorded.ensures.kept

pub returns-then-is_to_fail-clause-failed : goal.returns-then-is_to_fail-clause-failed
returns-then-is_to_fail-clause-failed g c = c.count_failure.ensures

pub returns-then-is_to_fail-clause-written : goal.returns-then-is_to_fail-clause-written
returns-then-is_to_fail-clause-written g c _ = tt

pub returns-then-is_to_fail-clause-counted : goal.returns-then-is_to_fail-clause-counted
returns-then-is_to_fail-clause-counted g c = c.is_to_fail.ensures.counted

pub returns-then-is_to_fail-clause-same : goal.returns-then-is_to_fail-clause-same
returns-then-is_to_fail-clause-same g c = (refl, refl)

pub returns-then-is_to_fail-clause-wanted : goal.returns-then-is_to_fail-clause-wanted
returns-then-is_to_fail-clause-wanted g c = tt

pub returns-clause-kept : goal.returns-clause-kept
returns-clause-kept g c = c.write_recorded-2.ensures.kept

pub returns-clause-failed : goal.returns-clause-failed
returns-clause-failed g c = c.counted.ensures.failed

pub returns-clause-torn : goal.returns-clause-torn
returns-clause-torn g c _ = c.write_recorded-2.ensures.torn

pub returns-clause-crash : goal.returns-clause-crash
returns-clause-crash g c _ = c.write_recorded-2.ensures.crash

pub returns-clause-counted : goal.returns-clause-counted
returns-clause-counted g c = c.is_to_fail.ensures.counted

pub returns-clause-same : goal.returns-clause-same
returns-clause-same g c = (refl, refl)

pub returns-then-is_to_fail-clause-crash : goal.returns-then-is_to_fail-clause-crash
returns-then-is_to_fail-clause-crash g c honest =
    let old = c.args.self.now.disk in
    let new = c.write_recorded.new.self in
    leaves_part (view_of (replicate old.len 0) (calls_of old.calls.items)) (view_of (replicate new.len 0) (calls_of new.calls.items)) c.args.at c.min-written.result c.args.bytes.now c.write_recorded.ensures.crash

pub returns-then-is_to_fail-clause-cut : goal.returns-then-is_to_fail-clause-cut
returns-then-is_to_fail-clause-cut g c =
    let old = c.args.self.now.disk in
    let new = c.write_recorded.new.self in
    let seen = seen_after (calls_of old.calls.items) (replicate old.len 0) in
    let wanted = is_wanted c.args.self.now.failing c.is_to_fail.new.calls in
    cut_short (wanted ≡ true) (HasFailed old.failures new.failures) (overlay seen c.args.at (take c.args.self.now.written c.args.bytes.now))
    (view_of (replicate old.len 0) (calls_of old.calls.items)) (view_of (replicate new.len 0) (calls_of new.calls.items)) old.failures new.failures (λ failed. failed)
    c.write_recorded.result (sym c.is_to_fail.ensures.wanted ∙ c.if-is_to_fail.true)
    (part_written c.write_recorded.result (seen_after (calls_of new.calls.items) (replicate new.len 0)) seen c.args.at c.args.self.now.written c.min-written.result c.args.bytes.now c.min-written.ensures c.write_recorded.ensures.written)
    c.write_recorded.ensures.none c.write_recorded.ensures.failed

pub returns-clause-cut : goal.returns-clause-cut
returns-clause-cut g c =
    let old = c.args.self.now.disk in
    let new = c.write_recorded-2.new.self in
    let seen = seen_after (calls_of old.calls.items) (replicate old.len 0) in
    let wanted = is_wanted c.args.self.now.failing c.is_to_fail.new.calls in
    not_cut (wanted ≡ true) (HasFailed old.failures new.failures) (overlay seen c.args.at (take c.args.self.now.written c.args.bytes.now))
    (view_of (replicate old.len 0) (calls_of old.calls.items)) (view_of (replicate new.len 0) (calls_of new.calls.items)) old.failures new.failures (λ failed. failed)
    c.write_recorded-2.result c.counted.result c.counted.ensures.same c.write_recorded-2.ensures.none c.write_recorded-2.ensures.failed
