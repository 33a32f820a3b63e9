use Rattle.std.proofs.Common.{◌≡◌, ◌⊎◌, inr, length, replicate, sym, ◌∙◌, refl}
use Rattle.flush_log.specs.Overlay.{overlay, IsBeside}
use Rattle.flush_log.specs.Disk.{HasFailed, Torn}
use Rattle.flush_log.specs.Commit.{seen_after}
use Rattle.flush_log.specs.Record.{view_of, calls_of}
use Rattle.flush_log.specs.Faults.{moment_at}
use Rattle.flush_log.specs.declared.crash_disk.Moment.TheVariants.{Stopping, Stopped}
use Rattle.flush_log.proofs.RecordLemmas.{none_leaves}
use Rattle.flush_log.proofs.OverlayLemmas.{agree_same}
use Rattle.flush_log.proofs.FaultLemmas.{cut_short, not_cut}
use Rattle.flush_log.proofs.CrashLemmas.{whole-still, is_synced-either}
use Rattle.flush_log.proofs.crash_disk.CrashDiskDisk.write_at.Goals as goal

pub returns-in-Running-clause-kept : goal.returns-in-Running-clause-kept
returns-in-Running-clause-kept g c = c.write_recorded.ensures.kept

pub returns-in-Running-clause-torn : goal.returns-in-Running-clause-torn
returns-in-Running-clause-torn g c _ = c.write_recorded.ensures.torn

pub returns-in-Running-clause-crash : goal.returns-in-Running-clause-crash
returns-in-Running-clause-crash g c _ = c.write_recorded.ensures.crash

pub returns-in-Running-clause-counted : goal.returns-in-Running-clause-counted
returns-in-Running-clause-counted g c = c.next_moment.ensures.counted

pub returns-in-Running-clause-stops : goal.returns-in-Running-clause-stops
returns-in-Running-clause-stops g c = refl

pub returns-in-Stopping-clause-kept : goal.returns-in-Stopping-clause-kept
returns-in-Stopping-clause-kept g c = c.write_recorded-in-Stopping.ensures.kept

pub returns-in-Stopping-clause-torn : goal.returns-in-Stopping-clause-torn
returns-in-Stopping-clause-torn g c _ = c.write_recorded-in-Stopping.ensures.torn

pub returns-in-Stopping-clause-crash : goal.returns-in-Stopping-clause-crash
returns-in-Stopping-clause-crash g c _ = c.write_recorded-in-Stopping.ensures.crash

pub returns-in-Stopping-clause-counted : goal.returns-in-Stopping-clause-counted
returns-in-Stopping-clause-counted g c = c.next_moment.ensures.counted

pub returns-in-Stopping-clause-stops : goal.returns-in-Stopping-clause-stops
returns-in-Stopping-clause-stops g c = refl

pub returns-in-Stopping-clause-written : goal.returns-in-Stopping-clause-written
returns-in-Stopping-clause-written g c _ = tt

pub returns-in-Stopping-clause-running : goal.returns-in-Stopping-clause-running
returns-in-Stopping-clause-running g c = tt

pub returns-in-Stopped-clause-kept : goal.returns-in-Stopped-clause-kept
returns-in-Stopped-clause-kept g c = record { honest = refl; size = refl }

pub returns-in-Stopped-clause-written : goal.returns-in-Stopped-clause-written
returns-in-Stopped-clause-written g c _ = tt

pub returns-in-Stopped-clause-counted : goal.returns-in-Stopped-clause-counted
returns-in-Stopped-clause-counted g c = c.next_moment.ensures.counted

pub returns-in-Stopped-clause-stops : goal.returns-in-Stopped-clause-stops
returns-in-Stopped-clause-stops g c = refl

pub returns-in-Stopped-clause-running : goal.returns-in-Stopped-clause-running
returns-in-Stopped-clause-running g c = tt

pub returns-in-Stopped-clause-torn : goal.returns-in-Stopped-clause-torn
returns-in-Stopped-clause-torn g c _ = agree_same (IsBeside c.args.at (length c.args.bytes.now)) (seen_after (calls_of c.args.self.now.disk.calls.items) (replicate c.args.self.now.disk.len 0))

pub returns-in-Stopped-clause-crash : goal.returns-in-Stopped-clause-crash
returns-in-Stopped-clause-crash g c _ =
    let disk = c.args.self.now.disk in
    let long = length c.args.bytes.now in
    none_leaves disk.len disk.len (calls_of disk.calls.items) (calls_of disk.calls.items) refl refl (Torn c.args.at long) (λ f. agree_same (IsBeside c.args.at long) f)

pub invariant_of-self : goal.invariant_of-self
invariant_of-self g c =
    let old = c.args.self.now in
    let new = c.write_recorded.new.self in
    record {
      whole = whole-still (length old.disk.kept.items) (length new.kept.items) old.disk.len new.len c.write_recorded.ensures.len old.whole c.write_recorded.ensures.grows new.short;
      left =
          is_synced-either c.write_recorded.result old.disk.len new.len (calls_of old.disk.calls.items) (calls_of new.calls.items) old.since old.is_synced.items c.args.at c.args.bytes.now
          c.write_recorded.ensures.len c.write_recorded.ensures.done c.write_recorded.ensures.refused old.left;
    }

pub invariant_of-self-in-Stopping : goal.invariant_of-self-in-Stopping
invariant_of-self-in-Stopping g c =
    let old = c.args.self.now in
    let new = c.write_recorded-in-Stopping.new.self in
    record {
      whole = whole-still (length old.disk.kept.items) (length new.kept.items) old.disk.len new.len c.write_recorded-in-Stopping.ensures.len old.whole c.write_recorded-in-Stopping.ensures.grows new.short;
      left =
          is_synced-either c.write_recorded-in-Stopping.result old.disk.len new.len (calls_of old.disk.calls.items) (calls_of new.calls.items) old.since old.is_synced.items c.args.at c.args.bytes.now
          c.write_recorded-in-Stopping.ensures.len c.write_recorded-in-Stopping.ensures.done c.write_recorded-in-Stopping.ensures.refused old.left;
    }

pub returns-in-Running-clause-cut : goal.returns-in-Running-clause-cut
returns-in-Running-clause-cut g c =
    let old = c.args.self.now.disk in
    let new = c.write_recorded.new.self in
    let now = moment_at c.args.self.now.stops_at c.next_moment.new.calls in
    not_cut (now ≡ Stopping) ((now ≡ Stopped) ⊎ HasFailed old.failures new.failures) (overlay (seen_after (calls_of old.calls.items) (replicate old.len 0)) c.args.at c.args.bytes.now)
    (view_of (replicate old.len 0) (calls_of old.calls.items)) (view_of (replicate new.len 0) (calls_of new.calls.items)) old.failures new.failures (λ failed. inr failed)
    c.write_recorded.result c.counted.result c.counted.ensures.same c.write_recorded.ensures.none c.write_recorded.ensures.failed

pub returns-in-Stopping-clause-cut : goal.returns-in-Stopping-clause-cut
returns-in-Stopping-clause-cut g c =
    let old = c.args.self.now.disk in
    let new = c.write_recorded-in-Stopping.new.self in
    let now = moment_at c.args.self.now.stops_at c.next_moment.new.calls in
    cut_short (now ≡ Stopping) ((now ≡ Stopped) ⊎ HasFailed old.failures new.failures) (overlay (seen_after (calls_of old.calls.items) (replicate old.len 0)) c.args.at c.args.bytes.now)
    (view_of (replicate old.len 0) (calls_of old.calls.items)) (view_of (replicate new.len 0) (calls_of new.calls.items)) old.failures new.failures (λ failed. inr failed)
    c.write_recorded-in-Stopping.result (sym c.next_moment.ensures.moment ∙ c.in-Stopping.is) c.write_recorded-in-Stopping.ensures.written c.write_recorded-in-Stopping.ensures.none c.write_recorded-in-Stopping.ensures.failed
