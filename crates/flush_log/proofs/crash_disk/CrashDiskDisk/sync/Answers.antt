use Rattle.std.proofs.Common.{◌≡◌, ◌⊎◌, inl, inr, ℕ, true, false, not, length, replicate, refl, sym, ap, ◌∙◌, subst, rules}
use Rattle.std.proofs.lemmas.Bool.{false≢true}
use denote.Enum.Bare.{sameb}
use Rattle.flush_log.specs.Commit.Call.{Sync}
use Rattle.flush_log.specs.Record.{AreCalls, calls_of}
use Rattle.flush_log.specs.contracts.crash_disk.Moment.{the_type}
use Rattle.flush_log.specs.declared.crash_disk.Moment.{Moment}
use Rattle.flush_log.specs.declared.crash_disk.Moment.TheVariants.{Running, Stopping, Stopped}
use Rattle.flush_log.proofs.CrashLemmas.{since-following, since-within, tear-fits, is_synced-tear, is_synced-still}
use Rattle.flush_log.proofs.RecordLemmas.{none_leaves, none_same}
use Rattle.flush_log.proofs.ViewLemmas.{counted_failed}
use Rattle.flush_log.proofs.crash_disk.CrashDiskDisk.sync.Goals as goal

-- what the test of the moment means
of_stopped : (now : Moment) → not (sameb the_type now Running) ≡ true → (now ≡ Stopping) ⊎ (now ≡ Stopped)
of_stopped Running is = absurd (false≢true is)
of_stopped Stopping is = inl refl
of_stopped Stopped is = inr refl

of_running : (now : Moment) → not (sameb the_type now Running) ≡ false → now ≡ Running
of_running Running is = refl
of_running Stopping is = absurd (false≢true (sym is))
of_running Stopped is = absurd (false≢true (sym is))

-- the disk has stopped, or stops here
pub invariant_of-self : goal.invariant_of-self
invariant_of-self g c = record { whole = c.args.self.now.whole; left = c.args.self.now.left }

pub returns-then-ne-clause-kept : goal.returns-then-ne-clause-kept
returns-then-ne-clause-kept g c = record { honest = refl; size = refl }

pub returns-then-ne-clause-failed : goal.returns-then-ne-clause-failed
returns-then-ne-clause-failed g c = c.count_failure.ensures

pub returns-then-ne-clause-is_synced : goal.returns-then-ne-clause-is_synced
returns-then-ne-clause-is_synced g c _ = tt

pub returns-then-ne-clause-seen : goal.returns-then-ne-clause-seen
returns-then-ne-clause-seen g c _ = refl

pub returns-then-ne-clause-crash : goal.returns-then-ne-clause-crash
returns-then-ne-clause-crash g c _ =
    let disk = c.args.self.now.disk in
    none_leaves disk.len disk.len (calls_of disk.calls.items) (calls_of disk.calls.items) refl refl (λ before c. c ≡ before) (λ file. refl)

pub returns-then-ne-clause-counted : goal.returns-then-ne-clause-counted
returns-then-ne-clause-counted g c = c.next_moment.ensures.counted

pub returns-then-ne-clause-stops : goal.returns-then-ne-clause-stops
returns-then-ne-clause-stops g c = refl

pub returns-then-ne-clause-running : goal.returns-then-ne-clause-running
returns-then-ne-clause-running g c = tt

pub returns-then-ne-clause-none : goal.returns-then-ne-clause-none
returns-then-ne-clause-none g c =
    let disk = c.args.self.now.disk in
    let calls = calls_of disk.calls.items in
    let stopped = of_stopped c.next_moment.result (sym c.ne.ensures ∙ c.if-ne.true) in
    (inl (subst (λ (now : Moment). (now ≡ Stopping) ⊎ (now ≡ Stopped)) c.next_moment.ensures.moment stopped), none_same disk.len disk.len calls calls refl refl)

pub offset_bounds-calls-self : goal.offset_bounds-calls-self
offset_bounds-calls-self g c =
    let old = c.args.self.now in
    let calls = c.sync_recorded.new.self.calls.items in
    let more = since-following (calls_of old.disk.calls.items) (calls_of calls) Sync old.since c.in-Ok.ensures.done old.left.within in
    let within = since-within calls c.calls.result.now c.calls.ensures old.disk.len old.since old.is_synced.items more in
    search rules

pub slice_bounds-tear-count : goal.slice_bounds-tear-count
slice_bounds-tear-count g c =
    let old = c.args.self.now in
    let calls = c.sync_recorded.new.self.calls.items in
    let more = since-following (calls_of old.disk.calls.items) (calls_of calls) Sync old.since c.in-Ok.ensures.done old.left.within in
    let within = since-within calls c.calls.result.now c.calls.ensures old.disk.len old.since old.is_synced.items more in
    search rules

pub slice_bounds-tear-start : goal.slice_bounds-tear-start
slice_bounds-tear-start g c =
    let old = c.args.self.now in
    let calls = c.sync_recorded.new.self.calls.items in
    let more = since-following (calls_of old.disk.calls.items) (calls_of calls) Sync old.since c.in-Ok.ensures.done old.left.within in
    let within = since-within calls c.calls.result.now c.calls.ensures old.disk.len old.since old.is_synced.items more in
    search rules

pub slice_bounds-tear-end : goal.slice_bounds-tear-end
slice_bounds-tear-end g c =
    let old = c.args.self.now in
    let calls = c.sync_recorded.new.self.calls.items in
    let more = since-following (calls_of old.disk.calls.items) (calls_of calls) Sync old.since c.in-Ok.ensures.done old.left.within in
    let within = since-within calls c.calls.result.now c.calls.ensures old.disk.len old.since old.is_synced.items more in
    search rules

pub tear-requires : goal.tear-requires
tear-requires g c =
    let old = c.args.self.now in
    let new = c.sync_recorded.new.self in
    tear-fits new.calls.items c.calls.result.now c.calls.ensures old.disk.len old.since old.is_synced.items old.is_synced.items refl
    (subst (λ (n : ℕ). AreCalls n (calls_of new.calls.items)) c.sync_recorded.ensures.len new.in_range) old.left.long

pub invariant_of-self-in-Ok : goal.invariant_of-self-in-Ok
invariant_of-self-in-Ok g c =
    let old = c.args.self.now in
    let new = c.sync_recorded.new.self in
    record {
      whole = ap length c.sync_recorded.ensures.kept ∙ old.whole ∙ sym c.sync_recorded.ensures.len;
      left =
          is_synced-tear new.calls.items c.calls.result.now c.calls-in-Ok.result.now old.disk.len new.len (calls_of old.disk.calls.items) old.since old.is_synced.items c.tear.new.file.items
          c.calls.ensures c.calls-in-Ok.ensures c.sync_recorded.ensures.len c.in-Ok.ensures.done old.left c.tear.ensures.torn c.tear.ensures.long;
    }

pub returns-in-Ok-clause-kept : goal.returns-in-Ok-clause-kept
returns-in-Ok-clause-kept g c = record { honest = refl; size = ap (λ (n : ℕ). length {A = ℕ} (replicate n 0)) c.sync_recorded.ensures.len }

pub returns-in-Ok-clause-failed : goal.returns-in-Ok-clause-failed
returns-in-Ok-clause-failed g c = refl

pub returns-in-Ok-clause-counted : goal.returns-in-Ok-clause-counted
returns-in-Ok-clause-counted g c = c.next_moment.ensures.counted

pub returns-in-Ok-clause-stops : goal.returns-in-Ok-clause-stops
returns-in-Ok-clause-stops g c = refl

pub returns-in-Ok-clause-running : goal.returns-in-Ok-clause-running
returns-in-Ok-clause-running g c = sym c.next_moment.ensures.moment ∙ of_running c.next_moment.result (sym c.ne.ensures ∙ c.if-ne.false)

pub returns-in-Ok-clause-none : goal.returns-in-Ok-clause-none
returns-in-Ok-clause-none g c = tt

pub returns-in-Ok-clause-is_synced : goal.returns-in-Ok-clause-is_synced
returns-in-Ok-clause-is_synced g c _ = c.in-Ok.ensures.is_synced

pub returns-in-Ok-clause-seen : goal.returns-in-Ok-clause-seen
returns-in-Ok-clause-seen g c _ = c.sync_recorded.ensures.seen

pub returns-in-Ok-clause-crash : goal.returns-in-Ok-clause-crash
returns-in-Ok-clause-crash g c _ = c.sync_recorded.ensures.crash

-- an allocation failed
pub invariant_of-self-in-Err : goal.invariant_of-self-in-Err
invariant_of-self-in-Err g c =
    let old = c.args.self.now in
    let new = c.sync_recorded.new.self in
    record {
      whole = ap length c.sync_recorded.ensures.kept ∙ old.whole ∙ sym c.sync_recorded.ensures.len;
      left = is_synced-still old.disk.len new.len (calls_of old.disk.calls.items) (calls_of new.calls.items) old.since old.is_synced.items c.sync_recorded.ensures.len c.in-Err.ensures.refused old.left;
    }

pub returns-in-Err-clause-kept : goal.returns-in-Err-clause-kept
returns-in-Err-clause-kept g c = record { honest = refl; size = ap (λ (n : ℕ). length {A = ℕ} (replicate n 0)) c.sync_recorded.ensures.len }

pub returns-in-Err-clause-failed : goal.returns-in-Err-clause-failed
returns-in-Err-clause-failed g c = c.count_failure-in-Err.ensures

pub returns-in-Err-clause-is_synced : goal.returns-in-Err-clause-is_synced
returns-in-Err-clause-is_synced g c _ = tt

pub returns-in-Err-clause-seen : goal.returns-in-Err-clause-seen
returns-in-Err-clause-seen g c _ = c.sync_recorded.ensures.seen

pub returns-in-Err-clause-crash : goal.returns-in-Err-clause-crash
returns-in-Err-clause-crash g c _ = c.sync_recorded.ensures.crash

pub returns-in-Err-clause-counted : goal.returns-in-Err-clause-counted
returns-in-Err-clause-counted g c = c.next_moment.ensures.counted

pub returns-in-Err-clause-stops : goal.returns-in-Err-clause-stops
returns-in-Err-clause-stops g c = refl

pub returns-in-Err-clause-running : goal.returns-in-Err-clause-running
returns-in-Err-clause-running g c = tt

pub returns-in-Err-clause-none : goal.returns-in-Err-clause-none
returns-in-Err-clause-none g c = (inr (counted_failed c.args.self.now.disk.failures c.sync_recorded.new.self.failures c.in-Err.ensures.failed), c.in-Err.ensures.none)
