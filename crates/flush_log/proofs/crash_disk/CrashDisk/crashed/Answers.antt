use Rattle.std.proofs.Common.{◌≡◌, ℕ, length, replicate, refl, ap, ◌∙◌, rules}
use Rattle.flush_log.specs.Commit.{seen_after}
use Rattle.flush_log.specs.Record.{LeftNow, calls_of}
use Rattle.flush_log.specs.Crash.{left_with}
use Rattle.flush_log.proofs.CrashLemmas.{left-written, left-now, since-within, tear-fits, tear-left, seen_as, seen_has, not_made}
use Rattle.flush_log.proofs.crash_disk.CrashDisk.crashed.Goals as goal

pub returns-in_err-bytes-clause-left : goal.returns-in_err-bytes-clause-left
returns-in_err-bytes-clause-left g c = not_made c.from_residual.result _ c.from_residual.ensures.0

pub returns-in_err-bytes-clause-filled : goal.returns-in_err-bytes-clause-filled
returns-in_err-bytes-clause-filled g c = not_made c.from_residual.result _ c.from_residual.ensures.0

pub returns-in_err-bytes-clause-written : goal.returns-in_err-bytes-clause-written
returns-in_err-bytes-clause-written g c _ = not_made c.from_residual.result _ c.from_residual.ensures.0

pub returns-in_err-bytes-clause-is_synced : goal.returns-in_err-bytes-clause-is_synced
returns-in_err-bytes-clause-is_synced g c = not_made c.from_residual.result _ c.from_residual.ensures.0

pub returns-in_err-bytes-clause-size : goal.returns-in_err-bytes-clause-size
returns-in_err-bytes-clause-size g c = not_made c.from_residual.result _ c.from_residual.ensures.0

pub returns-in_err-bytes-clause-failures : goal.returns-in_err-bytes-clause-failures
returns-in_err-bytes-clause-failures g c = not_made c.from_residual.result _ c.from_residual.ensures.0

pub returns-in_err-bytes-clause-running : goal.returns-in_err-bytes-clause-running
returns-in_err-bytes-clause-running g c = not_made c.from_residual.result _ c.from_residual.ensures.0

pub returns-in_err-bytes-clause-calls : goal.returns-in_err-bytes-clause-calls
returns-in_err-bytes-clause-calls g c = not_made c.from_residual.result _ c.from_residual.ensures.0

pub offset_bounds-calls-self : goal.offset_bounds-calls-self
offset_bounds-calls-self g c =
    let old = c.args.self.now in
    let within = since-within old.disk.calls.items c.calls.result.now c.calls.ensures old.disk.len old.since old.is_synced.items old.left.within in
    search rules

pub slice_bounds-tear-count : goal.slice_bounds-tear-count
slice_bounds-tear-count g c =
    let old = c.args.self.now in
    let within = since-within old.disk.calls.items c.calls.result.now c.calls.ensures old.disk.len old.since old.is_synced.items old.left.within in
    search rules

pub slice_bounds-tear-start : goal.slice_bounds-tear-start
slice_bounds-tear-start g c =
    let old = c.args.self.now in
    let within = since-within old.disk.calls.items c.calls.result.now c.calls.ensures old.disk.len old.since old.is_synced.items old.left.within in
    search rules

pub slice_bounds-tear-end : goal.slice_bounds-tear-end
slice_bounds-tear-end g c =
    let old = c.args.self.now in
    let within = since-within old.disk.calls.items c.calls.result.now c.calls.ensures old.disk.len old.since old.is_synced.items old.left.within in
    search rules

pub tear-requires : goal.tear-requires
tear-requires g c =
    let old = c.args.self.now in
    let copied : c.in_ok-bytes.bytes.items ≡ old.is_synced.items = c.in_ok-bytes.ensures.items_if_clones_equal (λ x y h. h) ∙ c.deref.ensures.value in
    tear-fits old.disk.calls.items c.calls.result.now c.calls.ensures old.disk.len old.since old.is_synced.items c.in_ok-bytes.bytes.items copied old.disk.in_range old.left.long

pub returns-clause-filled : goal.returns-clause-filled
returns-clause-filled g c =
    let old = c.args.self.now in
    let n = old.disk.len in
    let copied : c.in_ok-bytes.bytes.items ≡ old.is_synced.items = c.in_ok-bytes.ensures.items_if_clones_equal (λ x y h. h) ∙ c.deref.ensures.value in
    seen_as c.holding.result (λ disk. seen_after (calls_of disk.disk.calls.items) (replicate disk.disk.len 0)) c.tear.new.file.items (left_with c.args.fill (calls_of old.disk.calls.items) (replicate n 0) (replicate n 0))
    (tear-left old.disk.calls.items c.calls.result.now c.calls.ensures n old.since old.is_synced.items c.args.fill c.in_ok-bytes.bytes.items c.tear.new.file.items copied old.left c.tear.ensures.torn) c.holding.ensures.seen

pub returns-clause-left : goal.returns-clause-left
returns-clause-left g c =
    let old = c.args.self.now in
    let n = old.disk.len in
    let left = left_with c.args.fill (calls_of old.disk.calls.items) (replicate n 0) (replicate n 0) in
    seen_has c.holding.result (λ disk. seen_after (calls_of disk.disk.calls.items) (replicate disk.disk.len 0)) left (LeftNow (replicate n 0) (calls_of old.disk.calls.items))
    (left-now c.args.fill n (calls_of old.disk.calls.items) left old.disk.in_range refl) (returns-clause-filled g c)

pub returns-clause-written : goal.returns-clause-written
returns-clause-written g c is =
    let old = c.args.self.now in
    let zeros = replicate old.disk.len 0 in
    let calls = calls_of old.disk.calls.items in
    seen_as c.holding.result (λ disk. seen_after (calls_of disk.disk.calls.items) (replicate disk.disk.len 0)) (left_with c.args.fill calls zeros zeros) (seen_after calls zeros)
    (ap (λ fill. left_with fill calls zeros zeros) is ∙ left-written calls zeros) (returns-clause-filled g c)

pub returns-clause-is_synced : goal.returns-clause-is_synced
returns-clause-is_synced g c = c.holding.ensures.is_synced

pub returns-clause-size : goal.returns-clause-size
returns-clause-size g c =
    let old = c.args.self.now in
    let copied : c.in_ok-bytes.bytes.items ≡ old.is_synced.items = c.in_ok-bytes.ensures.items_if_clones_equal (λ x y h. h) ∙ c.deref.ensures.value in
    seen_as c.holding.result (λ disk. length {A = ℕ} (replicate disk.disk.len 0)) (length c.tear.new.file.items) (length {A = ℕ} (replicate old.disk.len 0))
    (c.tear.ensures.long ∙ ap length copied ∙ old.left.long) c.holding.ensures.size

pub returns-clause-failures : goal.returns-clause-failures
returns-clause-failures g c = c.holding.ensures.failures

pub returns-clause-running : goal.returns-clause-running
returns-clause-running g c = c.holding.ensures.running

pub returns-clause-calls : goal.returns-clause-calls
returns-clause-calls g c = c.holding.ensures.calls
