use Rattle.std.proofs.Common.{◌≡◌, ℕ, ◌+◌, ◌≤◌, List, [], ◌∷◌, length, replicate, refl, sym, ap, ◌∙◌, arith}
use Rattle.std.proofs.lemmas.List.{length-map, length-replicate}
use Rattle.flush_log.specs.Commit.{seen_after}
use Rattle.flush_log.specs.Commit.Call.{Write, Sync}
use Rattle.flush_log.specs.Record.{call_of, calls_of}
use Rattle.flush_log.proofs.CrashLemmas.{over-all, is_synced-holding, not_made}
use Rattle.flush_log.proofs.RecordLemmas.{sync_settles}
use Rattle.flush_log.proofs.crash_disk.CrashDisk.holding.Goals as goal

pub returns-in_err-is_synced-clause-size : goal.returns-in_err-is_synced-clause-size
returns-in_err-is_synced-clause-size g c = not_made c.from_residual.result _ c.from_residual.ensures.0

pub returns-in_err-is_synced-clause-seen : goal.returns-in_err-is_synced-clause-seen
returns-in_err-is_synced-clause-seen g c = not_made c.from_residual.result _ c.from_residual.ensures.0

pub returns-in_err-is_synced-clause-is_synced : goal.returns-in_err-is_synced-clause-is_synced
returns-in_err-is_synced-clause-is_synced g c = not_made c.from_residual.result _ c.from_residual.ensures.0

pub returns-in_err-is_synced-clause-failures : goal.returns-in_err-is_synced-clause-failures
returns-in_err-is_synced-clause-failures g c = not_made c.from_residual.result _ c.from_residual.ensures.0

pub returns-in_err-is_synced-clause-running : goal.returns-in_err-is_synced-clause-running
returns-in_err-is_synced-clause-running g c = not_made c.from_residual.result _ c.from_residual.ensures.0

pub returns-in_err-is_synced-clause-calls : goal.returns-in_err-is_synced-clause-calls
returns-in_err-is_synced-clause-calls g c = not_made c.from_residual.result _ c.from_residual.ensures.0

pub returns-in_err-disk-clause-size : goal.returns-in_err-disk-clause-size
returns-in_err-disk-clause-size g c = not_made c.from_residual-in_err-disk.result _ c.from_residual-in_err-disk.ensures.0

pub returns-in_err-disk-clause-seen : goal.returns-in_err-disk-clause-seen
returns-in_err-disk-clause-seen g c = not_made c.from_residual-in_err-disk.result _ c.from_residual-in_err-disk.ensures.0

pub returns-in_err-disk-clause-is_synced : goal.returns-in_err-disk-clause-is_synced
returns-in_err-disk-clause-is_synced g c = not_made c.from_residual-in_err-disk.result _ c.from_residual-in_err-disk.ensures.0

pub returns-in_err-disk-clause-failures : goal.returns-in_err-disk-clause-failures
returns-in_err-disk-clause-failures g c = not_made c.from_residual-in_err-disk.result _ c.from_residual-in_err-disk.ensures.0

pub returns-in_err-disk-clause-running : goal.returns-in_err-disk-clause-running
returns-in_err-disk-clause-running g c = not_made c.from_residual-in_err-disk.result _ c.from_residual-in_err-disk.ensures.0

pub returns-in_err-disk-clause-calls : goal.returns-in_err-disk-clause-calls
returns-in_err-disk-clause-calls g c = not_made c.from_residual-in_err-disk.result _ c.from_residual-in_err-disk.ensures.0

pub invariant_of-result : goal.invariant_of-result
invariant_of-result g c =
    let disk = c.in_ok-disk.disk in
    let made = c.in_ok-disk.ensures in
    let is_synced = c.in_ok-is_synced.is_synced.items in
    let copied : is_synced ≡ c.args.bytes.items = c.in_ok-is_synced.ensures.items_if_clones_equal (λ x y h. h) ∙ c.deref.ensures.value in
    record {
      whole = ap length made.kept ∙ sym made.len;
      left =
          is_synced-holding disk.len (length c.calls-since.result.now) is_synced (calls_of disk.calls.items) (ap length copied ∙ sym made.len)
          (made.calls ∙ ap (λ (bytes : List ℕ). Write 0 bytes ∷ Sync ∷ []) (sym copied)) (ap (λ calls. length calls) c.calls-since.ensures ∙ sym (length-map disk.calls.items call_of));
    }

pub returns-clause-size : goal.returns-clause-size
returns-clause-size g c =
    let n = c.in_ok-disk.disk.len in
    let zeros : length {A = ℕ} (replicate n 0) ≡ n = length-replicate n 0 in
    zeros ∙ c.in_ok-disk.ensures.len

pub returns-clause-seen : goal.returns-clause-seen
returns-clause-seen g c =
    let n = c.in_ok-disk.disk.len in
    ap (λ calls. seen_after calls (replicate n 0)) c.in_ok-disk.ensures.calls ∙ over-all n c.args.bytes.items (sym c.in_ok-disk.ensures.len)

pub returns-clause-is_synced : goal.returns-clause-is_synced
returns-clause-is_synced g c =
    let disk = c.in_ok-disk.disk in
    let made = c.in_ok-disk.ensures in
    let within : 0 + length c.args.bytes.items ≤ disk.len = omega (arith, made.len) in
    sync_settles disk.len disk.len (Write 0 c.args.bytes.items ∷ []) (calls_of disk.calls.items) refl made.calls (within, tt)

pub returns-clause-failures : goal.returns-clause-failures
returns-clause-failures g c = refl

pub returns-clause-running : goal.returns-clause-running
returns-clause-running g c = refl

pub returns-clause-calls : goal.returns-clause-calls
returns-clause-calls g c = refl
