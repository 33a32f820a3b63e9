-- A flush that may clean, in terms of the settings and the pairs that the bytes of a disk encode.
use Rattle.std.specs.Prelude.{◌≡◌, ◌≢◌, Bool, IsTrue, false, Some, Result, MatchResult, IfErr, OnOk}
use Rattle.keys.specs.Bytes.{Bytes, Pairs}
use Rattle.keys.specs.declared.fault.Fault.{Fault}
use Rattle.keys.specs.declared.fault.Fault.TheVariants.{Device}
use Rattle.keys.specs.declared.settings.Settings.{Settings}
use Rattle.flush_log.specs.Disk.{View, IsSynced, Kept, LeavesOnly}
use Rattle.engine.specs.Claim.{FailsByDevice, RecoversEither}
use Rattle.engine.specs.State.{State}
use Rattle.engine.specs.StoreClaim.{recovered_from}

-- A store with these settings and these pairs was on this disk when the call began; the call returned this result and left the store `new`.
pub record MakesDurable {D X : Type 0} (view : D → View) (s : Settings) (m : Pairs Bytes) (disk : D) (has_failed : Bool) (result : Result X Fault) (new : State D) : Type 0 where
  pub rest : (new.settings ≡ s) × Kept (view disk) (view new.disk)
  pub fails : FailsByDevice result has_failed new.has_failed
  -- If the disk is honest: after success it encodes the store's settings and pairs, and unless a call of the disk failed, a failure leaves what it
  -- encoded.
  pub durable : IsTrue (view disk).is_honest → OnOk result (recovered_from (view new.disk).seen ≡ Some (s, m))
  pub unwritten : has_failed ≡ false → IsTrue (view disk).is_honest
      → IfErr result (λ fault. fault ≢ Device → recovered_from (view new.disk).seen ≡ recovered_from (view disk).seen)
  -- a synced disk stays synced, unless a call of the disk failed
  pub is_synced : has_failed ≡ false → IsSynced (view disk) → MatchResult result (λ _. IsSynced (view new.disk)) (λ fault. fault ≢ Device → IsSynced (view new.disk))
  -- a crash at any moment leaves what the disk encoded, or the store's settings and pairs
  pub crash : has_failed ≡ false → IsSynced (view disk)
      → LeavesOnly (view disk) (view new.disk) (RecoversEither recovered_from (recovered_from (view disk).seen) (Some (s, m)))
