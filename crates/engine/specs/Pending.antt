-- What a flush would add to the log: by how many bytes its end moves, or why it fails. None of it depends on the bytes of the disk.
use Rattle.std.specs.Prelude.{◌≡◌, ℕ, ◌+◌, Ok, Err}
use Rattle.keys.specs.Bytes.{Bytes}
use Rattle.keys.specs.declared.fault.Fault.{Fault}
use Rattle.keys.specs.declared.settings.Settings.{Settings}
use Rattle.mapping.specs.Tree.{Store}
use Rattle.flush_log.specs.AfterFlush.{after_flush}

-- a flush of this store succeeds, and the log then ends n bytes further on
abbrev pub FlushAdds : Settings → Store → ℕ → Type 0
FlushAdds s st n = (file : Bytes) → (now : Store) × (bytes : Bytes) × (after_flush s st file ≡ Ok (now, bytes)) × (now.tail ≡ st.tail + n)

-- a flush of this store fails with this fault
abbrev pub IsFlushRefused : Settings → Store → Fault → Type 0
IsFlushRefused s st fault = (file : Bytes) → after_flush s st file ≡ Err fault
