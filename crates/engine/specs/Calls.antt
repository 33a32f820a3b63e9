-- What the calls of a store on a disk answer, where a store and its bytes don't decide it alone.
use Rattle.std.specs.Prelude.{◌≡◌, ◌≢◌, ◌⊎◌, ⊤, ℕ, [], Result, Ok}
use Rattle.keys.specs.Bytes.{Bytes}
use Rattle.keys.specs.declared.fault.Fault.{Fault}
use Rattle.keys.specs.declared.fault.Fault.TheVariants.{NoMemory, Device}
use Rattle.keys.specs.declared.settings.Settings.{Settings}
use Rattle.keys.specs.declared.version.Version.{Version}
use Rattle.keys.specs.declared.version.Version.TheVariants.{One}
use Rattle.mapping.specs.Tree.{Store}
use Rattle.flush_log.specs.AfterFlush.{slot_of, after_flush, after_upgrade}
use Rattle.flush_log.specs.CommitPlan.{CommitPlan, IsPlanned}
use Rattle.flush_log.specs.Disk.{HasFailed}
use Rattle.flush_log.specs.FlushText.{version_with, commit_frames, flush_frames}
use Rattle.flush_log.specs.declared.text.CommitKind.{CommitKind}
use Rattle.flush_log.specs.declared.text.CommitKind.TheVariants.{Flush, Upgrade}

-- ---- a flush and an upgrade, by their text

-- what the one that has this text leaves of a store and of the bytes of its disk, or why it is refused
abbrev pub after_writing : CommitKind → Settings → Store → Bytes → Result (Store × Bytes) Fault
after_writing (Flush version) s st file = after_flush s st file
after_writing Upgrade s st file = after_upgrade s st file

-- a flush's text is that of the store's own version
abbrev pub IsOwnText : CommitKind → Store → Type 0
IsOwnText (Flush version) st = version ≡ st.version
IsOwnText Upgrade st = ⊤

-- this text of a store is to be written: a flush's, where it has a frame; an upgrade's, where the log has version 1
abbrev pub IsToWrite : CommitKind → Store → Type 0
IsToWrite (Flush version) st = flush_frames st.version st.tree ≢ []
IsToWrite Upgrade st = st.version ≡ One

-- it would be done, and has something to write
abbrev pub WouldWrite : CommitKind → Settings → Store → Bytes → Type 0
WouldWrite text s st file = IsToWrite text st × (now : Store) × (bytes : Bytes) × (after_writing text s st file ≡ Ok (now, bytes))

-- It is refused, though not by its right: for lack of memory, where something is to be written; or because a call of the disk failed,
-- where it would have been done.
abbrev pub IsLateInWriting : CommitKind → Settings → Store → Bytes → ℕ → ℕ → Fault → Type 0
IsLateInWriting text s st file old new fault =
    ((fault ≡ NoMemory) × IsToWrite text st) ⊎ ((fault ≡ Device) × HasFailed old new × WouldWrite text s st file)

-- a store whose log has this version
abbrev pub with_version : Version → Store → Store
with_version version st = record { tree = st.tree; head = st.head; tail = st.tail; sequence = st.sequence; version = version }

-- the commit by which this text is written, which nothing refuses: it adds the text to the store's log, and names the version of the text
abbrev pub IsWriting : CommitKind → Settings → Store → CommitPlan → Type 0
IsWriting text s st m = IsPlanned s (slot_of (with_version (version_with text) st)) (commit_frames text st.tree) m
