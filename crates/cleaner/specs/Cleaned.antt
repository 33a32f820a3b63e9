-- The effects and the faults of a clean that a store and the bytes of its disk do not determine alone.
use Rattle.std.specs.Prelude.{◌≡◌, ◌≢◌, ◌⊎◌, ℕ, suc, List, None, Ok, Err}
use Rattle.keys.specs.Bytes.{Bytes}
use Rattle.keys.specs.declared.fault.Fault.{Fault}
use Rattle.keys.specs.declared.settings.Settings.{Settings}
use Rattle.keys.specs.declared.version.Version.{Version}
use Rattle.mapping.specs.Tree.{Store}
use Rattle.frame_codec.specs.declared.format.Format.{Format}
use Rattle.flush_log.specs.CommitPlan.{CommitPlan, IsPlanned}
use Rattle.flush_log.specs.Ends.{ends_of}
use Rattle.flush_log.specs.Reading.{Found, log_between}
use Rattle.flush_log.specs.Segments.{last_segment}
use Rattle.flush_log.specs.Slot.{Slot}
use Rattle.flush_log.specs.declared.slot.LogEnds.{LogEnds}
use Rattle.recovery.specs.LogPages.{broken_in}
use Rattle.recovery.specs.Recovered.{IsLate}
use Rattle.recovery.specs.StoreOfDisk.{frames_in}
use Rattle.cleaner.specs.AfterClean.{slot_on_disk, after_clean}
use Rattle.cleaner.specs.CleanText.{clean_frames}

-- ---- the call

-- a clean of this store with these bytes would succeed
abbrev pub WouldClean : Settings → Store → Bytes → Type 0
WouldClean s st file = (now : Store) × (bytes : Bytes) × (after_clean s st file ≡ Ok (now, bytes))

-- the possible faults of a clean: the one that store and bytes determine; or, if more than one segment is in use, out of memory or a failed disk call
abbrev pub IsCleanFault : Settings → Store → Bytes → ℕ → ℕ → Fault → Type 0
IsCleanFault s st file old new fault = (after_clean s st file ≡ Err fault) ⊎ ((st.head ≢ last_segment s st.tail) × IsLate old new fault)

-- ---- the steps, for a log of a given format with given ends in given bytes

-- a clean of the log fails with this fault, whatever tree is in memory
abbrev pub IsRefused : Format → LogEnds → Bytes → Fault → Type 0
IsRefused g e file fault = (st : Store) → ends_of st ≡ e → st.version ≡ g.version → after_clean g.settings st file ≡ Err fault

-- the log has these frames, and they fit together
pub record IsRead (g : Format) (e : LogEnds) (file : Bytes) (found : List Found) : Type 0 where
  pub read : log_between g file e.head e.tail ≡ Ok found
  pub sound : broken_in (frames_in found) ≡ None

-- the slot to which a clean adds its frames: the log without its first segment, in this version, with the root and the height of a slot on the disk
abbrev pub cleaned_slot : Version → LogEnds → Slot → Slot
cleaned_slot version e on_disk = record {
  sequence = e.sequence;
  head = suc e.head;
  tail = e.tail;
  root = on_disk.root;
  height = on_disk.height;
  version = version;
}

-- it is the commit of a clean of the log, which does not fail
abbrev pub IsClean : Format → LogEnds → Bytes → CommitPlan → Type 0
IsClean g e file m = (found : List Found) × IsRead g e file found
    × IsPlanned g.settings (cleaned_slot g.version e (slot_on_disk e.sequence file)) (clean_frames e.head found) m
