-- The result of a clean: the fault, or the store and its disk afterwards.
use Rattle.std.specs.Prelude.{ℕ, suc, nat_eq, if◌then◌else◌, List, [], take, drop, Result, Ok, Err}
use Rattle.keys.specs.Bytes.{Bytes}
use Rattle.keys.specs.declared.settings.Settings.{Settings}
use Rattle.keys.specs.declared.fault.Fault.{Fault}
use Rattle.keys.specs.declared.fault.Fault.TheVariants.{NothingToClean}
use Rattle.keys.specs.Results.{and_then}
use Rattle.mapping.specs.Tree.{Store}
use Rattle.frame_codec.specs.Frame.{Frame}
use Rattle.flush_log.specs.AfterFlush.{Commit, slot_of, file_after, calls_for, store_after, after_commit}
use Rattle.flush_log.specs.Commit.{Call}
use Rattle.flush_log.specs.Layout.{tail_after, spans, is_full_for_clean}
use Rattle.flush_log.specs.Reading.{Found, log}
use Rattle.flush_log.specs.Segments.{last_segment}
use Rattle.flush_log.specs.Slot.{Slot, slot_size, slot_place, slot_in}
use Rattle.recovery.specs.LogPages.{broken_in}
use Rattle.recovery.specs.StoreOfDisk.{unless_found, frames_in}
use Rattle.cleaner.specs.CleanText.{clean_frames}

-- the slot for this sequence number on the disk
abbrev pub slot_on_disk : ℕ → Bytes → Slot
slot_on_disk n file = slot_in (take slot_size (drop (slot_place n) file))

-- the slot for these frames of a store: the root and the height stay those on the disk, the version is the store's, and the head is one greater
abbrev pub clean_slot : Settings → Store → Bytes → List Frame → Slot
clean_slot s st file text = record {
  sequence = suc st.sequence;
  head = suc st.head;
  tail = tail_after s st.tail text;
  root = (slot_on_disk st.sequence file).root;
  height = (slot_on_disk st.sequence file).height;
  version = st.version;
}

-- the commit of these frames
abbrev pub clean_commit : Settings → Store → Bytes → List Frame → Commit
clean_commit s st file text = record { slot = clean_slot s st file text; spans = spans s st.tail text }

-- the result of copying these frames; the tree in memory is unchanged
abbrev pub after_carried : Settings → Store → Bytes → List Frame → Result (Store × Bytes) Fault
after_carried s st file text =
    let m : Commit = clean_commit s st file text in
    after_commit m.slot (is_full_for_clean s st.head m.slot.tail) (store_after st.tree m.slot) (file_after s file m)

-- the result of a clean of these frames, or a fault if they do not fit together
abbrev pub after_clean_of : Settings → Store → Bytes → List Found → Result (Store × Bytes) Fault
after_clean_of s st file found = and_then (unless_found (broken_in (frames_in found)) (clean_frames st.head found)) (after_carried s st file)

-- the result of a clean: the store and the bytes of its disk afterwards, or the fault; first of all, the log must not be in one segment
abbrev pub after_clean : Settings → Store → Bytes → Result (Store × Bytes) Fault
after_clean s st file =
    if nat_eq st.head (last_segment s st.tail)
    then Err NothingToClean
    else and_then (log s file (slot_of st)) (after_clean_of s st file)

-- ---- disk calls

-- the calls by which a clean of the frames found is written: none if a fault was found
abbrev pub clean_calls_by : Settings → Store → Bytes → Result (List Found) Fault → List Call
clean_calls_by s st file (Ok found) = calls_for s file (clean_commit s st file (clean_frames st.head found))
clean_calls_by s st file (Err fault) = []

-- the calls of a clean
abbrev pub clean_calls : Settings → Store → Bytes → List Call
clean_calls s st file = clean_calls_by s st file (log s file (slot_of st))
