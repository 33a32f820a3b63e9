-- The results of a flush and of an upgrade: the fault, or the store and its disk afterwards.
use Rattle.std.specs.Prelude.{suc, Bool, ◌||◌, nat_lt, if◌then◌else◌, List, [], ◌∷◌, Result, Ok, Err}
use Rattle.keys.specs.Bytes.{Bytes}
use Rattle.keys.specs.declared.settings.Settings.{Settings}
use Rattle.keys.specs.declared.fault.Fault.{Fault}
use Rattle.keys.specs.declared.fault.Fault.TheVariants.{Spent, Full, AlreadyUpgraded}
use Rattle.keys.specs.declared.version.Version.{Version}
use Rattle.keys.specs.declared.version.Version.TheVariants.{One, Two}
use Rattle.mapping.specs.Tree.{Tree, Store}
use Rattle.frame_codec.specs.Frame.{Frame}
use Rattle.flush_log.specs.Commit.{Call, commit_calls, committed}
use Rattle.flush_log.specs.FlushText.{flush_frames, upgrade_frames, flushed}
use Rattle.flush_log.specs.Layout.{Span, tail_after, spans, is_full_for_flush}
use Rattle.flush_log.specs.Slot.{Slot, greatest}

-- the slot of a store
abbrev pub slot_of : Store → Slot
slot_of st = record { sequence = st.sequence; head = st.head; tail = st.tail; root = st.tree.root; height = st.tree.height; version = st.version }

-- the slot for these frames of a store
abbrev pub flush_slot : Settings → Store → List Frame → Slot
flush_slot s st text = record { sequence = suc st.sequence; head = st.head; tail = tail_after s st.tail text; root = st.tree.root; height = st.tree.height; version = st.version }

-- a commit: its slot, and the spans that are written for its frames
pub record Commit : Type 0 where
  pub slot : Slot
  pub spans : List Span

-- the bytes after the commit
abbrev pub file_after : Settings → Bytes → Commit → Bytes
file_after s file m = committed s file m.spans m.slot

-- the disk calls of the commit
abbrev pub calls_for : Settings → Bytes → Commit → List Call
calls_for s file m = commit_calls s file m.spans m.slot

-- the commit of these frames for a store
abbrev pub flush_commit : Settings → Store → List Frame → Commit
flush_commit s st text = record { slot = flush_slot s st text; spans = spans s st.tail text }

-- the slot's number or its tail is above the greatest
abbrev pub is_spent : Slot → Bool
is_spent t = nat_lt greatest t.sequence || nat_lt greatest t.tail

-- the store with this slot and this tree
abbrev pub store_after : Tree → Slot → Store
store_after tree t = record { tree = tree; head = t.head; tail = t.tail; sequence = t.sequence; version = t.version }

-- the result of a commit: `Spent` if its numbers are exhausted, `Full` if the log is full, else the store and the bytes afterwards
abbrev pub after_commit : Slot → Bool → Store → Bytes → Result (Store × Bytes) Fault
after_commit t is_full st file = if is_spent t then Err Spent else (if is_full then Err Full else Ok (st, file))

-- the result of committing frames; without frames, nothing is written and the store is unchanged
abbrev pub after_text : Settings → Store → Bytes → List Frame → Result (Store × Bytes) Fault
after_text s st file [] = Ok (st, file)
after_text s st file (f ∷ fs) =
    let m : Commit = flush_commit s st (f ∷ fs) in
    after_commit m.slot (is_full_for_flush s m.slot.head m.slot.tail) (store_after (flushed st.tree) m.slot) (file_after s file m)

-- the result of a flush: the store and the bytes of its disk afterwards, or the fault
abbrev pub after_flush : Settings → Store → Bytes → Result (Store × Bytes) Fault
after_flush s st file = after_text s st file (flush_frames st.version st.tree)

-- the store with a log of version 2
abbrev pub of_version_two : Store → Store
of_version_two st = record { tree = st.tree; head = st.head; tail = st.tail; sequence = st.sequence; version = Two }

-- the result, unless the log already has version 2
abbrev pub unless_upgraded : {X : Type 0} → Version → Result X Fault → Result X Fault
unless_upgraded One answer = answer
unless_upgraded Two answer = Err AlreadyUpgraded

-- the result of an upgrade
abbrev pub after_upgrade : Settings → Store → Bytes → Result (Store × Bytes) Fault
after_upgrade s st file = unless_upgraded st.version (after_text s (of_version_two st) file (upgrade_frames st.tree))

-- ---- disk calls

-- the calls by which these frames of a store are committed: none without frames
abbrev pub text_calls : Settings → Store → Bytes → List Frame → List Call
text_calls s st file [] = []
text_calls s st file (f ∷ fs) = calls_for s file (flush_commit s st (f ∷ fs))

-- the calls of a flush
abbrev pub flush_calls : Settings → Store → Bytes → List Call
flush_calls s st file = text_calls s st file (flush_frames st.version st.tree)

-- the calls of an upgrade
abbrev pub upgrade_calls : Settings → Store → Bytes → List Call
upgrade_calls s st file = text_calls s (of_version_two st) file (upgrade_frames st.tree)
