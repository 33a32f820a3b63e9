-- The upgrade of a store of two leaves under an index page, whose keys are a to e: its slot, and what is read of the log after it.
use Rattle.std.specs.Prelude.{◌≡◌, ℕ, List, [], ◌∷◌, ◌++◌, replicate, Ok, Err}
use Rattle.std.proofs.Common.{refl}
use Rattle.keys.specs.declared.fault.Fault.TheVariants.{BadFrame, AlreadyUpgraded}
use Rattle.keys.specs.declared.version.Version.{Version}
use Rattle.keys.specs.declared.version.Version.TheVariants.{One, Two}
use Rattle.keys.proofs.Literals.{S}
use Rattle.mapping.specs.Tree.{Store}
use Rattle.mapping.specs.Tree.Logged.{Upto}
use Rattle.frame_codec.proofs.RowForms.{hex}
use Rattle.frame_codec.proofs.VersionLemmas.{in_version}
use Rattle.flush_log.specs.AfterFlush.{flush_slot, of_version_two, after_upgrade, upgrade_calls}
use Rattle.flush_log.specs.Commit.Call.{Write, Sync}
use Rattle.flush_log.specs.FlushText.{upgrade_frames}
use Rattle.flush_log.specs.Layout.{spans, with_spans, found_in_text}
use Rattle.flush_log.specs.NewStore.{first_frame, new_bytes}
use Rattle.flush_log.specs.Overlay.{overlay}
use Rattle.flush_log.specs.Reading.{Found, log_between}
use Rattle.flush_log.specs.Slot.{Slot, slot_body}
use Rattle.flush_log.proofs.Literals.{tree, pages_of_row_4, text_of_row_4, shared_text_of_row_4}

-- the store after its pages are flushed, with a log of this version
abbrev flushed_store : Version → Store
flushed_store version = record { tree = tree pages_of_row_4 2 2 ((0, Upto 0) ∷ (1, Upto 0) ∷ (2, Upto 0) ∷ []); head = 0; tail = 136; sequence = 2; version = version }

-- segment 0 with the log of a new store and that flush; and with the upgrade
abbrev flushed_file : List ℕ
flushed_file = with_spans S (new_bytes S ++ replicate 223 0) (spans S 33 text_of_row_4)

abbrev upgraded_file : List ℕ
upgraded_file = with_spans S flushed_file (spans S 136 shared_text_of_row_4)

-- ---- the commit

abbrev slot_of_upgrade : Slot
slot_of_upgrade = record { sequence = 3; head = 0; tail = 238; root = 2; height = 2; version = Two }

slot : flush_slot S (of_version_two (flushed_store One)) (upgrade_frames (flushed_store One).tree) ≡ slot_of_upgrade
slot = refl

-- slot 1, which is open since the store was made, is closed first
calls : upgrade_calls S (flushed_store One) flushed_file
    ≡ Write 192 (0 ∷ []) ∷ Write 648 (hex "06 00000018 0000000000000000 0000 0002 00 01 61 0001 31 00 01 62 0001 32"
    ++ (hex "06 0000001e 0000000000000001 0001 63 0003 01 00 0001 33 00 01 64 0001 34 00 01 65 0001 35"
    ++ hex "07 00000021 0000000000000002 0000 0002 00 00 0000000000000000 00 01 63 0000000000000001"))
    ∷ Sync ∷ Write 193 (slot_body slot_of_upgrade) ∷ Sync ∷ Write 192 (1 ∷ []) ∷ Sync ∷ []
calls = refl

again : (file : List ℕ) → after_upgrade S (flushed_store Two) file ≡ Err AlreadyUpgraded
again file = refl

-- ---- the log

abbrev before : List Found
before = record { segment = 0; frame = first_frame } ∷ found_in_text S 33 text_of_row_4

found : log_between (in_version S Two) upgraded_file 0 238 ≡ Ok (before ++ found_in_text S 136 shared_text_of_row_4)
found = refl

-- the slot from before the upgrade still gives the log from before
found_before : log_between (in_version S One) upgraded_file 0 136 ≡ Ok before
found_before = refl

-- the rest of the key d set to c, so that more is shared with the key before than is written
key_twice : log_between (in_version S Two) (overlay upgraded_file 702 (hex "63")) 0 238 ≡ Err (BadFrame 0 165)
key_twice = refl

-- a log of version 1 has no such frames
as_version_one : log_between (in_version S One) upgraded_file 0 238 ≡ Err (BadFrame 0 136)
as_version_one = refl
