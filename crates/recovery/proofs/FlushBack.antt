-- The disk after a flush or an upgrade encodes the store after it.
use Rattle.std.specs.Prelude.{◌≡◌, ◌≢◌, ◌-◌, ℕ, ◌+◌, ◌≤◌, Bool, true, false, nat_lt, ◌<◌, ◌^◌, if◌then◌else◌, List, [], ◌∷◌, ◌++◌, None, Result, Ok, Err}
use Rattle.std.proofs.Common.{refl, sym, ap, ◌∙◌, arith, subst}
use Rattle.std.proofs.lemmas.Bool.{or_parts, ltb-false, leb-false}
use Rattle.keys.specs.Limits.{first_bad_field}
use Rattle.keys.specs.declared.fault.Fault.{Fault}
use Rattle.keys.specs.declared.fault.Fault.TheVariants.{Spent, Full}
use Rattle.keys.specs.declared.settings.Settings.{Settings}
use Rattle.keys.specs.declared.version.Version.{Version}
use Rattle.keys.specs.declared.version.Version.TheVariants.{One, Two}
use Rattle.mapping.specs.Tree.{Tree, Store}
use Rattle.frame_codec.specs.Frame.{Frame}
use Rattle.flush_log.specs.AfterFlush.{slot_of, flush_slot, is_spent, store_after, after_commit, after_text, unless_upgraded}
use Rattle.flush_log.specs.Commit.{HasRoom, committed}
use Rattle.flush_log.specs.FlushText.{version_with, commit_frames, format_with, HasFrames, flushed}
use Rattle.flush_log.specs.Layout.{found_in_text, spans, is_full_for_flush}
use Rattle.flush_log.specs.Reading.{Found, log_between}
use Rattle.flush_log.specs.Segments.{last_segment}
use Rattle.flush_log.specs.Slot.{Slot, greatest, is_slot}
use Rattle.flush_log.specs.declared.text.CommitKind.{CommitKind}
use Rattle.flush_log.specs.declared.text.CommitKind.TheVariants.{Upgrade}
use Rattle.flush_log.proofs.FitLemmas.{are_sized}
use Rattle.flush_log.proofs.LayoutLemmas.{split-tail}
use Rattle.flush_log.proofs.NextSlotLemmas.{next_good}
use Rattle.flush_log.proofs.OlderLemmas.{log-known}
use Rattle.flush_log.proofs.OutcomeLemmas.{text-fits, after-text, after-settings, after-slot}
use Rattle.flush_log.proofs.SettingsLemmas.{store_settings-are}
use Rattle.flush_log.proofs.SlotLemmas.{IsSlot, slot-is}
use Rattle.recovery.specs.InStep.{AreInStep, IsStore, IsStoreOf}
use Rattle.recovery.specs.StoreOfDisk.{frames_in, tree_by_log, store_of_disk}
use Rattle.recovery.proofs.FlushLemmas.{known-frames, text-read}
use Rattle.recovery.proofs.StoreLemmas.{Reads, StandsBy, store-stands}

-- ---- a commit that does not fail

-- its numbers aren't exhausted, the log isn't full, and this is the committed store
pub record IsCommitted (t : Slot) (is_full : Bool) (st : Store) (file : List ℕ) (now : Store) (bytes : List ℕ) : Type 0 where
  pub number : t.sequence ≤ greatest
  pub tail : t.tail ≤ greatest
  pub room : is_full ≡ false
  pub store : now ≡ st
  pub disk : bytes ≡ file

-- the answer
abbrev pub left : Store → List ℕ → Result (Store × List ℕ) Fault
left now bytes = Ok (now, bytes)

same_pair : (st now : Store) (file bytes : List ℕ) → left st file ≡ left now bytes → (now ≡ st) × (bytes ≡ file)
same_pair st now file bytes e =
    let same : (let x : Store × List ℕ = (now, bytes) in x ≡ (st, file)) = cc in
    (ap (λ (x : Store × List ℕ). x.0) same, ap (λ (x : Store × List ℕ). x.1) same)

committed_by : (a b : Bool) (t : Slot) (st now : Store) (file bytes : List ℕ) → is_spent t ≡ a → (if a then Err Spent else (if b then Err Full else left st file)) ≡ left now bytes → IsCommitted t b st file now bytes
committed_by true b t st now file bytes e h = absurd (cc)
committed_by false true t st now file bytes e h = absurd (cc)
committed_by false false t st now file bytes e h =
    let parts = or_parts (nat_lt greatest t.sequence) (nat_lt greatest t.tail) e in
    let same = same_pair st now file bytes h in
    record { number = ltb-false greatest t.sequence parts.0; tail = ltb-false greatest t.tail parts.1; room = refl; store = same.0; disk = same.1 }

pub commit-done : (t : Slot) (is_full : Bool) (st now : Store) (file bytes : List ℕ) → after_commit t is_full st file ≡ left now bytes → IsCommitted t is_full st file now bytes
commit-done t is_full st now file bytes e = committed_by (is_spent t) is_full t st now file bytes refl e

pub text-some : (s : Settings) (st : Store) (file : List ℕ) (text : List Frame) → text ≢ []
    → after_text s st file text ≡ (let t : Slot = flush_slot s st text in after_commit t (is_full_for_flush s t.head t.tail) (store_after (flushed st.tree) t) (committed s file (spans s st.tail text) t))
text-some s st file [] some = absurd (some refl)
text-some s st file (f ∷ fs) some = refl

-- an upgrade that did not fail as done already
pub upgrade-done : (version : Version) (answer : Result (Store × List ℕ) Fault) (now : Store) (bytes : List ℕ) → unless_upgraded version answer ≡ left now bytes → answer ≡ left now bytes
upgrade-done One answer now bytes h = h
upgrade-done Two answer now bytes h = absurd (cc)

-- ---- the store after a commit

-- a slot, and a store, with this version
abbrev pub slot_with : Version → Slot → Slot
slot_with version t = record { sequence = t.sequence; head = t.head; tail = t.tail; root = t.root; height = t.height; version = version }

abbrev pub store_with : Version → Store → Store
store_with version st = record { tree = st.tree; head = st.head; tail = st.tail; sequence = st.sequence; version = version }

module _ (st on_disk : Store) (tree : Tree) (slot : Slot) (step : AreInStep st on_disk) (store : on_disk ≡ store_after tree slot) where
  pub same_version : st.version ≡ slot.version
  same_version = step.version ∙ ap (λ (x : Store). x.version) store

  -- a store has what the slot says of the one that it is in step with, whichever version it has
  pub same_with : (version : Version) → store_after st.tree (slot_with version slot) ≡ store_with version st
  same_with version =
      ap (λ (x : ℕ). (let y : Store = record { tree = st.tree; head = x; tail = slot.tail; sequence = slot.sequence; version = version } in y)) (sym (step.head ∙ ap (λ (x : Store). x.head) store))
      ∙ ap (λ (x : ℕ). (let y : Store = record { tree = st.tree; head = st.head; tail = x; sequence = slot.sequence; version = version } in y)) (sym (step.tail ∙ ap (λ (x : Store). x.tail) store))
      ∙ ap (λ (x : ℕ). (let y : Store = record { tree = st.tree; head = st.head; tail = st.tail; sequence = x; version = version } in y)) (sym (step.sequence ∙ ap (λ (x : Store). x.sequence) store))

  pub same_store : store_after st.tree slot ≡ st
  same_store = ap (λ (v : Version). store_after st.tree (slot_with v slot)) (sym same_version) ∙ same_with st.version

-- the contents of a log of this version are the same when read as a log after this commit
abbrev pub IsReadBy : Version → CommitKind → Type 0
IsReadBy version text = (s : Settings) (file : List ℕ) (head tail : ℕ) (found : List Found) → log_between (record { settings = s; version = version }) file head tail ≡ Ok found
    → log_between (format_with s text) file head tail ≡ Ok found

-- an upgrade reads what was of version 1 by version 2
pub read-upgraded : (version : Version) → IsReadBy version Upgrade
read-upgraded One s file head tail found h = log-known s file head tail found h
read-upgraded Two s file head tail found h = h

-- ---- reading afterwards

-- the store with this tree and this slot, for this kind of commit
abbrev pub started : CommitKind → Tree → Slot → Store
started text tree slot = store_after tree (slot_with (version_with text) slot)

module _ (s : Settings) (text : CommitKind) (tree : Tree) (slot : Slot) (within : HasFrames s text tree) where
  abbrev frames : List Frame
  frames = commit_frames text tree

  -- the slot of its commit
  abbrev next : Slot
  next = flush_slot s (started text tree slot) frames

  -- if its numbers aren't spent and a segment stays free, it is well formed
  pub next-good : first_bad_field s ≡ None → IsSlot s slot.sequence slot → tree.root < 2 ^ 64 → 1 ≤ tree.height → tree.height ≤ 64
      → next.sequence ≤ greatest → next.tail ≤ greatest → is_full_for_flush s slot.head next.tail ≡ false → is_slot s next.sequence next ≡ true
  next-good good was root some low number small free =
      let sized = are_sized s good in
      let size = sized.least_size in
      let count = sized.least_count in
      let following = was.following in
      let from = (split-tail s slot.head slot.tail (omega arith) (omega arith)).from in
      let last = leb-false (slot.head + s.segments - 1) (last_segment s next.tail) free in
      next_good (format_with s text) slot.sequence slot next frames good was within refl number refl small (omega arith) from (omega (arith, last, count)) root some low

  module _ (file : List ℕ) (found : List Found) (reads : Reads s file slot found) where
    pub room_for : is_full_for_flush s slot.head next.tail ≡ false → HasRoom (format_with s text) file slot frames
    room_for free =
        let (block, good, whole) = store_settings-are file s reads.settings in
        let sized = are_sized s good in
        let some = sized.least_count in
        let last = leb-false (slot.head + s.segments - 1) (last_segment s next.tail) free in
        record { good = good; whole = whole; slot = reads.slot; within = within; free = omega (arith, last, some) }

    text-reads : IsReadBy slot.version text → is_slot s next.sequence next ≡ true → is_full_for_flush s slot.head next.tail ≡ false
        → Reads s (committed s file (spans s slot.tail frames) next) next (found ++ found_in_text s slot.tail frames)
    text-reads read_by is free =
        let room = room_for free in
        let sized = are_sized s room.good in
        let size = sized.least_size in
        let whole = room.whole in
        let fits = text-fits (format_with s text) file slot frames room in
        record {
          settings = after-settings s file (spans s slot.tail frames) next (omega (arith, whole)) fits ∙ reads.settings;
          slot = after-slot s file (spans s slot.tail frames) next (omega (arith, whole)) fits slot (omega (arith, size)) reads.slot refl is;
          log = after-text (format_with s text) file slot frames room next found (read_by s file slot.head slot.tail found reads.log);
        }

-- ---- the laws

-- the slot of a commit is well formed
pub next-good_of : (s : Settings) (text : CommitKind) (st : Store) → IsStore s st → HasFrames s text st.tree → (let t : Slot = flush_slot s st (commit_frames text st.tree) in
    t.sequence ≤ greatest → t.tail ≤ greatest → is_full_for_flush s t.head t.tail ≡ false → is_slot s t.sequence t ≡ true)
next-good_of s text st is within number small free =
    let was : IsSlot s st.sequence (slot_of st) = slot-is s st.sequence (slot_of st) is.slot in
    next-good s text st.tree (slot_of st) within is.good was was.root was.height.0 was.height.1 number small free

-- the invariant of stores holds for the store with any version
pub kept-with : (s : Settings) (version : Version) (st : Store) → IsStore s st → IsStore s (store_with version st)
kept-with s version st is = record { good = is.good; proper = is.proper; logs = is.logs; slot = is.slot }

module _ (s : Settings) (text : CommitKind) (file : List ℕ) (tree : Tree) (on_disk : Store) (by : StandsBy s file on_disk) (is : IsStore s (store_after tree by.slot)) (within : HasFrames s text tree) where
  abbrev before : Store
  before = started text tree by.slot

  abbrev written_store : Store
  written_store = store_after (flushed tree) (flush_slot s before (commit_frames text tree))

  stands : AreInStep (store_after tree by.slot) on_disk → (bytes : List ℕ) → Reads s bytes (flush_slot s before (commit_frames text tree)) (by.found ++ found_in_text s by.slot.tail (commit_frames text tree)) → store_of_disk bytes ≡ Ok (s, written_store)
  stands step bytes reads = text-read s text before bytes by.found is.proper (known-frames s (store_after tree by.slot) on_disk file is.proper is.logs by step) reads

  -- a commit that has frames
  back : commit_frames text tree ≢ [] → IsReadBy by.slot.version text → AreInStep (store_after tree by.slot) on_disk → (now : Store) (bytes : List ℕ) → after_text s before file (commit_frames text tree) ≡ left now bytes → store_of_disk bytes ≡ Ok (s, now)
  back some read_by step now bytes h =
      let t : Slot = flush_slot s before (commit_frames text tree) in
      let full : Bool = is_full_for_flush s t.head t.tail in
      let file' : List ℕ = committed s file (spans s by.slot.tail (commit_frames text tree)) t in
      let done = commit-done t full written_store now file' bytes (sym (text-some s before file (commit_frames text tree) some) ∙ h) in
      let good = next-good_of s text before (kept-with s (version_with text) (store_after tree by.slot) is) within done.number done.tail done.room in
      let reads = text-reads s text tree by.slot within file by.found by.reads read_by good done.room in
      subst (λ (x : Store). store_of_disk bytes ≡ answer x) (sym done.store) (subst (λ (x : List ℕ). store_of_disk x ≡ answer written_store) (sym done.disk) (stands step file' reads))
    where
      answer : Store → Result (Settings × Store) Fault
      answer x = Ok (s, x)

-- the commit is read back
pub text-back : (s : Settings) (text : CommitKind) (st : Store) (file : List ℕ) → IsStoreOf s st file → HasFrames s text st.tree → IsReadBy st.version text → commit_frames text st.tree ≢ [] → (now : Store) (bytes : List ℕ)
    → after_text s (store_with (version_with text) st) file (commit_frames text st.tree) ≡ left now bytes → store_of_disk bytes ≡ Ok (s, now)
text-back s text st file is within read_by some now bytes h =
    let (on_disk, read, step) = is.step in
    let by : StandsBy s file on_disk = store-stands s file on_disk read in
    let slot : Slot = by.slot in
    let on_disk_is : on_disk ≡ store_after (tree_by_log slot (frames_in by.found)) slot = by.store in
    let same : store_after st.tree slot ≡ st = same_store st on_disk (tree_by_log slot (frames_in by.found)) slot step on_disk_is in
    back s text file st.tree on_disk by (subst (λ (x : Store). IsStore s x) (sym same) is.is) within some
    (subst (λ (v : Version). IsReadBy v text) (same_version st on_disk (tree_by_log slot (frames_in by.found)) slot step on_disk_is) read_by)
    (subst (λ (x : Store). AreInStep x on_disk) (sym same) step) now bytes
    (ap (λ (x : Store). after_text s x file (commit_frames text st.tree)) (same_with st on_disk (tree_by_log slot (frames_in by.found)) slot step on_disk_is (version_with text)) ∙ h)
