-- The disk after a clean encodes the same store as before, with the head one greater.
use Rattle.std.specs.Prelude.{◌≡◌, ◌≢◌, ℕ, suc, ◌*◌, ◌<◌, ◌≤◌, Bool, true, false, nat_eq, if◌then◌else◌, List, [], ◌∷◌, ◌++◌, Option, Some, None, Result, Ok, Err}
use Rattle.std.proofs.Common.{refl, sym, ap, ◌∙◌, arith, subst, inl, inr}
use Rattle.std.proofs.Math.Nat.{mul-le-mul_right}
use Rattle.std.proofs.lemmas.Bool.{cases_lt, eqb-false, eq-eqb, ne_eqb}
use Rattle.std.specs.List.{AllByRecursion}
use Rattle.keys.specs.Limits.{first_bad_field}
use Rattle.keys.specs.declared.fault.Fault.{Fault}
use Rattle.keys.specs.declared.fault.Fault.TheVariants.{NothingToClean}
use Rattle.keys.specs.declared.settings.Settings.{Settings}
use Rattle.keys.specs.Results.{and_then}
use Rattle.index_page.proofs.ListLemmas.{all_weaker}
use Rattle.mapping.specs.Finding.{Finding, finding}
use Rattle.mapping.specs.Tree.{Tree, Store, with_tree}
use Rattle.frame_codec.specs.Frame.{Frame, is_frame}
use Rattle.frame_codec.specs.declared.format.Format.{Format}
use Rattle.flush_log.specs.AfterFlush.{slot_of, store_after}
use Rattle.flush_log.specs.Commit.{HasRoom, committed}
use Rattle.flush_log.specs.FlushText.{tree_in_log}
use Rattle.flush_log.specs.Layout.{tail_after, found_in_text, spans, is_full_for_clean}
use Rattle.flush_log.specs.Reading.{Found, all_in, log}
use Rattle.flush_log.specs.Segments.{last_segment}
use Rattle.flush_log.specs.Slot.{Slot, format_of, greatest, slot_in, store_slot}
use Rattle.flush_log.proofs.FitLemmas.{are_sized}
use Rattle.flush_log.proofs.HeadLemmas.{HeadOff, head-off}
use Rattle.flush_log.proofs.LayoutLemmas.{split-tail}
use Rattle.flush_log.proofs.NextSlotLemmas.{next_good}
use Rattle.flush_log.proofs.OutcomeLemmas.{slot_good, text-fits, after-log, after-settings, after-slot}
use Rattle.flush_log.proofs.ReadBackLemmas.{text-back}
use Rattle.flush_log.proofs.SettingsLemmas.{store_settings-are}
use Rattle.flush_log.proofs.SlotLemmas.{IsSlot, slot-is, slot_stands, store_slot-read, slot-stands}
use Rattle.flush_log.proofs.TailLemmas.{room-for-clean}
use Rattle.recovery.specs.InStep.{AreInStep, IsInStep, IsStore, IsStoreOf}
use Rattle.recovery.specs.LogPages.{pages_of, broken_in}
use Rattle.recovery.specs.StoreOfDisk.{unless_found, frames_in, tree_by_log, store_of_disk}
use Rattle.recovery.proofs.FlushBack.{IsCommitted, left, commit-done, same_store}
use Rattle.recovery.proofs.FlushLemmas.{frames-text}
use Rattle.recovery.proofs.StoreLemmas.{Reads, StandsBy, store-stands, stands-for, ok-then}
use Rattle.cleaner.specs.AfterClean.{slot_on_disk, clean_slot, after_carried, after_clean_of, after_clean}
use Rattle.cleaner.specs.CleanText.{clean_frames}
use Rattle.recovery.proofs.FoundWithin.{log-within}
use Rattle.cleaner.proofs.CleanLemmas.{pages-cleaned, sound-cleaned, all-clean_frames}

-- ---- segments of what is found

in_head : (n : ℕ) (fs : List Frame) → AllByRecursion (λ f. nat_eq f.segment n ≡ true) (all_in n fs)
in_head n [] = tt
in_head n (f ∷ fs) = (eq-eqb n n refl, in_head n fs)

-- ---- what is read afterwards

module _ (s : Settings) (file : List ℕ) (slot : Slot) (found : List Found) (reads : Reads s file slot found) (more : slot.head < last_segment s slot.tail) (within : AllByRecursion (λ f. is_frame (format_of s slot) f.frame ≡ true) found) (sound : broken_in (frames_in found) ≡ None)
    (proper : finding s (tree_by_log slot (frames_in found)) ≡ None) where
  abbrev g : Format
  g = format_of s slot

  abbrev text : List Frame
  text = clean_frames slot.head found

  -- the slot of a clean of this log
  abbrev next : Slot
  next = record { sequence = suc slot.sequence; head = suc slot.head; tail = tail_after s slot.tail text; root = slot.root; height = slot.height; version = slot.version }

  abbrev file' : List ℕ
  file' = committed s file (spans s slot.tail text) next

  abbrev off : HeadOff g file slot.head slot.tail found more reads.log
  off = head-off g file slot.head slot.tail found more reads.log

  pub room_for : is_full_for_clean s slot.head next.tail ≡ false → HasRoom g file slot text
  room_for free =
      let (block, good, whole) = store_settings-are file s reads.settings in
      record { good = good; whole = whole; slot = reads.slot; within = all-clean_frames (λ f. is_frame g f ≡ true) slot.head found within; free = room-for-clean s slot.head next.tail free }

  clean-reads : next.sequence ≤ greatest → next.tail ≤ greatest → is_full_for_clean s slot.head next.tail ≡ false → Reads s file' next (off.rest ++ found_in_text s slot.tail text)
  clean-reads number small free =
      let room = room_for free in
      let good = room.good in
      let sized = are_sized s good in
      let size = sized.least_size in
      let count = sized.least_count in
      let whole = room.whole in
      let last = room.free in
      let fits = text-fits g file slot text room in
      let was : IsSlot s slot.sequence slot = slot_good g file slot text room in
      let following = was.following in
      let split = split-tail s slot.head slot.tail (omega arith) (omega arith) in
      let is = split.is in
      let low = split.low in
      let above : suc slot.head * s.seg_size ≤ last_segment s slot.tail * s.seg_size = mul-le-mul_right s.seg_size (omega arith) in
      record {
        settings = after-settings s file (spans s slot.tail text) next (omega (arith, whole)) fits ∙ reads.settings;
        slot = after-slot s file (spans s slot.tail text) next (omega (arith, whole)) fits slot (omega (arith, size)) reads.slot refl
            (next_good g slot.sequence slot next text good was room.within refl number refl small (omega arith) (omega arith) (omega (arith, last)) was.root was.height.0 was.height.1);
        log = after-log g file (spans s slot.tail text) next whole fits (omega (arith, count)) (suc slot.head) next.tail
            ∙ text-back g good file (suc slot.head) slot.tail off.rest text whole room.within (omega (arith, is, low, above)) off.read_on (omega (arith, last));
      }

  -- the frames afterwards have the pages that there were
  frames-after : frames_in (off.rest ++ found_in_text s slot.tail text) ≡ frames_in off.rest ++ clean_frames slot.head (all_in slot.head off.here ++ off.rest)
  frames-after = frames-text s slot.tail off.rest text ∙ ap (λ (fs : List Found). frames_in off.rest ++ clean_frames slot.head fs) off.all

  later : AllByRecursion (λ f. nat_eq f.segment slot.head ≡ false) off.rest
  later = all_weaker (λ f. (suc slot.head ≤ f.segment) × (f.segment ≤ last_segment s slot.tail)) (λ f. nat_eq f.segment slot.head ≡ false) (λ f h. ne_eqb f.segment slot.head (λ e. let l = h.0 in omega (arith, l, e))) off.rest off.later

  sound_parts : broken_in (frames_in (all_in slot.head off.here ++ off.rest)) ≡ None
  sound_parts = ap (λ (fs : List Found). broken_in (frames_in fs)) (sym off.all) ∙ sound

  pages-same : pages_of (frames_in (off.rest ++ found_in_text s slot.tail text)) ≡ pages_of (frames_in found)
  pages-same =
      ap pages_of frames-after
      ∙ pages-cleaned slot.head (all_in slot.head off.here) off.rest (in_head slot.head off.here) later sound_parts
      ∙ ap (λ (fs : List Found). pages_of (frames_in fs)) (sym off.all)

  sound-same : broken_in (frames_in (off.rest ++ found_in_text s slot.tail text)) ≡ None
  sound-same = ap broken_in frames-after ∙ sound-cleaned slot.head (all_in slot.head off.here) off.rest (in_head slot.head off.here) later sound_parts

  -- so the disk encodes the same tree
  pub clean-read : next.sequence ≤ greatest → next.tail ≤ greatest → is_full_for_clean s slot.head next.tail ≡ false → store_of_disk file' ≡ Ok (s, store_after (tree_by_log slot (frames_in found)) next)
  clean-read number small free =
      let all : List Found = off.rest ++ found_in_text s slot.tail text in
      let tree : tree_by_log next (frames_in all) ≡ tree_by_log slot (frames_in found) = ap (λ ps. tree_in_log ps slot.root slot.height) pages-same in
      stands-for s file' next all (clean-reads number small free) sound-same (ap (λ (t : Tree). finding s t) tree ∙ proper)
      ∙ ap (λ (t : Tree). done t next) tree
    where
      done : Tree → Slot → Result (Settings × Store) Fault
      done t u = Ok (s, store_after t u)

-- ---- the law

pub slot-same : (s : Settings) (file : List ℕ) (slot : Slot) → first_bad_field s ≡ None → store_slot s file ≡ Ok slot → slot_on_disk slot.sequence file ≡ slot
slot-same s file slot good is =
    let size = (are_sized s good).least_size in
    let stands = slot-stands s slot.sequence slot file (store_slot-read s file slot is) in
    ap slot_in stands.bytes ∙ slot_stands s slot.sequence slot (omega (arith, size)) (slot-is s slot.sequence slot stands.good)

unless-ok : {X Y : Type 0} (o : Option Finding) (x : X) (next : X → Result Y Fault) (y : Y) → and_then (unless_found o x) next ≡ Ok y → (o ≡ None) × (next x ≡ Ok y)
unless-ok None x next y e = (refl, e)
unless-ok (Some f) x next y e = absurd (cc)

some-segments : (b : Bool) (r : Result (Store × List ℕ) Fault) (now : Store) (bytes : List ℕ) → (if b then Err NothingToClean else r) ≡ left now bytes → (b ≡ false) × (r ≡ left now bytes)
some-segments true r now bytes e = absurd (cc)
some-segments false r now bytes e = (refl, e)

-- a clean that doesn't fail: what was read, and what was committed
pub record IsClean (s : Settings) (st : Store) (file : List ℕ) (now : Store) (bytes : List ℕ) : Type 0 where
  pub more : st.head ≢ last_segment s st.tail
  pub found : List Found
  pub read : log s file (slot_of st) ≡ Ok found
  pub sound : broken_in (frames_in found) ≡ None
  pub done : IsCommitted (clean_slot s st file (clean_frames st.head found)) (is_full_for_clean s st.head (clean_slot s st file (clean_frames st.head found)).tail)
      (store_after st.tree (clean_slot s st file (clean_frames st.head found))) (committed s file (spans s st.tail (clean_frames st.head found)) (clean_slot s st file (clean_frames st.head found))) now bytes

pub clean-done : (s : Settings) (st : Store) (file : List ℕ) (now : Store) (bytes : List ℕ) → after_clean s st file ≡ left now bytes → IsClean s st file now bytes
clean-done s st file now bytes e =
    let (some, goes) = some-segments (nat_eq st.head (last_segment s st.tail)) (and_then (log s file (slot_of st)) (after_clean_of s st file)) now bytes e in
    let (found, read, rest) = ok-then (log s file (slot_of st)) (after_clean_of s st file) (now, bytes) goes in
    let (sound, done) = unless-ok (broken_in (frames_in found)) (clean_frames st.head found) (after_carried s st file) (now, bytes) rest in
    let t : Slot = clean_slot s st file (clean_frames st.head found) in
    record {
      more = eqb-false st.head (last_segment s st.tail) some;
      found = found;
      read = read;
      sound = sound;
      done = commit-done t (is_full_for_clean s st.head t.tail) (store_after st.tree t) now (committed s file (spans s st.tail (clean_frames st.head found)) t) bytes done;
    }

-- the store and its disk afterwards, where the disk encodes this tree
abbrev pub StandsStill : Settings → Tree → Store → List ℕ → Type 0
StandsStill s tree now bytes = (store_of_disk bytes ≡ Ok (s, with_tree now tree)) × IsInStep s now bytes

-- the slot of a clean, of the slot before
abbrev pub next_of : Slot → Settings → List Frame → Slot
next_of slot s text = record { sequence = suc slot.sequence; head = suc slot.head; tail = tail_after s slot.tail text; root = slot.root; height = slot.height; version = slot.version }

module _ (s : Settings) (file : List ℕ) (tree : Tree) (on_disk : Store) (by : StandsBy s file on_disk) where
  abbrev slot_head_differs : Type 0
  slot_head_differs = by.slot.head ≢ last_segment s by.slot.tail

  same_step : (u : Slot) → AreInStep (store_after tree by.slot) on_disk → AreInStep (store_after tree u) (store_after on_disk.tree u)
  same_step u step = record { head = refl; tail = refl; sequence = refl; version = refl; none = step.none; upto = step.upto }

  pub same_found : (found : List Found) → log s file by.slot ≡ Ok found → by.found ≡ found
  same_found found read =
      let both : (let mine : Result (List Found) Fault = Ok by.found in mine ≡ Ok found) = sym by.reads.log ∙ read in
      cc

  -- the head is not the last segment in use
  more_in_use : slot_head_differs → by.slot.head < last_segment s by.slot.tail
  more_in_use differ =
      let slot : Slot = by.slot in
      let (block, good, whole) = store_settings-are file s by.reads.settings in
      let size = (are_sized s good).least_size in
      let was : IsSlot s slot.sequence slot = slot-is s slot.sequence slot (slot-stands s slot.sequence slot file (store_slot-read s file slot by.reads.slot)).good in
      let following = was.following in
      let from = (split-tail s slot.head slot.tail (omega arith) (omega arith)).from in
      elim (cases_lt slot.head (last_segment s slot.tail)) [ inl k ↦ k | inr k ↦ absurd (differ (omega (arith, from))) ]

  -- a clean of what was read of this disk
  pub record IsCleanOf (now : Store) (bytes : List ℕ) : Type 0 where
    pub found : List Found
    pub same : by.found ≡ found
    pub reads : Reads s file by.slot found
    pub more : by.slot.head < last_segment s by.slot.tail
    pub sound : broken_in (frames_in found) ≡ None
    pub is_next : clean_slot s (store_after tree by.slot) file (clean_frames by.slot.head found) ≡ next_of by.slot s (clean_frames by.slot.head found)
    pub done : IsCommitted (next_of by.slot s (clean_frames by.slot.head found)) (is_full_for_clean s by.slot.head (next_of by.slot s (clean_frames by.slot.head found)).tail) (store_after tree (next_of by.slot s (clean_frames by.slot.head found)))
        (committed s file (spans s by.slot.tail (clean_frames by.slot.head found)) (next_of by.slot s (clean_frames by.slot.head found))) now bytes

  pub clean-of : (now : Store) (bytes : List ℕ) → after_clean s (store_after tree by.slot) file ≡ left now bytes → IsCleanOf now bytes
  clean-of now bytes e =
      let slot : Slot = by.slot in
      let c : IsClean s (store_after tree by.slot) file now bytes = clean-done s (store_after tree by.slot) file now bytes e in
      let text : List Frame = clean_frames slot.head c.found in
      let (block, good, whole) = store_settings-are file s by.reads.settings in
      let is_next : clean_slot s (store_after tree by.slot) file text ≡ next_of slot s text =
      ap (λ (u : Slot). (let t : Slot = record { sequence = suc slot.sequence; head = suc slot.head; tail = tail_after s slot.tail text; root = u.root; height = u.height; version = slot.version } in t)) (slot-same s file slot good by.reads.slot) in
      record {
        found = c.found;
        same = same_found c.found c.read;
        reads = record { settings = by.reads.settings; slot = by.reads.slot; log = c.read };
        more = more_in_use c.more;
        sound = c.sound;
        is_next = is_next;
        done = subst (λ (t : Slot). IsCommitted t (is_full_for_clean s slot.head t.tail) (store_after tree t) (committed s file (spans s slot.tail text) t) now bytes) is_next c.done;
      }

  clean_back : AreInStep (store_after tree by.slot) on_disk → (now : Store) (bytes : List ℕ) → after_clean s (store_after tree by.slot) file ≡ left now bytes → StandsStill s on_disk.tree now bytes
  clean_back step now bytes e =
      let slot : Slot = by.slot in
      let c : IsCleanOf now bytes = clean-of now bytes e in
      let found : List Found = c.found in
      let done = c.done in
      let next : Slot = next_of slot s (clean_frames slot.head found) in
      let proper = subst (λ (fs : List Found). finding s (tree_by_log slot (frames_in fs)) ≡ None) c.same by.proper in
      let read = clean-read s file slot found c.reads c.more (log-within (format_of s slot) file slot.head slot.tail found c.reads.log) c.sound proper done.number done.tail done.room in
      let kept : tree_by_log slot (frames_in found) ≡ on_disk.tree = ap (λ (fs : List Found). tree_by_log slot (frames_in fs)) (sym c.same) ∙ ap (λ (x : Store). x.tree) (sym by.store) in
      let file' : List ℕ = committed s file (spans s slot.tail (clean_frames slot.head found)) next in
      let stands : store_of_disk file' ≡ Ok (s, store_after on_disk.tree next) = read ∙ ap (λ (t : Tree). ended t next) kept in
      let whole : StandsStill s on_disk.tree (store_after tree next) file' = (stands, (store_after on_disk.tree next, stands, same_step next step)) in
      subst (λ (x : Store). StandsStill s on_disk.tree x bytes) (sym done.store) (subst (λ (x : List ℕ). StandsStill s on_disk.tree (store_after tree next) x) (sym done.disk) whole)
    where
      ended : Tree → Slot → Result (Settings × Store) Fault
      ended t u = Ok (s, store_after t u)

-- a clean keeps the store of the disk, and the store in memory in step with it
pub clean-back : (s : Settings) (st on_disk : Store) (file : List ℕ) → store_of_disk file ≡ Ok (s, on_disk) → AreInStep st on_disk → (now : Store) (bytes : List ℕ) → after_clean s st file ≡ left now bytes
    → StandsStill s on_disk.tree now bytes
clean-back s st on_disk file is are now bytes h =
    let by : StandsBy s file on_disk = store-stands s file on_disk is in
    let same : store_after st.tree by.slot ≡ st = same_store st on_disk (tree_by_log by.slot (frames_in by.found)) by.slot are by.store in
    clean_back s file st.tree on_disk by (subst (λ (x : Store). AreInStep x on_disk) (sym same) are) now bytes (ap (λ (x : Store). after_clean s x file) same ∙ h)

-- the effect of a clean on the store in memory
pub cleaned-store : (s : Settings) (st now : Store) (file bytes : List ℕ) → after_clean s st file ≡ left now bytes → (now.tree ≡ st.tree) × (now.head ≡ suc st.head) × (now.sequence ≡ suc st.sequence) × (now.version ≡ st.version)
cleaned-store s st now file bytes h =
    let store = (clean-done s st file now bytes h).done.store in
    (ap (λ (x : Store). x.tree) store, ap (λ (x : Store). x.head) store, ap (λ (x : Store). x.sequence) store, ap (λ (x : Store). x.version) store)

-- it still satisfies the invariant of stores, whatever its disk does
pub clean-kept : (s : Settings) (st now : Store) (file bytes : List ℕ) → IsStore s st → after_clean s st file ≡ left now bytes → IsStore s now
clean-kept s st now file bytes is h =
    let c : IsClean s st file now bytes = clean-done s st file now bytes h in
    let done = c.done in
    let text : List Frame = clean_frames st.head c.found in
    let t : Slot = clean_slot s st file text in
    let g : Format = format_of s (slot_of st) in
    let was : IsSlot s st.sequence (slot_of st) = slot-is s st.sequence (slot_of st) is.slot in
    let size = (are_sized s is.good).least_size in
    let following = was.following in
    let from = (split-tail s st.head st.tail (omega arith) (omega arith)).from in
    let more : st.head < last_segment s st.tail = elim (cases_lt st.head (last_segment s st.tail)) [ inl k ↦ k | inr k ↦ absurd (c.more (omega (arith, from))) ] in
    let free = room-for-clean s st.head t.tail done.room in
    let within = all-clean_frames (λ f. is_frame g f ≡ true) st.head c.found (log-within g file st.head st.tail c.found c.read) in
    subst (λ (x : Store). IsStore s x) (sym done.store) (record {
      good = is.good;
      proper = is.proper;
      logs = is.logs;
      slot = next_good g st.sequence (slot_of st) (slot_of (store_after st.tree t)) text is.good was within refl done.number refl done.tail (omega arith) (omega (arith, more)) (omega (arith, free)) was.root was.height.0 was.height.1;
    })

-- and stays in step
pub clean-in_step : (s : Settings) (st now : Store) (file bytes : List ℕ) → IsStoreOf s st file → after_clean s st file ≡ left now bytes → IsStoreOf s now bytes
clean-in_step s st now file bytes is h =
    let (on_disk, read, step) = is.step in
    record { is = clean-kept s st now file bytes is.is h; step = (clean-back s st on_disk file read step now bytes h).1 }
