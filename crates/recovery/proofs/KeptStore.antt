-- The effects of flushes, upgrades and batches on a store that satisfies the invariant of stores.
use Rattle.std.specs.Prelude.{◌≡◌, ◌≢◌, ℕ, ◌^◌, ◌<◌, ◌≤◌, List, [], ◌∷◌, Ok}
use Rattle.std.proofs.Common.{refl, sym, ap, ◌∙◌, subst}
use Rattle.keys.specs.declared.settings.Settings.{Settings}
use Rattle.keys.specs.declared.version.Version.TheVariants.{Two}
use Rattle.mapping.specs.Proper.{AreLogsTrue, IsProper}
use Rattle.mapping.specs.Tree.{Tree, Store, with_tree}
use Rattle.frame_codec.specs.Frame.{Frame}
use Rattle.flush_log.specs.AfterFlush.{slot_of, store_after, flush_slot, after_text, after_flush, after_upgrade, of_version_two}
use Rattle.flush_log.specs.Commit.{committed}
use Rattle.flush_log.specs.FlushText.{commit_frames, flush_frames, upgrade_frames, HasFrames, flushed}
use Rattle.flush_log.specs.Layout.{spans, is_full_for_flush}
use Rattle.flush_log.specs.Slot.{Slot}
use Rattle.flush_log.specs.declared.text.CommitKind.{CommitKind}
use Rattle.flush_log.specs.declared.text.CommitKind.TheVariants.{Flush, Upgrade}
use Rattle.flush_log.proofs.SlotLemmas.{IsSlot, slot-is, is-slot}
use Rattle.flush_log.proofs.UpgradeLemmas.{upgrade-some}
use Rattle.recovery.specs.InStep.{KeepsLogged, IsStore, IsStoreOf}
use Rattle.recovery.specs.StoreOfDisk.{store_of_disk}
use Rattle.recovery.proofs.FlushBack.{IsCommitted, left, commit-done, upgrade-done, read-upgraded, next-good_of, kept-with, text-back}
use Rattle.recovery.proofs.FlushLemmas.{proper-flushed}
use Rattle.recovery.proofs.NothingDue.{nothing-due, all-written, logs-in_log}
use Rattle.recovery.proofs.ReadStore.{store-read}
use Rattle.recovery.proofs.StepLemmas.{kept-in_step}

-- ---- a commit

-- the result of this commit for a store: unchanged, if there was nothing to write; else the committed store
data IsWritten (s : Settings) (text : CommitKind) (st now : Store) (file bytes : List ℕ) : Type 0 where
  Nothing : commit_frames text st.tree ≡ [] → now ≡ st → IsWritten s text st now file bytes
  Something : (let t : Slot = flush_slot s st (commit_frames text st.tree) in
      IsCommitted t (is_full_for_flush s t.head t.tail) (store_after (flushed st.tree) t) (committed s file (spans s st.tail (commit_frames text st.tree)) t) now bytes) → IsWritten s text st now file bytes

is_written : (s : Settings) (text : CommitKind) (st now : Store) (file bytes : List ℕ) (frames : List Frame) → commit_frames text st.tree ≡ frames → after_text s st file frames ≡ left now bytes → IsWritten s text st now file bytes
is_written s text st now file bytes [] none h =
    let same : (let p : Store × List ℕ = (now, bytes) in p ≡ (st, file)) = cc in
    Nothing none (ap (λ (p : Store × List ℕ). p.0) same)
is_written s text st now file bytes (f ∷ fs) some h =
    let t : Slot = flush_slot s st (f ∷ fs) in
    let done = commit-done t (is_full_for_flush s t.head t.tail) (store_after (flushed st.tree) t) now (committed s file (spans s st.tail (f ∷ fs)) t) bytes h in
    Something (subst (λ (frames : List Frame). Done frames) (sym some) done)
  where
    Done : List Frame → Type 0
    Done frames = (let t : Slot = flush_slot s st frames in IsCommitted t (is_full_for_flush s t.head t.tail) (store_after (flushed st.tree) t) (committed s file (spans s st.tail frames) t) now bytes)

module _ (s : Settings) (text : CommitKind) (st now : Store) (file bytes : List ℕ) (h : after_text s st file (commit_frames text st.tree) ≡ left now bytes) where
  -- the tree is the one that the disk then has
  text-tree : (commit_frames text st.tree ≡ [] → flushed st.tree ≡ st.tree) → now.tree ≡ flushed st.tree
  text-tree as_it_was = of (is_written s text st now file bytes (commit_frames text st.tree) refl h)
    where
      of : IsWritten s text st now file bytes → now.tree ≡ flushed st.tree
      of (Nothing none same) = ap (λ (x : Store). x.tree) same ∙ sym (as_it_was none)
      of (Something done) = ap (λ (x : Store). x.tree) done.store

  -- the store still satisfies the invariant of stores, whatever its disk does
  text-kept : IsStore s st → HasFrames s text st.tree → IsStore s now
  text-kept is within = of (is_written s text st now file bytes (commit_frames text st.tree) refl h)
    where
      of : IsWritten s text st now file bytes → IsStore s now
      of (Nothing none same) = subst (λ (x : Store). IsStore s x) (sym same) is
      of (Something done) =
          subst (λ (x : Store). IsStore s x) (sym done.store) (record {
            good = is.good;
            proper = proper-flushed s st.tree is.proper;
            logs = logs-in_log st.tree.pages st.tree.root st.tree.height is.proper.tree.rising;
            slot = next-good_of s text st is within done.number done.tail done.room;
          })

-- ---- a flush

module _ (s : Settings) (st : Store) (file : List ℕ) (is : IsStoreOf s st file) (within : HasFrames s (Flush st.version) st.tree) where
  -- without frames nothing is written
  none_by : (now : Store) (bytes : List ℕ) → store_of_disk file ≡ Ok (s, st) → left st file ≡ left now bytes → store_of_disk bytes ≡ Ok (s, now)
  none_by now bytes here h =
      let same : (let p : Store × List ℕ = (st, file) in p ≡ (now, bytes)) = cc in
      subst (λ (p : Store × List ℕ). store_of_disk p.1 ≡ Ok (s, p.0)) same here

  some_frame : (f : Frame) (fs : List Frame) → f ∷ fs ≢ []
  some_frame f fs e = absurd (cc)

  read_by : (text : List Frame) → flush_frames st.version st.tree ≡ text → (now : Store) (bytes : List ℕ) → after_flush s st file ≡ left now bytes → store_of_disk bytes ≡ Ok (s, now)
  read_by [] e now bytes h =
      let nothing : left st file ≡ left now bytes = sym (ap (after_text s st file) e) ∙ h in
      none_by now bytes (all-written s st file is.is.proper is.is.logs is.step e) nothing
  read_by (f ∷ fs) e now bytes h = text-back s (Flush st.version) st file is within (λ r bs head tail found e. e) (λ none. some_frame f fs (sym e ∙ none)) now bytes h

  -- the disk after a flush encodes the store after it
  pub flush-read_back : (now : Store) (bytes : List ℕ) → after_flush s st file ≡ left now bytes → (store_of_disk bytes ≡ Ok (s, now)) × IsStoreOf s now bytes
  flush-read_back now bytes h = let read = read_by (flush_frames st.version st.tree) refl now bytes h in (read, store-read s now bytes read)

pub flushed-tree : (s : Settings) (st now : Store) (file bytes : List ℕ) → IsStore s st → after_flush s st file ≡ left now bytes → now.tree ≡ flushed st.tree
flushed-tree s st now file bytes is h = text-tree s (Flush st.version) st now file bytes h (λ none. nothing-due st.tree is.proper.tree.rising is.logs st.version none)

pub flush-kept : (s : Settings) (st now : Store) (file bytes : List ℕ) → IsStore s st → HasFrames s (Flush st.version) st.tree → after_flush s st file ≡ left now bytes → IsStore s now
flush-kept s st now file bytes is within h = text-kept s (Flush st.version) st now file bytes h is within

-- ---- an upgrade

module _ (s : Settings) (st now : Store) (file bytes : List ℕ) (h : after_upgrade s st file ≡ left now bytes) where
  upgraded : after_text s (of_version_two st) file (upgrade_frames st.tree) ≡ left now bytes
  upgraded = upgrade-done st.version (after_text s (of_version_two st) file (upgrade_frames st.tree)) now bytes h

  -- the disk after an upgrade encodes the store after it
  pub upgrade-read_back : IsStoreOf s st file → HasFrames s Upgrade st.tree → (store_of_disk bytes ≡ Ok (s, now)) × IsStoreOf s now bytes
  upgrade-read_back is within =
      let read = text-back s Upgrade st file is within (read-upgraded st.version) (upgrade-some s st.tree is.is.proper) now bytes upgraded in
      (read, store-read s now bytes read)

  pub upgraded-tree : IsStore s st → now.tree ≡ flushed st.tree
  upgraded-tree is = text-tree s Upgrade (of_version_two st) now file bytes upgraded (λ none. absurd (upgrade-some s st.tree is.proper none))

  pub upgrade-kept : IsStore s st → HasFrames s Upgrade st.tree → IsStore s now
  upgrade-kept is within = text-kept s Upgrade (of_version_two st) now file bytes upgraded (kept-with s Two st is) within

-- ---- a batch

-- the store with a new tree satisfies the invariant, if the tree is proper and its log states are true
pub batch-kept : (s : Settings) (st : Store) (new : Tree) → IsStore s st → IsProper s new → AreLogsTrue new → new.root < 2 ^ 64 → new.height ≤ 64
    → IsStore s (with_tree st new)
batch-kept s st new is proper logs root height =
    let was : IsSlot s st.sequence (slot_of st) = slot-is s st.sequence (slot_of st) is.slot in
    let now : Store = with_tree st new in
    record {
      good = is.good;
      proper = proper;
      logs = logs;
      slot = is-slot s st.sequence (slot_of now) (record {
        sequence = was.sequence;
        own = was.own;
        following = was.following;
        tail = was.tail;
        ends = was.ends;
        last = was.last;
        root = root;
        height = (proper.tree.some, height);
      });
    }

-- a store whose new tree keeps the log states stays in step
pub batch-in_step : (s : Settings) (st : Store) (new : Tree) (file : List ℕ) → IsStoreOf s st file → IsProper s new → AreLogsTrue new → new.root < 2 ^ 64 → new.height ≤ 64 → KeepsLogged st.tree new
    → IsStoreOf s (with_tree st new) file
batch-in_step s st new file is proper logs root height keeps =
    let (on_disk, read, step) = is.step in
    record { is = batch-kept s st new is.is proper logs root height; step = (on_disk, read, kept-in_step st new on_disk keeps step) }
