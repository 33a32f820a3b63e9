-- Why a flush or an upgrade is refused, and what one that was planned leaves.
use Rattle.std.specs.Prelude.{◌≡◌, ◌≢◌, ◌⊎◌, ◌≤◌, ℕ, suc, IsTrue, Bool, true, false, if◌then◌else◌, List, [], ◌∷◌, length, Result, Ok, Err, MatchResult, IfOk, IfErr}
use Rattle.std.proofs.Common.{refl, sym, ap, ◌∙◌, subst, inl, inr, arith}
use Rattle.keys.specs.declared.fault.Fault.{Fault}
use Rattle.keys.specs.declared.fault.Fault.TheVariants.{NoMemory, Device, Spent, Full, AlreadyUpgraded}
use Rattle.keys.specs.declared.settings.Settings.{Settings}
use Rattle.keys.specs.declared.version.Version.{Version}
use Rattle.keys.specs.declared.version.Version.TheVariants.{One, Two}
use Rattle.mapping.specs.Proper.{IsProper}
use Rattle.mapping.specs.Tree.{Tree, Store}
use Rattle.mapping.specs.TreeInMemory.{TreeInMemory, tree_of}
use Rattle.frame_codec.specs.Frame.{Frame}
use Rattle.flush_log.specs.AfterFlush.{slot_of, flush_slot, is_spent, store_after, after_text, after_flush, of_version_two, unless_upgraded, after_upgrade}
use Rattle.flush_log.specs.Commit.{committed, IsUncommitted}
use Rattle.flush_log.specs.CommitPlan.{AreImages, CommitPlan, next_slot, next_tail, IsPlanned, file_with, LeftOf}
use Rattle.flush_log.specs.Disk.{View, Kept, LeavesOnly}
use Rattle.flush_log.specs.FlushText.{version_with, commit_frames, flush_frames, upgrade_frames, HasFrames, flushed}
use Rattle.flush_log.specs.Images.{AreOfText}
use Rattle.flush_log.specs.Layout.{tail_after, spans, is_full_for_flush}
use Rattle.flush_log.specs.Segments.{disk_size}
use Rattle.flush_log.specs.Slot.{Slot, format_of}
use Rattle.flush_log.specs.declared.slot.LogEnds.{LogEnds}
use Rattle.flush_log.specs.declared.text.CommitKind.{CommitKind}
use Rattle.flush_log.specs.declared.text.CommitKind.TheVariants as texts
use Rattle.flush_log.proofs.AdmitLemmas.{commit-refused, commit-admitted}
use Rattle.flush_log.proofs.ViewLemmas.{weaker}
use Rattle.recovery.specs.InStep.{IsInStep, IsStore, IsStoreOf}
use Rattle.recovery.specs.StoreOfDisk.{store_of_disk}
use Rattle.recovery.proofs.FlushBack.{left, text-some}
use Rattle.engine.specs.Calls.{after_writing, IsOwnText, IsToWrite, WouldWrite, with_version, IsWriting}
use Rattle.engine.specs.State.{State, IsSound, store_in}
use Rattle.engine.proofs.CreateLemmas.{slot_with, opened-is}
use Rattle.engine.proofs.TextSteps.{IsWritingFault}

-- an empty text leaves all
pub nothing-flushed : (s : Settings) (st : Store) (file : List ℕ) → flush_frames st.version st.tree ≡ [] → after_flush s st file ≡ left st file
nothing-flushed s st file none = ap (after_text s st file) none

pub nothing-framed : (s : Settings) (version : Version) (t : Tree) → flush_frames version t ≡ [] → HasFrames s (texts.Flush version) t
nothing-framed s version t none = rw none tt

-- a text that is not empty has a frame
some_frame : (text : List Frame) → text ≢ [] → 1 ≤ length text
some_frame [] some = absurd (some refl)
some_frame (f ∷ fs) some = omega arith

-- images of a text that has something to write, for the slot that names its version
pub text-encoded : (s : Settings) (text : CommitKind) (st : Store) (u : Slot) (images : List (List (List ℕ))) → slot_of (with_version (version_with text) st) ≡ u
    → commit_frames text st.tree ≢ [] → AreOfText images (commit_frames text st.tree) → HasFrames s text st.tree → AreImages (format_of s u) (commit_frames text st.tree) images
text-encoded s text st u images is some of frames =
    subst (λ (v : Slot). AreImages (format_of s v) (commit_frames text st.tree) images) is (record { of = of; some = inr (some_frame (commit_frames text st.tree) some); within = frames })

-- the plan of the commit that adds the text to this slot's log is that of the store, where the slot is the store's
pub as-writing : (s : Settings) (text : CommitKind) (st : Store) (u : Slot) (r : Result CommitPlan Fault) → slot_of (with_version (version_with text) st) ≡ u
    → MatchResult r (λ m. IsPlanned s u (commit_frames text st.tree) m) (λ fault. (fault ≡ NoMemory) ⊎ (next_tail s u (commit_frames text st.tree) ≡ Err fault))
    → IfOk r (λ m. IsWriting text s st m)
    × IfErr r (λ fault. (fault ≡ NoMemory) ⊎ (next_tail s (slot_of (with_version (version_with text) st)) (commit_frames text st.tree) ≡ Err fault))
as-writing s text st u (Ok m) is p = (subst (λ (v : Slot). IsPlanned s v (commit_frames text st.tree) m) (sym is) p, tt)
as-writing s text st u (Err fault) is p = (tt, subst (λ (v : Slot). (fault ≡ NoMemory) ⊎ (next_tail s v (commit_frames text st.tree) ≡ Err fault)) (sym is) p)

-- a plan is refused by no device
not_device_by : (a b : Bool) (n : ℕ) (fault : Fault) → (let tail : Result ℕ Fault = Ok n in if a then Err Spent else (if b then Err Full else tail)) ≡ Err fault → fault ≢ Device
not_device_by true b n fault h e = absurd (cc)
not_device_by false true n fault h e = absurd (cc)
not_device_by false false n fault h e = absurd (cc)

pub never-device : (s : Settings) (t : Slot) (text : List Frame) (fault : Fault) → (fault ≡ NoMemory) ⊎ (next_tail s t text ≡ Err fault) → fault ≢ Device
never-device s t text fault (inl memory) e = absurd (cc)
never-device s t text fault (inr right) e =
    not_device_by (is_spent (next_slot s t text)) (is_full_for_flush s t.head (tail_after s t.tail text)) (tail_after s t.tail text) fault right e

-- ---- the two texts

-- where the text is due, what is left is what it leaves of the store with its version
writes-as : (text : CommitKind) (s : Settings) (st : Store) (file : List ℕ) → IsOwnText text st → IsToWrite text st
    → after_writing text s st file ≡ after_text s (with_version (version_with text) st) file (commit_frames text st.tree)
writes-as (texts.Flush version) s st file own due = ap (λ (v : Version). after_text s (with_version v st) file (flush_frames v st.tree)) (sym own)
writes-as texts.Upgrade s st file own due = ap (λ (v : Version). unless_upgraded v (after_text s (of_version_two st) file (upgrade_frames st.tree))) due

-- it has something to write
writes-some : (text : CommitKind) (s : Settings) (st : Store) → IsOwnText text st → IsToWrite text st → IsProper s st.tree
    → ((s : Settings) (t : Tree) → IsProper s t → upgrade_frames t ≢ []) → commit_frames text st.tree ≢ []
writes-some (texts.Flush version) s st own due proper upgrades = subst (λ (v : Version). flush_frames v st.tree ≢ []) (sym own) due
writes-some texts.Upgrade s st own due proper upgrades = upgrades s st.tree proper

-- this text of this store is to be written
pub record IsDue (text : CommitKind) (st : Store) : Type 0 where
  pub own : IsOwnText text st
  pub due : IsToWrite text st
  pub some : commit_frames text st.tree ≢ []

-- of the store in memory
pub due-of : {D : Type 0} (text : CommitKind) (s : Settings) (x y : State D) → x ≡ y → IsOwnText text y.store → IsToWrite text y.store → IsStore s x.store
    → ((s : Settings) (t : Tree) → IsProper s t → upgrade_frames t ≢ []) → IsDue text x.store
due-of {D = D} text s x y same own due is upgrades =
    let here : IsOwnText text x.store = subst (λ (z : State D). IsOwnText text z.store) (sym same) own in
    let there : IsToWrite text x.store = subst (λ (z : State D). IsToWrite text z.store) (sym same) due in
    record { own = here; due = there; some = writes-some text s x.store here there is.proper upgrades }

-- Until it is committed it isn't seen.
abbrev pub Hides : CommitKind → Settings → Store → Store → List ℕ → List ℕ → List ℕ → Type 0
Hides text s st now file bytes c =
    HasFrames s text st.tree → commit_frames text st.tree ≢ [] → after_writing text s st file ≡ Ok (now, bytes)
    → IsUncommitted s (suc st.sequence) (spans s st.tail (commit_frames text st.tree)) file c → store_of_disk c ≡ store_of_disk file

abbrev pub HidesWriting : CommitKind → Type 0
HidesWriting text = (s : Settings) (st now : Store) (file bytes c : List ℕ) → IsStoreOf s st file → IsOwnText text st → Hides text s st now file bytes c

pub hides : ((s : Settings) (st now : Store) (file bytes c : List ℕ) → IsStoreOf s st file → Hides (texts.Flush st.version) s st now file bytes c)
    → ((s : Settings) (st now : Store) (file bytes c : List ℕ) → IsStoreOf s st file → HasFrames s texts.Upgrade st.tree → after_upgrade s st file ≡ Ok (now, bytes)
    → IsUncommitted s (suc st.sequence) (spans s st.tail (upgrade_frames st.tree)) file c → store_of_disk c ≡ store_of_disk file)
    → (text : CommitKind) → HidesWriting text
hides flushes upgrades (texts.Flush version) s st now file bytes c is own = subst (λ (v : Version). Hides (texts.Flush v) s st now file bytes c) (sym own) (flushes s st now file bytes c is)
hides flushes upgrades texts.Upgrade s st now file bytes c is own = λ frames some done hid. upgrades s st now file bytes c is frames done hid

-- what it leaves of a store that is one as every store is
abbrev pub KeepsWritten : CommitKind → Type 0
KeepsWritten text = (s : Settings) (st now : Store) (file bytes : List ℕ) → IsStore s st → IsOwnText text st → HasFrames s text st.tree → after_writing text s st file ≡ Ok (now, bytes) → IsStore s now

pub keeps : ((s : Settings) (st now : Store) (file bytes : List ℕ) → IsStore s st → HasFrames s (texts.Flush st.version) st.tree → after_flush s st file ≡ Ok (now, bytes) → IsStore s now)
    → ((s : Settings) (st now : Store) (file bytes : List ℕ) → IsStore s st → HasFrames s texts.Upgrade st.tree → after_upgrade s st file ≡ Ok (now, bytes) → IsStore s now)
    → (text : CommitKind) → KeepsWritten text
keeps flushes upgrades (texts.Flush version) s st now file bytes is own frames = flushes s st now file bytes is (subst (λ (v : Version). HasFrames s (texts.Flush v) st.tree) own frames)
keeps flushes upgrades texts.Upgrade s st now file bytes is own frames = upgrades s st now file bytes is frames

-- and what the disk then stands for
abbrev pub ReadsWritten : CommitKind → Type 0
ReadsWritten text = (s : Settings) (st now : Store) (file bytes : List ℕ) → IsStoreOf s st file → IsOwnText text st → HasFrames s text st.tree → after_writing text s st file ≡ Ok (now, bytes)
    → (store_of_disk bytes ≡ Ok (s, now)) × IsStoreOf s now bytes

pub reads : ((s : Settings) (st now : Store) (file bytes : List ℕ) → IsStoreOf s st file → HasFrames s (texts.Flush st.version) st.tree → after_flush s st file ≡ Ok (now, bytes)
    → (store_of_disk bytes ≡ Ok (s, now)) × IsStoreOf s now bytes)
    → ((s : Settings) (st now : Store) (file bytes : List ℕ) → IsStoreOf s st file → HasFrames s texts.Upgrade st.tree → after_upgrade s st file ≡ Ok (now, bytes)
    → (store_of_disk bytes ≡ Ok (s, now)) × IsStoreOf s now bytes)
    → (text : CommitKind) → ReadsWritten text
reads flushes upgrades (texts.Flush version) s st now file bytes is own frames = flushes s st now file bytes is (subst (λ (v : Version). HasFrames s (texts.Flush v) st.tree) own frames)
reads flushes upgrades texts.Upgrade s st now file bytes is own frames = upgrades s st now file bytes is frames

-- ---- one that has something to write

-- the store before, or all that it leaves
abbrev BeforeOrAfter : CommitKind → Settings → Store → List ℕ → List ℕ → Type 0
BeforeOrAfter text s st file c = (store_of_disk c ≡ store_of_disk file) ⊎ ((now : Store) × (after_writing text s st file ≡ Ok (now, c)))

module _ (text : CommitKind) (s : Settings) (st : Store) (is : IsDue text st) where
  abbrev frames : List Frame
  frames = commit_frames text st.tree

  abbrev with_its : Store
  with_its = with_version (version_with text) st

  abbrev slot : Slot
  slot = flush_slot s with_its frames

  abbrev is_full : Bool
  is_full = is_full_for_flush s slot.head slot.tail

  abbrev now : Store
  now = store_after (flushed st.tree) slot

  as_text : (file : List ℕ) → after_writing text s st file ≡ after_text s with_its file frames
  as_text file = writes-as text s st file is.own is.due

  -- where no commit is planned
  pub refused-by-right : (fault : Fault) (file : List ℕ) → next_tail s (slot_of with_its) frames ≡ Err fault → after_writing text s st file ≡ Err fault
  refused-by-right fault file h = as_text file ∙ text-some s with_its file frames is.some ∙ commit-refused slot is_full now (committed s file (spans s st.tail frames) slot) fault h

  pub writing-refused : (fault : Fault) (file : List ℕ) (old new : ℕ) → (fault ≡ NoMemory) ⊎ (next_tail s (slot_of with_its) frames ≡ Err fault) → IsWritingFault text s st file old new fault
  writing-refused fault file old new (inl memory) = inr (inl (memory, is.due))
  writing-refused fault file old new (inr h) = inl (refused-by-right fault file h)

  module _ (m : CommitPlan) (p : IsWriting text s st m) where
    pub writing-done : (file : List ℕ) → after_writing text s st file ≡ left now (file_with s (slot_of with_its) frames file)
    writing-done file = as_text file ∙ text-some s with_its file frames is.some ∙ commit-admitted slot is_full now (committed s file (spans s st.tail frames) slot) p.unspent p.free

    pub writing-would : (file : List ℕ) → WouldWrite text s st file
    writing-would file = (is.due, now, file_with s (slot_of with_its) frames file, writing-done file)

    writing-left : (file c : List ℕ) → IsStoreOf s st file → HidesWriting text → LeftOf s (slot_of with_its) frames file c → BeforeOrAfter text s st file c
    writing-left file c store hidden (inl hid) = inl (hidden s st now file (file_with s (slot_of with_its) frames file) c store is.own p.encoded.within is.some (writing-done file) hid)
    writing-left file c store hidden (inr whole) = inr (now, writing-done file ∙ ap (left now) (sym whole))

    -- what a crash leaves
    pub writing-crashed : (old new : View) → IsStoreOf s st old.seen → HidesWriting text → LeavesOnly old new (LeftOf s (slot_of with_its) frames old.seen) → LeavesOnly old new (BeforeOrAfter text s st old.seen)
    writing-crashed old new store hidden run =
        weaker old new (LeftOf s (slot_of with_its) frames old.seen) (BeforeOrAfter text s st old.seen) (λ c h. writing-left old.seen c store hidden h) run

    -- in memory, where the log is kept as the commit's slot says
    pub written-now : (tree : TreeInMemory) (log : LogEnds) (root height : ℕ) (version : Version) → tree_of tree ≡ flushed st.tree → slot_with log root height version ≡ m.slot → (file : List ℕ)
        → after_writing text s st file ≡ left (store_in tree log version) (file_with s (slot_of with_its) frames file)
    written-now tree log root height version is_tree kept file =
        writing-done file
        ∙ ap (λ (x : Store). left x (file_with s (slot_of with_its) frames file))
        (ap (λ (t : Tree). store_after t slot) (sym is_tree) ∙ sym (opened-is tree slot log root height version (kept ∙ p.slot)))

pub on-bytes : (r : Result (Store × List ℕ) Fault) (now : Store) (bytes seen : List ℕ) → r ≡ left now bytes → seen ≡ bytes → r ≡ left now seen
on-bytes r now bytes seen done same = done ∙ ap (λ (b : List ℕ). left now b) (sym same)

-- only a log of version 2 is refused as upgraded already
never_upgraded : (s : Settings) (st : Store) (file : List ℕ) (text : List Frame) → after_text s st file text ≢ Err AlreadyUpgraded
never_upgraded s st file [] e = absurd (cc)
never_upgraded s st file (f ∷ fs) e =
    let t : Slot = flush_slot s st (f ∷ fs) in
    of (is_spent t) (is_full_for_flush s t.head t.tail) e
  where
    of : (a b : Bool) → (let t : Slot = flush_slot s st (f ∷ fs) in
        if a then Err Spent else (if b then Err Full else left (store_after (flushed st.tree) t) (committed s file (spans s st.tail (f ∷ fs)) t))) ≢ Err AlreadyUpgraded
    of true b h = absurd (cc)
    of false true h = absurd (cc)
    of false false h = absurd (cc)

pub upgraded-already : (s : Settings) (st : Store) (file : List ℕ) (old new : ℕ) → IsWritingFault texts.Upgrade s st file old new AlreadyUpgraded → st.version ≡ Two
upgraded-already s st file old new (inl right) = of st.version right
  where
    of : (version : Version) → unless_upgraded version (after_text s (of_version_two st) file (upgrade_frames st.tree)) ≡ Err AlreadyUpgraded → version ≡ Two
    of One h = absurd (never_upgraded s (of_version_two st) file (upgrade_frames st.tree) h)
    of Two h = refl
upgraded-already s st file old new (inr (inl memory)) = absurd (no memory.0)
  where
    no : AlreadyUpgraded ≢ NoMemory
    no e = cc
upgraded-already s st file old new (inr (inr device)) = absurd (no device.0)
  where
    no : AlreadyUpgraded ≢ Device
    no e = cc

-- ---- sound again

module _ {D : Type 0} (view : D → View) (text : CommitKind) (s : Settings) (st now : Store) (old new : D) (bytes : List ℕ)
    (was : IsSound view (record { settings = s; store = st; disk = old; has_failed = false })) (own : IsOwnText text st) (within : HasFrames s text st.tree)
    (kept : KeepsWritten text) (read : ReadsWritten text)
    (held : Kept (view old) (view new)) (done : after_writing text s st (view old).seen ≡ Ok (now, bytes)) (wrote : IsTrue (view old).is_honest → (view new).seen ≡ bytes) where
  pub written-sound : IsSound view (record { settings = s; store = now; disk = new; has_failed = false })
  written-sound = record {
    is = kept s st now (view old).seen bytes was.is own within done;
    room = subst (λ (n : ℕ). disk_size s ≤ n) (sym held.size) was.room;
    step = λ _ still. (
        let honest = subst IsTrue held.honest still in
        let back = read s st now (view old).seen bytes (record { is = was.is; step = was.step refl honest }) own within done in
        subst (λ (file : List ℕ). IsInStep s now file) (sym (wrote honest)) back.1.step);
  }
