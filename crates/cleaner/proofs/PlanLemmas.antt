-- Facts about a clean that is planned, or fails.
use Rattle.std.specs.Prelude.{◌≡◌, ◌≢◌, ◌⊎◌, ℕ, suc, ◌*◌, ◌<◌, ◌≤◌, Bool, true, if◌then◌else◌, List, [], length, take, drop, None, Option, Some, Result, Ok, Err, MatchResult}
use Rattle.std.proofs.Common.{sym, ap, ◌∙◌, arith, subst, inl, inr}
use Rattle.std.proofs.Math.Nat.{mul-le-mul_right}
use Rattle.std.proofs.lemmas.Bool.{cases_lt, ne_eqb, eq-eqb}
use Rattle.keys.specs.Limits.{first_bad_field}
use Rattle.keys.specs.declared.fault.Fault.{Fault}
use Rattle.keys.specs.declared.fault.Fault.TheVariants.{NoMemory, BadStructure, NothingToClean}
use Rattle.keys.specs.declared.settings.Settings.{Settings}
use Rattle.keys.specs.declared.version.Version.{Version}
use Rattle.keys.specs.Results.{and_then}
use Rattle.mapping.specs.Finding.{Finding}
use Rattle.mapping.specs.Tree.{Store}
use Rattle.frame_codec.specs.Frame.{Frame, is_frame}
use Rattle.frame_codec.specs.declared.format.Format.{Format}
use Rattle.flush_log.specs.AfterFlush.{slot_of, store_after}
use Rattle.flush_log.specs.Commit.{committed}
use Rattle.flush_log.specs.CommitPlan.{AreImages, CommitPlan, IsPlanned, next_tail, file_with}
use Rattle.flush_log.specs.Disk.{HasFailed}
use Rattle.flush_log.specs.Ends.{ends_of, AreEnds}
use Rattle.flush_log.specs.Images.{AreOfText, admitted}
use Rattle.flush_log.specs.Layout.{spans, is_full_for_clean}
use Rattle.flush_log.specs.Overlay.{overlay, IsBeside, AgreeAt}
use Rattle.flush_log.specs.Reading.{Found, log_between, log}
use Rattle.flush_log.specs.Segments.{last_segment}
use Rattle.flush_log.specs.Slot.{Slot, format_of, greatest, slot_place, slot_in}
use Rattle.flush_log.specs.declared.slot.LogEnds.{LogEnds}
use Rattle.flush_log.proofs.AdmitLemmas.{commit-refused, commit-admitted}
use Rattle.flush_log.proofs.CommitLemmas.{slot_low}
use Rattle.flush_log.proofs.FitLemmas.{are_sized}
use Rattle.flush_log.proofs.LayoutLemmas.{split-tail}
use Rattle.flush_log.proofs.OverlayLemmas.{overlay-part, overlay-beside, agree_less}
use Rattle.flush_log.proofs.PlannedLemmas.{head-low}
use Rattle.flush_log.proofs.TailLemmas.{clean-is-flush}
use Rattle.recovery.specs.LogPages.{broken_in}
use Rattle.recovery.specs.Recovered.{IsLate}
use Rattle.recovery.specs.StoreOfDisk.{unless_found, frames_in}
use Rattle.recovery.proofs.FoundWithin.{log-within}
use Rattle.cleaner.specs.AfterClean.{slot_on_disk, clean_slot, after_carried, after_clean_of, after_clean}
use Rattle.cleaner.specs.Cleaned.{IsCleanFault, IsRefused, IsRead, cleaned_slot, IsClean}
use Rattle.cleaner.specs.CleanText.{clean_frames}
use Rattle.cleaner.proofs.CleanLemmas.{all-clean_frames}

abbrev left : Store → List ℕ → Result (Store × List ℕ) Fault
left now bytes = Ok (now, bytes)

-- ---- the log of a store

-- the values by which the log of a store is read
abbrev pub format_for : Settings → Store → Format
format_for s st = format_of s (slot_of st)

-- a log of this format with these ends is that of each store with this version and these ends
module _ (g : Format) (e : LogEnds) (st : Store) (ends : ends_of st ≡ e) (version : st.version ≡ g.version) where
  same_log : (let log : Format × LogEnds = (format_for g.settings st, ends_of st) in log ≡ (g, e))
  same_log =
      ap (λ (u : LogEnds). (let log : Format × LogEnds = (format_for g.settings st, u) in log)) ends
      ∙ ap (λ (v : Version). (let log : Format × LogEnds = (record { settings = g.settings; version = v }, e) in log)) version

  -- what holds of the one holds of the other
  of-store : (P : Format → LogEnds → Type 0) → P (format_for g.settings st) (ends_of st) → P g e
  of-store P h = subst (λ (log : Format × LogEnds). P log.0 log.1) same_log h

  pub to-store : (P : Format → LogEnds → Type 0) → P g e → P (format_for g.settings st) (ends_of st)
  to-store P h = subst (λ (log : Format × LogEnds). P log.0 log.1) (sym same_log) h

  pub more-of : e.head ≢ last_segment g.settings e.tail → st.head ≢ last_segment g.settings st.tail
  more-of more = to-store (λ f u. u.head ≢ last_segment f.settings u.tail) more

-- ---- the slot on the disk

-- after its bytes are read, the slot is the one that they encode
pub slot-read : (n : ℕ) (file buf : List ℕ) → 512 ≤ length file → length buf ≡ 64 → slot_in buf ≡ slot_on_disk n (overlay file (slot_place n) buf)
slot-read n file buf room long =
    let low = slot_low n in
    let part : take 64 (drop (slot_place n) (overlay file (slot_place n) buf)) ≡ buf =
    subst (λ (k : ℕ). take k (drop (slot_place n) (overlay file (slot_place n) buf)) ≡ buf) long (overlay-part file (slot_place n) buf (omega (arith, low, room, long))) in
    ap slot_in (sym part)

-- and the segments stay as they are
pub slot-beside : (n : ℕ) (file buf : List ℕ) → 512 ≤ length file → length buf ≡ 64 → AgreeAt (λ i. 512 ≤ i) file (overlay file (slot_place n) buf)
slot-beside n file buf room long =
    let low = slot_low n in
    agree_less (IsBeside (slot_place n) (length buf)) (λ i. 512 ≤ i) file (overlay file (slot_place n) buf) (λ i high. inr (omega (arith, low, long, high))) (overlay-beside file (slot_place n) buf (omega (arith, low, room, long)))

-- ---- why a clean fails

module _ (s : Settings) (file : List ℕ) where
  -- more than one segment is in use, so the log is read
  of_more : (st : Store) → st.head ≢ last_segment s st.tail → after_clean s st file ≡ and_then (log s file (slot_of st)) (after_clean_of s st file)
  of_more st more = ap (λ (b : Bool). (let none : Result (Store × List ℕ) Fault = Err NothingToClean in if b then none else and_then (log s file (slot_of st)) (after_clean_of s st file))) (ne_eqb st.head (last_segment s st.tail) more)

  of_log : (st : Store) (r : Result (List Found) Fault) → st.head ≢ last_segment s st.tail → log s file (slot_of st) ≡ r → after_clean s st file ≡ and_then r (after_clean_of s st file)
  of_log st r more e = of_more st more ∙ ap (λ (q : Result (List Found) Fault). and_then q (after_clean_of s st file)) e

  of_pages : (st : Store) (found : List Found) (o : Option Finding) → broken_in (frames_in found) ≡ o → after_clean_of s st file found ≡ and_then (unless_found o (clean_frames st.head found)) (after_carried s st file)
  of_pages st found o e = ap (λ (p : Option Finding). and_then (unless_found p (clean_frames st.head found)) (after_carried s st file)) e

  -- frames that are read and fit together are copied
  pub carried-on : (st : Store) (found : List Found) → st.head ≢ last_segment s st.tail → log s file (slot_of st) ≡ Ok found → broken_in (frames_in found) ≡ None
      → after_clean s st file ≡ after_carried s st file (clean_frames st.head found)
  carried-on st found more read sound = of_log st (Ok found) more read ∙ of_pages st found None sound

  -- one segment alone is in use
  pub nothing-refused : (st : Store) → st.head ≡ last_segment s st.tail → after_clean s st file ≡ Err NothingToClean
  nothing-refused st one = ap (λ (b : Bool). (let none : Result (Store × List ℕ) Fault = Err NothingToClean in if b then none else and_then (log s file (slot_of st)) (after_clean_of s st file))) (eq-eqb st.head (last_segment s st.tail) one)

module _ (g : Format) (file : List ℕ) (e : LogEnds) (more : e.head ≢ last_segment g.settings e.tail) where
  -- what is read of the log of a store
  read_of : (st : Store) (r : Result (List Found) Fault) → ends_of st ≡ e → st.version ≡ g.version → log_between g file e.head e.tail ≡ r → log g.settings file (slot_of st) ≡ r
  read_of st r is version read = to-store g e st is version (λ f u. log_between f file u.head u.tail ≡ r) read

  pub log-refused : (fault : Fault) → log_between g file e.head e.tail ≡ Err fault → IsRefused g e file fault
  log-refused fault read st is version = of_log g.settings file st (Err fault) (more-of g e st is version more) (read_of st (Err fault) is version read)

  pub pages-refused : (found : List Found) (fault : Fault) (f : Finding) → log_between g file e.head e.tail ≡ Ok found → broken_in (frames_in found) ≡ Some f → fault ≡ BadStructure f → IsRefused g e file fault
  pages-refused found fault f read broken fits st is version =
      of_log g.settings file st (Ok found) (more-of g e st is version more) (read_of st (Ok found) is version read) ∙ of_pages g.settings file st found (Some f) broken
      ∙ ap (λ (p : Fault). (let r : Result (Store × List ℕ) Fault = Err p in r)) (sym fits)

-- ---- what is planned

module _ (g : Format) (e : LogEnds) (good : first_bad_field g.settings ≡ None) (are : AreEnds g.settings e) where
  pub head-room : e.head ≤ greatest
  head-room = (let far = are.after in let low = head-low g.settings e.head e.tail good (omega (arith, far)) in let tail = are.tail in omega (arith, low, tail))

  pub more_in_use : e.head ≢ last_segment g.settings e.tail → e.head < last_segment g.settings e.tail
  more_in_use more =
      let size = (are_sized g.settings good).least_size in
      let far = are.after in
      let from = (split-tail g.settings e.head e.tail (omega (arith, size)) (omega (arith, far))).from in
      elim (cases_lt e.head (last_segment g.settings e.tail)) [ inl k ↦ k | inr k ↦ absurd (more (omega (arith, from, k))) ]

  -- the log without its first segment doesn't end before the rest
  pub log-left : e.head ≢ last_segment g.settings e.tail → suc e.head * g.settings.seg_size < e.tail
  log-left more =
      let size = (are_sized g.settings good).least_size in
      let far = are.after in
      let less = more_in_use more in
      let split = split-tail g.settings e.head e.tail (omega (arith, size)) (omega (arith, far)) in
      let is = split.is in
      let low = split.low in
      let whole : suc e.head * g.settings.seg_size ≤ last_segment g.settings e.tail * g.settings.seg_size = mul-le-mul_right g.settings.seg_size (omega (arith, less)) in
      omega (arith, whole, is, low)

-- the slot to which its frames are added, according to these bytes
abbrev pub base_in : Format → LogEnds → List ℕ → Slot
base_in g e file = cleaned_slot g.version e (slot_on_disk e.sequence file)

-- images for a log of this format are so by a slot with its version
pub images-by : (g : Format) (u : Slot) (text : List Frame) (images : List (List (List ℕ))) → u.version ≡ g.version → AreImages g text images → AreImages (format_of g.settings u) text images
images-by g u text images same are = subst (λ (v : Version). AreImages (record { settings = g.settings; version = v }) text images) (sym same) are

-- ---- a clean that fails for its tail, or succeeds

module _ (s : Settings) (file : List ℕ) (st : Store) where
  -- of a log of this format with these ends
  abbrev RefusedBy : Fault → Format → LogEnds → Type 0
  RefusedBy fault f u = u.head ≢ last_segment f.settings u.tail → (found : List Found) → IsRead f u file found → next_tail f.settings (base_in f u file) (clean_frames u.head found) ≡ Err fault → after_clean f.settings st file ≡ Err fault

  pub own_refused : (fault : Fault) → RefusedBy fault (format_for s st) (ends_of st)
  own_refused fault more found r h =
      let text : List Frame = clean_frames st.head found in
      let u : Slot = clean_slot s st file text in
      carried-on s file st found more r.read r.sound
      ∙ commit-refused u (is_full_for_clean s st.head u.tail) (store_after st.tree u) (committed s file (spans s st.tail text) u) fault
      (ap (λ (b : Bool). admitted u b) (clean-is-flush s st.head u.tail) ∙ h)

  -- the effect of a plan on the store and on these bytes
  abbrev DoneBy : CommitPlan → Format → LogEnds → Type 0
  DoneBy m f u = u.head ≢ last_segment f.settings u.tail → (p : IsClean f u file m) → after_clean f.settings st file ≡ left (store_after st.tree m.slot) (file_with f.settings (base_in f u file) (clean_frames u.head p.0) file)

  pub own_done : (m : CommitPlan) → DoneBy m (format_for s st) (ends_of st)
  own_done m more (found, r, p) =
      let text : List Frame = clean_frames st.head found in
      let u : Slot = clean_slot s st file text in
      carried-on s file st found more r.read r.sound
      ∙ commit-admitted u (is_full_for_clean s st.head u.tail) (store_after st.tree u) (committed s file (spans s st.tail text) u) p.unspent (clean-is-flush s st.head u.tail ∙ p.free)
      ∙ ap (λ (v : Slot). left (store_after st.tree v) (committed s file (spans s st.tail text) u)) (sym p.slot)

module _ (g : Format) (e : LogEnds) (file : List ℕ) (st : Store) (ends : ends_of st ≡ e) (version : st.version ≡ g.version) where
  pub tail-refused : (fault : Fault) → RefusedBy g.settings file st fault g e
  tail-refused fault = of-store g e st ends version (RefusedBy g.settings file st fault) (own_refused g.settings file st fault)

  pub clean-planned : (m : CommitPlan) → DoneBy g.settings file st m g e
  clean-planned m = of-store g e st ends version (DoneBy g.settings file st m) (own_done g.settings file st m)

-- the plan of the commit that adds the frames to this slot's log is that of the clean, and the properties of the frames found still hold for them
pub as-clean : (g : Format) (e : LogEnds) (u : Slot) (file : List ℕ) (found : List Found) (Such : List Found → Type 0) (old new : ℕ) (r : Result CommitPlan Fault) → e.head ≢ last_segment g.settings e.tail → IsRead g e file found → Such found → u ≡ base_in g e file
    → MatchResult r (λ m. IsPlanned g.settings u (clean_frames e.head found) m) (λ fault. (fault ≡ NoMemory) ⊎ (next_tail g.settings u (clean_frames e.head found) ≡ Err fault))
    → MatchResult r (λ m. (p : IsClean g e file m) × Such p.0) (λ fault. IsRefused g e file fault ⊎ IsLate old new fault)
as-clean g e u file found Such old new (Ok m) more read such is p = ((found, read, subst (λ (v : Slot). IsPlanned g.settings v (clean_frames e.head found) m) is p), such)
as-clean g e u file found Such old new (Err fault) more read such is (inl memory) = inr (inl memory)
as-clean g e u file found Such old new (Err fault) more read such is (inr full) =
    inl (λ st same version. tail-refused g e file st same version fault more found read (subst (λ (v : Slot). next_tail g.settings v (clean_frames e.head found) ≡ Err fault) is full))

-- ---- what was read

module _ (g : Format) (e : LogEnds) (file : List ℕ) (more : e.head ≢ last_segment g.settings e.tail) (old new : ℕ) where
  -- a fault of a reading is one of a clean
  pub clean-fault : (st : Store) → ends_of st ≡ e → st.version ≡ g.version → (fault : Fault) → IsRefused g e file fault ⊎ IsLate old new fault → IsCleanFault g.settings st file old new fault
  clean-fault st same version fault (inl refused) = inl (refused st same version)
  clean-fault st same version fault (inr late) = inr (more-of g e st same version more, late)

  -- the fault in what was read
  pub wrong-read : (found : List Found) → log_between g file e.head e.tail ≡ Ok found → (fault : Fault) → (fault ≡ NoMemory) ⊎ ((f : Finding) × (broken_in (frames_in found) ≡ Some f) × (fault ≡ BadStructure f))
      → IsRefused g e file fault ⊎ IsLate old new fault
  wrong-read found read fault (inl memory) = inr (inl memory)
  wrong-read found read fault (inr (f, broken, fits)) = inl (pages-refused g file e more found fault f read broken fits)

-- the images of the chosen frames
pub chosen-images : (g : Format) (e : LogEnds) (file : List ℕ) (found : List Found) (images : List (List (List ℕ))) → IsRead g e file found → AreOfText images (clean_frames e.head found) → (images ≡ []) ⊎ (1 ≤ length (clean_frames e.head found)) → AreImages g (clean_frames e.head found) images
chosen-images g e file found images is of some =
    record { of = of; some = some; within = all-clean_frames (λ f. is_frame g f ≡ true) e.head found (log-within g file e.head e.tail found is.read) }

-- a plan of a log is one of a store with that log, and of the bytes that the disk shows
pub plan-of : (g : Format) (e : LogEnds) (file seen : List ℕ) (m : CommitPlan) (st : Store) → ends_of st ≡ e → st.version ≡ g.version → file ≡ seen → IsClean g e file m → IsClean (format_for g.settings st) (ends_of st) seen m
plan-of g e file seen m st same version shown p = to-store g e st same version (λ f u. IsClean f u seen m) (subst (λ (bs : List ℕ). IsClean g e bs m) shown p)

-- a call failed, if none had before
pub failed_since : (old mid new : ℕ) → mid ≡ old → HasFailed mid new → HasFailed old new
failed_since old mid new same h = subst (λ (n : ℕ). HasFailed n new) same h

-- the store after this slot was committed
pub by_slot : (s : Settings) (st : Store) (file : List ℕ) (u v : Slot) (bytes : List ℕ) → u ≡ v → after_clean s st file ≡ left (store_after st.tree v) bytes → after_clean s st file ≡ left (store_after st.tree u) bytes
by_slot s st file u v bytes same done = done ∙ ap (λ (w : Slot). left (store_after st.tree w) bytes) (sym same)
