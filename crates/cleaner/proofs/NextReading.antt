-- A reading of a log can be used for the cleans of its first segments in turn: after a clean it is a reading of the cleaned log.
use Rattle.std.specs.Prelude.{◌≡◌, ◌≢◌, ◌⊎◌, ℕ, suc, ◌+◌, ◌-◌, ◌/◌, ◌<◌, ◌≤◌, true, false, nat_eq, min, IsTrue, List, [], ◌∷◌, ◌++◌, length, map, flat_map, None, Some, Result, Ok, Err, MatchResult, IfOk, IfErr}
use Rattle.std.proofs.Common.{refl, sym, ap, ◌∙◌, arith, subst}
use Rattle.std.specs.List.{AllByRecursion}
use Rattle.std.proofs.Math.Nat.{div-mul-le_self}
use Rattle.std.proofs.lemmas.Bool.{eq-eqb, ne_eqb}
use Rattle.std.proofs.lemmas.List.{map-append}
use Rattle.std.proofs.lemmas.Nat.{le-div}
use Rattle.keys.specs.Limits.{first_bad_field}
use Rattle.keys.specs.declared.fault.Fault.{Fault}
use Rattle.keys.specs.declared.fault.Fault.TheVariants.{NoMemory, BadStructure}
use Rattle.keys.specs.declared.settings.Settings.{Settings}
use Rattle.index_page.proofs.ListLemmas.{all_weaker}
use Rattle.mapping.specs.Finding.{Finding}
use Rattle.mapping.specs.Tree.{Store}
use Rattle.frame_codec.specs.Frame.{Frame, bytes_of, is_frame}
use Rattle.frame_codec.specs.declared.format.Format.{Format}
use Rattle.flush_log.specs.Commit.{AreWithin}
use Rattle.flush_log.specs.CommitPlan.{CommitPlan, next_slot, file_with}
use Rattle.flush_log.specs.Disk.{View, Kept}
use Rattle.flush_log.specs.Ends.{AreEnds, ends_of, ends_in}
use Rattle.flush_log.specs.Layout.{found_in_text, spans}
use Rattle.flush_log.specs.Overlay.{AgreeAt}
use Rattle.flush_log.specs.Reading.{Found, all_in, log_between}
use Rattle.flush_log.specs.Segments.{HasSegments, disk_size, last_segment}
use Rattle.flush_log.specs.Slot.{Slot}
use Rattle.flush_log.specs.declared.slot.LogEnds.{LogEnds}
use Rattle.flush_log.proofs.FitLemmas.{are_sized}
use Rattle.flush_log.proofs.HeadLemmas.{HeadOff, head-off, text-in}
use Rattle.flush_log.proofs.OutcomeLemmas.{after-length, after-log, log-following, within_more}
use Rattle.flush_log.proofs.ReadBackLemmas.{text-back}
use Rattle.flush_log.proofs.TailLemmas.{room-for-flush, tail-rises}
use Rattle.recovery.specs.LogPages.{broken_in}
use Rattle.recovery.specs.Recovered.{IsReadOf}
use Rattle.recovery.specs.StoreOfDisk.{frames_in}
use Rattle.recovery.proofs.FlushLemmas.{frames-text}
use Rattle.recovery.proofs.FoundWithin.{log-within}
use Rattle.cleaner.specs.Chosen.{image_in}
use Rattle.cleaner.specs.Cleaned.{IsCleanFault, IsRead, IsClean}
use Rattle.cleaner.specs.CleanText.{clean_frames}
use Rattle.cleaner.specs.Live.{live_bytes}
use Rattle.cleaner.specs.PagesRead.{PagesRead, pages_at, HasTexts, IsReading, IsReadingOf}
use Rattle.cleaner.proofs.CleanLemmas.{sound-cleaned, all-clean_frames}
use Rattle.cleaner.proofs.LaterCleans.{same-clean_frames}
use Rattle.cleaner.proofs.PlanLemmas.{base_in, log-left, more_in_use, clean-fault, wrong-read}

-- what was read is read where the bytes of the segments are the same
pub read-beside : (g : Format) (e : LogEnds) (file now : List ℕ) (found : List Found) → first_bad_field g.settings ≡ None → HasSegments g.settings file → AgreeAt (λ i. 512 ≤ i) file now → IsRead g e file found → IsRead g e now found
read-beside g e file now found good whole agree r =
    let count = (are_sized g.settings good).least_count in
    record { read = log-following g file now (omega (arith, count)) whole agree e.head e.tail ∙ r.read; sound = r.sound }

-- a later tail lies in no earlier segment
later_segment : (s : Settings) (tail later : ℕ) → 0 < s.seg_size → tail ≤ later → last_segment s tail ≤ last_segment s later
later_segment s tail later some less =
    let below = div-mul-le_self (tail - 1) s.seg_size in
    le-div ((tail - 1) / s.seg_size) (later - 1) s.seg_size some (omega (arith, below, less))

-- a log that begins below a limit before its last segment has more than one
pub has-more : (g : Format) (e : LogEnds) (limit : ℕ) → e.head < limit → limit ≤ last_segment g.settings e.tail → e.head ≢ last_segment g.settings e.tail
has-more g e limit below within same = omega (arith, below, within, same)

-- a reading for one clean has what that clean needs
pub first-has : (head last limit : ℕ) → limit ≡ head + min 1 (last - head) → head < last → head < limit
first-has head last limit is more = omega (arith, is, more)

-- ---- what was read

module _ (v : View) (g : Format) (e : LogEnds) (now : List ℕ) (limit : ℕ) (found : List Found) (Wrong : Fault → Type 0) where
  -- what is retained of the frames found
  abbrev IsKeptOf : Result PagesRead Fault → Type 0
  IsKeptOf r = MatchResult r (λ r. (broken_in (frames_in found) ≡ None) × (r.limit ≡ limit) × (r.live ≡ live_bytes found) × HasTexts g 0 found r) Wrong

  pub new-reading : (r : Result PagesRead Fault) → IsReadOf v now → log_between g now e.head e.tail ≡ Ok found → limit ≤ last_segment g.settings e.tail → IsKeptOf r → IfOk r (IsReadingOf v g e)
  new-reading (Ok r) is read below (sound, same, live, texts) = (
    now,
    is,
    record { found = found; read = record { read = read; sound = sound }; within = omega (arith, same, below); texts = λ n from in_front. texts n (omega arith) in_front },
  )
  new-reading (Err fault) is read below h = tt

  pub new-limit : (Such : ℕ → Type 0) (r : Result PagesRead Fault) → Such limit → IsKeptOf r → IfOk r (λ r. Such r.limit)
  new-limit Such (Ok r) such (sound, same, live, texts) = subst Such (sym same) such
  new-limit Such (Err fault) such h = tt

-- why it fails
pub new-fault : (g : Format) (e : LogEnds) (now : List ℕ) (more : e.head ≢ last_segment g.settings e.tail) (old new : ℕ) (found : List Found) → log_between g now e.head e.tail ≡ Ok found → (st : Store) → ends_of st ≡ e → st.version ≡ g.version
    → (Kept : PagesRead → Type 0) (r : Result PagesRead Fault) → MatchResult r Kept (λ fault. (fault ≡ NoMemory) ⊎ ((f : Finding) × (broken_in (frames_in found) ≡ Some f) × (fault ≡ BadStructure f)))
    → IfErr r (IsCleanFault g.settings st now old new)
new-fault g e now more old new found read st same version Kept (Ok r) h = tt
new-fault g e now more old new found read st same version Kept (Err fault) h = clean-fault g e now more old new st same version fault (wrong-read g e now more old new found read fault h)

-- a reading from which the pages of the head segment were taken has those of the later ones
pub texts-left : (g : Format) (head : ℕ) (found : List Found) (old new : PagesRead) → new.limit ≡ old.limit → ((n : ℕ) → n ≢ head → pages_at n new ≡ pages_at n old) → HasTexts g head found old → HasTexts g (suc head) found new
texts-left g head found old new limit rest texts n from below =
    ap (λ (ps : List (List ℕ)). flat_map (image_in g) ps) (rest n (λ same. omega (arith, same, from))) ∙ texts n (omega (arith, from)) (omega (arith, below, limit))

-- ---- frames of other segments

head-beside : (head n : ℕ) (fs : List Frame) → nat_eq head n ≡ false → AllByRecursion (λ f. nat_eq f.segment n ≡ false) (all_in head fs)
head-beside head n [] e = tt
head-beside head n (f ∷ fs) e = (e, head-beside head n fs e)

in_head : (n : ℕ) (fs : List Frame) → AllByRecursion (λ f. nat_eq f.segment n ≡ true) (all_in n fs)
in_head n [] = tt
in_head n (f ∷ fs) = (eq-eqb n n refl, in_head n fs)

-- ---- the log after a clean

module _ (g : Format) (e : LogEnds) (file : List ℕ) (good : first_bad_field g.settings ≡ None) (are : AreEnds g.settings e) (whole : HasSegments g.settings file) (more : e.head ≢ last_segment g.settings e.tail) (m : CommitPlan) (p : IsClean g e file m) where
  abbrev s : Settings
  s = g.settings

  abbrev found : List Found
  found = p.0

  abbrev text : List Frame
  text = clean_frames e.head found

  -- its slot, and the bytes then
  abbrev u : Slot
  u = next_slot s (base_in g e file) text

  abbrev after : List ℕ
  after = file_with s (base_in g e file) text file

  less : e.head < last_segment s e.tail
  less = more_in_use g e good are more

  abbrev off : HeadOff g file e.head e.tail found less p.1.read
  off = head-off g file e.head e.tail found less p.1.read

  -- what is found then
  abbrev now : List Found
  now = off.rest ++ found_in_text s e.tail text

  within : AllByRecursion (λ f. is_frame g f ≡ true) text
  within = all-clean_frames (λ f. is_frame g f ≡ true) e.head found (log-within g file e.head e.tail found p.1.read)

  fits : AreWithin s (length file) (spans s e.tail text)
  fits = within_more s (disk_size s) (length file) (spans s e.tail text) whole p.2.within

  pub after-long : length after ≡ length file
  after-long = after-length s file (spans s e.tail text) u (omega (arith, whole)) fits

  log-now : log_between g after u.head u.tail ≡ Ok now
  log-now =
      let count = (are_sized s good).least_count in
      let free = room-for-flush s (suc e.head) u.tail p.2.free in
      after-log g file (spans s e.tail text) u whole fits (omega (arith, count)) (suc e.head) u.tail
      ∙ text-back g good file (suc e.head) e.tail off.rest text whole within (log-left g e good are more) off.read_on (omega (arith, free))

  -- the frames of a clean, from the frames found in two parts
  text-parts : frames_in (found_in_text s e.tail text) ≡ clean_frames e.head (all_in e.head off.here ++ off.rest)
  text-parts = frames-text s e.tail [] text ∙ ap (λ (fs : List Found). clean_frames e.head fs) off.all

  sound-now : broken_in (frames_in now) ≡ None
  sound-now =
      let following = all_weaker (λ f. (suc e.head ≤ f.segment) × (f.segment ≤ last_segment s e.tail)) (λ f. nat_eq f.segment e.head ≡ false) (λ f h. ne_eqb f.segment e.head (λ same. let l = h.0 in omega (arith, l, same))) off.rest off.later in
      ap broken_in (map-append (λ (f : Found). f.frame) off.rest (found_in_text s e.tail text) ∙ ap (λ (fs : List Frame). frames_in off.rest ++ fs) text-parts)
      ∙ sound-cleaned e.head (all_in e.head off.here) off.rest (in_head e.head off.here) following (ap (λ (fs : List Found). broken_in (frames_in fs)) (sym off.all) ∙ p.1.sound)

  read-now : IsRead g (ends_in u) after now
  read-now = record { read = log-now; sound = sound-now }

  some : 0 < s.seg_size
  some = let size = (are_sized s good).least_size in omega (arith, size)

  -- a clean of a later segment, before the last one, copies the same frames as before
  same-text : (n : ℕ) → suc e.head ≤ n → n < last_segment s e.tail → clean_frames n now ≡ clean_frames n found
  same-text n from below =
      let other : nat_eq e.head n ≡ false = ne_eqb e.head n (λ same. omega (arith, same, from)) in
      let far = are.after in
      let behind = all_weaker (λ f. last_segment s e.tail ≤ f.segment) (λ f. nat_eq f.segment n ≡ false) (λ f h. ne_eqb f.segment n (λ same. omega (arith, h, same, below))) (found_in_text s e.tail text) (text-in s e.tail text some (omega (arith, far))) in
      same-clean_frames e.head n other (all_in e.head off.here) off.rest (found_in_text s e.tail text) (head-beside e.head n off.here other) behind text-parts
      ∙ ap (λ (fs : List Found). clean_frames n fs) (sym off.all)

  last-later : last_segment s e.tail ≤ last_segment s u.tail
  last-later =
      let rises = tail-rises g good e.tail text within in
      later_segment s e.tail u.tail some (omega (arith, rises))

  -- so a reading that has the frames for the later segments is one of this log
  pub next-reading : (r : PagesRead) → r.limit ≤ last_segment s e.tail → HasTexts g (suc e.head) found r → IsReading g (ends_in u) after r
  next-reading r below texts = record {
    found = now;
    read = read-now;
    within = omega (arith, below, last-later);
    texts = λ n from in_front. texts n from in_front ∙ ap (λ (fs : List Frame). map (λ (f : Frame). bytes_of f) fs) (sym (same-text n from (omega (arith, in_front, below))));
  }

-- ---- the disk after it

-- after a clean by a plan, whose slot is this one, a reading serves for the next clean
pub reading-after : (g : Format) (e : LogEnds) (old mid new : View) (file : List ℕ) (m : CommitPlan) (t : Slot) (r : PagesRead) → first_bad_field g.settings ≡ None → AreEnds g.settings e → disk_size g.settings ≤ old.size → e.head ≢ last_segment g.settings e.tail
    → IsReadOf old file → (p : IsClean g e file m) → t ≡ m.slot → r.limit ≤ last_segment g.settings e.tail → HasTexts g (suc e.head) p.0 r
    → Kept old mid → Kept mid new → (IsTrue old.is_honest → mid.seen ≡ old.seen)
    → (IsTrue mid.is_honest → new.seen ≡ file_with g.settings (base_in g e file) (clean_frames e.head p.0) mid.seen)
    → IsReadingOf new g (ends_in t) r
reading-after g e old mid new file m t r good are room more is p same below texts first second still wrote =
    let long = is.whole in
    let whole : HasSegments g.settings file = omega (arith, long, room) in
    let after : List ℕ = file_with g.settings (base_in g e file) (clean_frames e.head p.0) file in
    let size = after-long g e file good are whole more m p in
    let reading : IsReading g (ends_in (next_slot g.settings (base_in g e file) (clean_frames e.head p.0))) after r = next-reading g e file good are whole more m p r below texts in (
      after,
      record {
        whole = size ∙ long ∙ sym (second.size ∙ first.size);
        honest = λ honest.
            let before : IsTrue mid.is_honest = subst IsTrue second.honest honest in
            let first_honest : IsTrue old.is_honest = subst IsTrue first.honest before in
            sym (wrote before ∙ ap (λ (f : List ℕ). file_with g.settings (base_in g e file) (clean_frames e.head p.0) f) (still first_honest ∙ sym (is.honest first_honest)));
      },
      subst (λ (u : Slot). IsReading g (ends_in u) after r) (sym (same ∙ p.2.slot)) reading,
    )
