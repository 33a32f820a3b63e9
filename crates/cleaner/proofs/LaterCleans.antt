-- A clean of a later segment copies the same frames before and after a clean of the head segment.
use Rattle.std.specs.Prelude.{◌≡◌, ℕ, Bool, true, false, cond, ◌&&◌, ◌||◌, nat_eq, List, [], ◌∷◌, ◌++◌, map}
use Rattle.std.proofs.Common.{refl, sym, ap, ◌∙◌, append-nil}
use Rattle.std.specs.List.{AllByRecursion, list_any}
use Rattle.std.proofs.lemmas.Bool.{eqb-true}
use Rattle.index_page.proofs.ListLemmas.{all-filter}
use Rattle.mapping.specs.FreshPids.{is_among}
use Rattle.mapping.proofs.KnownPids.{rising-with_numbers}
use Rattle.frame_codec.specs.Frame.{Content, Frame}
use Rattle.flush_log.specs.Reading.{Found}
use Rattle.recovery.specs.Gathered.{live_frames, contents_in}
use Rattle.recovery.specs.LogPages.{contents_of, pids_of}
use Rattle.recovery.specs.PageByLog.{is_base, is_free, is_start, from_last}
use Rattle.recovery.specs.StoreOfDisk.{frames_in}
use Rattle.recovery.proofs.KeptLemmas.{said, starts, of_pid, of_pid-append, contents-found}
use Rattle.recovery.proofs.PagesLemmas.{pids, among-pids_of, none_of}
use Rattle.recovery.proofs.PartLemmas.{from_last-none, from_last-following, from_last-more, from_last-all, from_last-some, none-append, any-map}
use Rattle.cleaner.specs.CleanText.{carried, clean_frames}
use Rattle.cleaner.proofs.CarryLemmas.{carried_none}
use Rattle.cleaner.proofs.CleanLemmas.{nil_from, text-of_pid}
use Rattle.cleaner.proofs.NumberLists.{same-made, flat-same}

-- ---- one pid

abbrev contents : List Frame → List Content
contents fs = map (λ (f : Frame). f.content) fs

-- if the first frame is in another segment, nothing is copied
carried_first : (n : ℕ) (fs gs : List Found) → list_any starts fs ≡ true → AllByRecursion (λ f. nat_eq f.segment n ≡ false) fs → carried n (fs ++ gs) ≡ []
carried_first n [] gs e a = absurd (cc)
carried_first n (f ∷ fs) gs e a = rw a.0 refl

both : (b c : Bool) → (b && c) ≡ true → (b ≡ true) × (c ≡ true)
both true true e = (refl, refl)
both true false e = absurd (cc)
both false c e = absurd (cc)

base_starts : (c : Content) → is_base c ≡ true → is_start c ≡ true
base_starts c e = ap (λ (b : Bool). b || is_free c) e

-- the frames of a pid in the head segment, those after it, and those that were written for it at the end; segment n is between
module _ (head n : ℕ) (differ : nat_eq head n ≡ false) (hs ms ts : List Found)
    (before : AllByRecursion (λ f. nat_eq f.segment n ≡ false) hs) (behind : AllByRecursion (λ f. nat_eq f.segment n ≡ false) ts) where
  abbrev Same : Type 0
  Same = carried n (from_last starts (ms ++ ts)) ≡ carried n (from_last starts (hs ++ ms))

  -- if a page was written, nothing of it lives in segment n
  written : list_any starts ts ≡ true → carried n (from_last starts (ms ++ ts)) ≡ []
  written some = ap (carried n) (from_last-following starts ms ts some) ∙ carried_none n (from_last starts ts) (from_last-all starts (λ f. nat_eq f.segment n ≡ false) ts behind)

  -- if nothing was written, the head segment makes no difference
  off_by : (b c : Bool) → list_any starts ms ≡ b → list_any starts hs ≡ c → carried n (from_last starts ms) ≡ carried n (from_last starts (hs ++ ms))
  off_by true c e f = ap (carried n) (sym (from_last-following starts hs ms e))
  off_by false false e f = ap (carried n) (from_last-none starts ms e ∙ sym (from_last-none starts (hs ++ ms) (none-append starts hs ms f e)))
  off_by false true e f =
      let first : carried n (from_last starts hs ++ ms) ≡ [] = carried_first n (from_last starts hs) ms (from_last-some starts hs f) (from_last-all starts (λ f. nat_eq f.segment n ≡ false) hs before) in
      ap (carried n) (from_last-none starts ms e) ∙ sym (ap (carried n) (from_last-more starts hs ms f e) ∙ first)

  unwritten : ts ≡ [] → Same
  unwritten none =
      ap (λ (fs : List Found). carried n (from_last starts fs)) (ap (λ (fs : List Found). ms ++ fs) none ∙ append-nil ms)
      ∙ off_by (list_any starts ms) (list_any starts hs) refl refl

  of_first : (b : Bool) (f : Found) (fs : List Found) → from_last starts (hs ++ ms) ≡ f ∷ fs → (nat_eq f.segment head && is_base f.frame.content) ≡ b → contents_in ts ≡ contents (cond b (frames_in (f ∷ fs)) []) → Same
  of_first true f fs part e text =
      let parts = both (nat_eq f.segment head) (is_base f.frame.content) e in
      let some : list_any starts ts ≡ true = sym (any-map said is_start ts) ∙ ap (λ (cs : List Content). list_any is_start cs) text ∙ ap (λ (b : Bool). b || list_any is_start (contents (frames_in fs))) (base_starts f.frame.content parts.1) in
      let other : nat_eq f.segment n ≡ false = ap (λ (m : ℕ). nat_eq m n) (eqb-true f.segment head parts.0) ∙ differ in
      let none : carried n (f ∷ fs) ≡ [] = rw other refl in
      written some ∙ sym (ap (carried n) part ∙ none)
  of_first false f fs part e text = unwritten (nil_from ts text)

  of_part : (fs : List Found) → from_last starts (hs ++ ms) ≡ fs → contents_in ts ≡ contents (carried head fs) → Same
  of_part [] part text = unwritten (nil_from ts text)
  of_part (f ∷ fs) part text = of_first (nat_eq f.segment head && is_base f.frame.content) f fs part refl text

-- ---- the log

-- the frames found in the head segment, those after it, and those of a clean at the end
module _ (head n : ℕ) (differ : nat_eq head n ≡ false) (hs ms ts : List Found)
    (before : AllByRecursion (λ f. nat_eq f.segment n ≡ false) hs) (behind : AllByRecursion (λ f. nat_eq f.segment n ≡ false) ts) (text : frames_in ts ≡ clean_frames head (hs ++ ms)) where
  same-carried : (pid : ℕ) → carried n (live_frames pid (ms ++ ts)) ≡ carried n (live_frames pid (hs ++ ms))
  same-carried pid =
      let hs' : List Found = of_pid pid hs in
      let ms' : List Found = of_pid pid ms in
      let ts' : List Found = of_pid pid ts in
      let of : contents_in ts' ≡ contents (carried head (from_last starts (hs' ++ ms'))) =
      sym (contents-found pid ts) ∙ ap (contents_of pid) text ∙ text-of_pid head (hs ++ ms) pid
      ∙ ap (λ (fs : List Found). contents (carried head (from_last starts fs))) (of_pid-append pid hs ms) in
      ap (λ (fs : List Found). carried n (from_last starts fs)) (of_pid-append pid ms ts)
      ∙ of_part head n differ hs' ms' ts'
      (all-filter (λ f. nat_eq f.segment n ≡ false) (λ f. nat_eq f.frame.pid pid) hs before)
      (all-filter (λ f. nat_eq f.segment n ≡ false) (λ f. nat_eq f.frame.pid pid) ts behind)
      (from_last starts (hs' ++ ms')) refl of
      ∙ ap (λ (fs : List Found). carried n (from_last starts fs)) (sym (of_pid-append pid hs ms))

  -- nothing is carried on of a pid without a frame
  no_frame : (found : List Found) (pid : ℕ) → is_among pid (pids_of (frames_in found)) ≡ false → carried n (live_frames pid found) ≡ []
  no_frame found pid e =
      let none : of_pid pid found ≡ [] = nil_from (of_pid pid found) (sym (contents-found pid found) ∙ none_of (frames_in found) pid (sym (among-pids_of (frames_in found) pid) ∙ e)) in
      ap (λ (fs : List Found). carried n (from_last starts fs)) none

  pub same-clean_frames : clean_frames n (ms ++ ts) ≡ clean_frames n (hs ++ ms)
  same-clean_frames =
      let now : List Found = ms ++ ts in
      let old : List Found = hs ++ ms in
      flat-same (λ pid. carried n (live_frames pid now)) (λ pid. carried n (live_frames pid old)) (pids_of (frames_in now)) same-carried
      ∙ same-made (λ pid. carried n (live_frames pid old)) (pids_of (frames_in now)) (pids_of (frames_in old)) (rising-with_numbers (pids (frames_in now)) [] tt) (rising-with_numbers (pids (frames_in old)) [] tt)
      (λ pid e. sym (same-carried pid) ∙ no_frame now pid e) (λ pid e. no_frame old pid e)
