-- The pages of a log are the same after the head segment is removed and its live frames are at the end.
use Rattle.std.specs.Prelude.{◌≡◌, ℕ, Bool, true, false, cond, ◌&&◌, nat_eq, List, [], ◌∷◌, ◌++◌, map, flat_map, None}
use Rattle.std.proofs.Common.{refl, sym, ap, ◌∙◌}
use Rattle.std.specs.List.{AllByRecursion}
use Rattle.std.proofs.lemmas.Bool.{eqb-true}
use Rattle.index_page.proofs.ListLemmas.{all-append, all-filter}
use Rattle.mapping.specs.FreshPids.{is_among}
use Rattle.mapping.proofs.KnownPids.{rising-with_numbers}
use Rattle.mapping.proofs.SameTable.{same_table}
use Rattle.frame_codec.specs.Frame.{Content, Frame}
use Rattle.flush_log.specs.Reading.{Found}
use Rattle.recovery.specs.LogPages.{contents_of, in_log, pids_of, pages_of, broken_in}
use Rattle.recovery.specs.Gathered.{live_frames, contents_in}
use Rattle.recovery.specs.PageByLog.{is_base, from_last, page_by_log, page_in, is_broken}
use Rattle.recovery.specs.StoreOfDisk.{frames_in}
use Rattle.recovery.proofs.KeptLemmas.{starts, of_pid, of_pid-append, contents-found}
use Rattle.recovery.proofs.PagesLemmas.{pids, contents-append, among-pids_of, none_of, page_at-pages_of, rising-pages_of, none_broken, not_broken}
use Rattle.recovery.proofs.PartLemmas.{from_last-all}
use Rattle.recovery.proofs.TextLemmas.{turned, made-under}
use Rattle.cleaner.specs.CleanText.{carried, clean_frames}
use Rattle.cleaner.proofs.CarryLemmas.{same-state}

-- ---- what was found of a pid

own_by : (b : Bool) (pid : ℕ) (f : Found) (fs : List Found) → nat_eq f.frame.pid pid ≡ b → AllByRecursion (λ g. nat_eq g.frame.pid pid ≡ true) fs → AllByRecursion (λ g. nat_eq g.frame.pid pid ≡ true) (cond b (f ∷ fs) fs)
own_by true pid f fs e a = (e, a)
own_by false pid f fs e a = a

own : (pid : ℕ) (found : List Found) → AllByRecursion (λ g. nat_eq g.frame.pid pid ≡ true) (of_pid pid found)
own pid [] = tt
own pid (f ∷ fs) = own_by (nat_eq f.frame.pid pid) pid f (of_pid pid fs) refl (own pid fs)

-- ---- the copied frames of a pid

of_each_by : (b : Bool) (n pid : ℕ) (f : Frame) (fs : List Frame) → nat_eq pid n ≡ b → nat_eq f.pid n ≡ true → contents_of pid fs ≡ cond b (map (λ (g : Frame). g.content) fs) []
    → contents_of pid (f ∷ fs) ≡ cond b (map (λ (g : Frame). g.content) (f ∷ fs)) []
of_each_by true n pid f fs e h ih =
    let same : nat_eq f.pid pid ≡ true = ap (λ (m : ℕ). nat_eq f.pid m) (eqb-true pid n e) ∙ h in
    rw same (ap (λ (cs : List Content). f.content ∷ cs) ih)
of_each_by false n pid f fs e h ih =
    let other : nat_eq f.pid pid ≡ false = ap (λ (m : ℕ). nat_eq m pid) (eqb-true f.pid n h) ∙ turned false pid n e in
    rw other ih

of_each : (n pid : ℕ) (fs : List Frame) → AllByRecursion (λ f. nat_eq f.pid n ≡ true) fs → contents_of pid fs ≡ cond (nat_eq pid n) (map (λ (g : Frame). g.content) fs) []
of_each n pid [] a = none_by (nat_eq pid n)
  where
    none_by : (b : Bool) → (let none : List Content = [] in none ≡ cond b [] [])
    none_by true = refl
    none_by false = refl
of_each n pid (f ∷ fs) a = of_each_by (nat_eq pid n) n pid f fs refl a.0 (of_each n pid fs a.1)

frames_own : (n : ℕ) (fs : List Found) → AllByRecursion (λ f. nat_eq f.frame.pid n ≡ true) fs → AllByRecursion (λ f. nat_eq f.pid n ≡ true) (frames_in fs)
frames_own n [] a = tt
frames_own n (f ∷ fs) a = (a.0, frames_own n fs a.1)

carried_by : (P : Frame → Type 0) (b : Bool) (fs : List Frame) → AllByRecursion P fs → AllByRecursion P (cond b fs [])
carried_by P true fs a = a
carried_by P false fs a = tt

-- what holds of each frame that was found holds of each that is carried on
pub all-carried : (P : Frame → Type 0) (head : ℕ) (fs : List Found) → AllByRecursion P (frames_in fs) → AllByRecursion P (carried head fs)
all-carried P head [] a = tt
all-carried P head (f ∷ fs) a = carried_by P (nat_eq f.segment head && is_base f.frame.content) (frames_in (f ∷ fs)) a

pub nil_from : (xs : List Found) → contents_in xs ≡ [] → xs ≡ []
nil_from [] e = refl
nil_from (x ∷ xs) e = absurd (cc)

module _ (head : ℕ) (found : List Found) where
  abbrev carried_of : ℕ → List Frame
  carried_of pid = carried head (live_frames pid found)

  abbrev due : ℕ → List Content
  due pid = map (λ (f : Frame). f.content) (carried_of pid)

  own_carried : (n pid : ℕ) → contents_of pid (carried_of n) ≡ cond (nat_eq pid n) (due n) []
  own_carried n pid =
      of_each n pid (carried_of n) (all-carried (λ f. nat_eq f.pid n ≡ true) head (live_frames n found) (frames_own n (live_frames n found) (from_last-all starts (λ f. nat_eq f.frame.pid n ≡ true) (of_pid n found) (own n found))))

  else_due : (b : Bool) (pid : ℕ) → is_among pid (pids_of (frames_in found)) ≡ b → cond b (due pid) [] ≡ due pid
  else_due true pid e = refl
  else_due false pid e =
      let none : of_pid pid found ≡ [] = nil_from (of_pid pid found) (sym (contents-found pid found) ∙ none_of (frames_in found) pid (sym (among-pids_of (frames_in found) pid) ∙ e)) in
      sym (ap (λ (fs : List Found). map (λ (f : Frame). f.content) (carried head (from_last starts fs))) none)

  -- for each pid, the frames of a clean are those that are copied of it
  pub text-of_pid : (pid : ℕ) → contents_of pid (clean_frames head found) ≡ due pid
  text-of_pid pid =
      made-under carried_of due own_carried (pids_of (frames_in found)) pid (rising-with_numbers (pids (frames_in found)) [] tt)
      ∙ else_due (is_among pid (pids_of (frames_in found))) pid refl

-- ---- the log

module _ (head : ℕ) (hs ts : List Found) (within : AllByRecursion (λ f. nat_eq f.segment head ≡ true) hs) (following : AllByRecursion (λ f. nat_eq f.segment head ≡ false) ts)
    (sound : broken_in (frames_in (hs ++ ts)) ≡ None) where
  abbrev after : List Frame
  after = frames_in ts ++ clean_frames head (hs ++ ts)

  state_same : (pid : ℕ) → in_log after pid ≡ in_log (frames_in (hs ++ ts)) pid
  state_same pid =
      let hs' : List Found = of_pid pid hs in
      let ts' : List Found = of_pid pid ts in
      let all : of_pid pid (hs ++ ts) ≡ hs' ++ ts' = of_pid-append pid hs ts in
      let whole : contents_of pid (frames_in (hs ++ ts)) ≡ contents_in (hs' ++ ts') = contents-found pid (hs ++ ts) ∙ ap contents_in all in
      ap page_by_log (contents-append pid (frames_in ts) (clean_frames head (hs ++ ts)))
      ∙ ap (λ (cs : List Content). page_by_log (cs ++ contents_of pid (clean_frames head (hs ++ ts)))) (contents-found pid ts)
      ∙ ap (λ (cs : List Content). page_by_log (contents_in ts' ++ cs)) (text-of_pid head (hs ++ ts) pid)
      ∙ ap (λ (fs : List Found). page_by_log (contents_in ts' ++ map (λ (f : Frame). f.content) (carried head (from_last starts fs)))) all
      ∙ same-state head hs' ts'
      (all-filter (λ f. nat_eq f.segment head ≡ true) (λ f. nat_eq f.frame.pid pid) hs within)
      (all-filter (λ f. nat_eq f.segment head ≡ false) (λ f. nat_eq f.frame.pid pid) ts following)
      (ap (λ (cs : List Content). is_broken (page_by_log cs)) (sym whole) ∙ none_broken (frames_in (hs ++ ts)) pid sound)
      ∙ ap page_by_log (sym whole)

  pub pages-cleaned : pages_of after ≡ pages_of (frames_in (hs ++ ts))
  pages-cleaned =
      same_table (pages_of after) (pages_of (frames_in (hs ++ ts))) (rising-pages_of after) (rising-pages_of (frames_in (hs ++ ts)))
      (λ pid. page_at-pages_of after pid ∙ ap page_in (state_same pid) ∙ sym (page_at-pages_of (frames_in (hs ++ ts)) pid))

  pub sound-cleaned : broken_in after ≡ None
  sound-cleaned = not_broken after (λ pid. ap is_broken (state_same pid) ∙ none_broken (frames_in (hs ++ ts)) pid sound)

-- ---- the frames of the clean

all_in_text : (P : Frame → Type 0) (head : ℕ) (found : List Found) (ns : List ℕ) → AllByRecursion (λ f. P f.frame) found → AllByRecursion P (flat_map (λ pid. carried head (live_frames pid found)) ns)
all_in_text P head found [] a = tt
all_in_text P head found (n ∷ ns) a =
    all-append P (carried head (live_frames n found)) (flat_map (λ pid. carried head (live_frames pid found)) ns)
    (all-carried P head (live_frames n found) (frames_all (live_frames n found) (from_last-all starts (λ f. P f.frame) (of_pid n found) (all-filter (λ f. P f.frame) (λ f. nat_eq f.frame.pid n) found a))))
    (all_in_text P head found ns a)
  where
    frames_all : (fs : List Found) → AllByRecursion (λ f. P f.frame) fs → AllByRecursion P (frames_in fs)
    frames_all [] a = tt
    frames_all (f ∷ fs) a = (a.0, frames_all fs a.1)

-- a property of each frame found holds for each frame of the clean
pub all-clean_frames : (P : Frame → Type 0) (head : ℕ) (found : List Found) → AllByRecursion (λ f. P f.frame) found → AllByRecursion P (clean_frames head found)
all-clean_frames P head found a = all_in_text P head found (pids_of (frames_in found)) a
