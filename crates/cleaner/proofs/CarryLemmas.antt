-- The page that the log determines for each pid, after the head segment is removed and its live frames are at the end.
use Rattle.std.specs.Prelude.{◌≡◌, ℕ, Bool, true, false, nat_eq, List, [], ◌∷◌, ◌++◌, map, fold}
use Rattle.std.proofs.Common.{refl, sym, ap, ◌∙◌, append-nil}
use Rattle.std.specs.List.{AllByRecursion, list_any}
use Rattle.std.proofs.lemmas.Bool.{or_from}
use Rattle.std.proofs.lemmas.List.Folds.{list_any-append}
use Rattle.frame_codec.specs.Frame.{Content, Frame}
use Rattle.frame_codec.specs.Frame.Content.{FullLeaf, DeltaLeaf, FullIndex, DeltaIndex, Free}
use Rattle.flush_log.specs.Reading.{Found}
use Rattle.recovery.specs.Gathered.{contents_in}
use Rattle.recovery.specs.PageByLog.{is_base, is_start, from_last, continued, page_from_start, page_by_log, is_broken}
use Rattle.recovery.specs.PageByLog.InLog.{Missing, Broken}
use Rattle.recovery.specs.StoreOfDisk.{frames_in}
use Rattle.recovery.proofs.BrokenLemmas.{broken-stays, missing-breaks}
use Rattle.recovery.proofs.KeptLemmas.{said, starts}
use Rattle.recovery.proofs.KeptPages.{contents_of_frames}
use Rattle.recovery.proofs.PartLemmas.{IsPart, from_last-none, from_last-following, from_last-more, from_last-at, from_last-map, from_last-is, from_last-all, from_last-some, none-append, any-map}
use Rattle.cleaner.specs.CleanText.{carried}

-- ---- one pid

-- after a free frame there is nothing, unless it is finding 1
free_alone : (cs : List Content) → is_broken (page_from_start (Free ∷ cs)) ≡ false → cs ≡ []
free_alone [] e = refl
free_alone (c ∷ cs) e =
    let broken : page_from_start (Free ∷ c ∷ cs) ≡ Broken = ap (λ t. fold continued t cs) (missing-breaks c) ∙ broken-stays cs in
    let both : true ≡ false = ap is_broken (sym broken) ∙ e in
    absurd (cc)

-- a start that is no base is a free frame
free_or_base : (c : Content) → is_start c ≡ true → is_base c ≡ false → c ≡ Free
free_or_base (FullLeaf encoding low base) e f = absurd (cc)
free_or_base (DeltaLeaf run) e f = absurd (cc)
free_or_base (FullIndex encoding low base) e f = absurd (cc)
free_or_base (DeltaIndex run) e f = absurd (cc)
free_or_base Free e f = refl

-- no frame after the head segment is copied
pub carried_none : (head : ℕ) (fs : List Found) → AllByRecursion (λ f. nat_eq f.segment head ≡ false) fs → carried head fs ≡ []
carried_none head [] a = refl
carried_none head (f ∷ fs) a = rw a.0 refl

-- all frames of a page whose base is in the head segment are copied
carried_all : (head : ℕ) (f : Found) (fs : List Found) → nat_eq f.segment head ≡ true → is_base f.frame.content ≡ true → carried head (f ∷ fs) ≡ frames_in (f ∷ fs)
carried_all head f fs e h = rw e (rw h refl)

carried_free : (head : ℕ) (f : Found) (fs : List Found) → nat_eq f.segment head ≡ true → is_base f.frame.content ≡ false → carried head (f ∷ fs) ≡ []
carried_free head f fs e h = rw e (rw h refl)

missing : (cs : List Content) → list_any is_start cs ≡ false → page_by_log cs ≡ Missing
missing cs e = ap page_from_start (from_last-none is_start cs e)

-- the frames of a pid in the head segment, and those after it
module _ (head : ℕ) (hs ts : List Found) (within : AllByRecursion (λ f. nat_eq f.segment head ≡ true) hs) (following : AllByRecursion (λ f. nat_eq f.segment head ≡ false) ts)
    (sound : is_broken (page_by_log (contents_in (hs ++ ts))) ≡ false) where
  abbrev part : List Found
  part = from_last starts (hs ++ ts)

  abbrev carried_contents : List Found → List Content
  carried_contents fs = map (λ (f : Frame). f.content) (carried head fs)

  -- the page that the log determines for it, before and after
  abbrev Same : Type 0
  Same = page_by_log (contents_in ts ++ carried_contents part) ≡ page_by_log (contents_in (hs ++ ts))

  before_is : page_by_log (contents_in (hs ++ ts)) ≡ page_from_start (contents_in part)
  before_is = ap page_from_start (from_last-map said is_start (hs ++ ts))

  starts_after : list_any starts ts ≡ true → Same
  starts_after e =
      let later : part ≡ from_last starts ts = from_last-following starts hs ts e in
      let none : carried head part ≡ [] = ap (carried head) later ∙ carried_none head (from_last starts ts) (from_last-all starts (λ f. nat_eq f.segment head ≡ false) ts following) in
      ap (λ (fs : List Frame). page_by_log (contents_in ts ++ map (λ (f : Frame). f.content) fs)) none
      ∙ ap page_by_log (append-nil (contents_in ts))
      ∙ ap page_from_start (from_last-map said is_start ts ∙ ap contents_in (sym later))
      ∙ sym before_is

  no_start : list_any starts ts ≡ false → list_any starts hs ≡ false → Same
  no_start e f =
      let none : part ≡ [] = from_last-none starts (hs ++ ts) (list_any-append starts hs ts ∙ or_from (list_any starts hs) (list_any starts ts) f e) in
      ap (λ (fs : List Found). page_by_log (contents_in ts ++ carried_contents fs)) none
      ∙ ap page_by_log (append-nil (contents_in ts))
      ∙ missing (contents_in ts) (any-map said is_start ts ∙ e)
      ∙ ap (λ (fs : List Found). page_from_start (contents_in fs)) (sym none)
      ∙ sym before_is

  -- the part begins in the head segment
  of_part : (y : Found) (ys : List Found) → part ≡ y ∷ ys → is_start y.frame.content ≡ true → list_any starts ys ≡ false → nat_eq y.segment head ≡ true → list_any starts ts ≡ false
      → (b : Bool) → is_base y.frame.content ≡ b → Same
  of_part y ys e s n h none true base =
      ap (λ (fs : List Found). page_by_log (contents_in ts ++ carried_contents fs)) e
      ∙ ap (λ (fs : List Frame). page_by_log (contents_in ts ++ map (λ (f : Frame). f.content) fs)) (carried_all head y ys h base)
      ∙ ap (λ (cs : List Content). page_by_log (contents_in ts ++ cs)) (contents_of_frames (y ∷ ys))
      ∙ ap page_from_start (from_last-at is_start (contents_in ts) (said y) (contents_in ys) s (any-map said is_start ys ∙ n))
      ∙ ap (λ (fs : List Found). page_from_start (contents_in fs)) (sym e)
      ∙ sym before_is
  of_part y ys e s n h none false base =
      let free : said y ≡ Free = free_or_base (said y) s base in
      let is : page_by_log (contents_in (hs ++ ts)) ≡ page_from_start (Free ∷ contents_in ys) = before_is ∙ ap (λ (fs : List Found). page_from_start (contents_in fs)) e ∙ ap (λ (c : Content). page_from_start (c ∷ contents_in ys)) free in
      let alone : contents_in ys ≡ [] = free_alone (contents_in ys) (ap is_broken (sym is) ∙ sound) in
      ap (λ (fs : List Found). page_by_log (contents_in ts ++ carried_contents fs)) e
      ∙ ap (λ (fs : List Frame). page_by_log (contents_in ts ++ map (λ (f : Frame). f.content) fs)) (carried_free head y ys h base)
      ∙ ap page_by_log (append-nil (contents_in ts))
      ∙ missing (contents_in ts) (any-map said is_start ts ∙ none)
      ∙ ap (λ (cs : List Content). page_from_start (Free ∷ cs)) (sym alone)
      ∙ sym is

  starts_within : (fs : List Found) → from_last starts hs ≡ fs → list_any starts fs ≡ true → IsPart starts fs → AllByRecursion (λ f. nat_eq f.segment head ≡ true) fs → list_any starts hs ≡ true → list_any starts ts ≡ false → Same
  starts_within [] e some is a s none = absurd (cc)
  starts_within (y ∷ ys) e some is a s none =
      let both : part ≡ y ∷ ys ++ ts = from_last-more starts hs ts s none ∙ ap (λ (fs : List Found). fs ++ ts) e in
      of_part y (ys ++ ts) both is.0 (none-append starts ys ts is.1 none) a.0 none (is_base y.frame.content) refl

  -- it says the same
  same_by : (b c : Bool) → list_any starts ts ≡ b → list_any starts hs ≡ c → Same
  same_by true c e f = starts_after e
  same_by false false e f = no_start e f
  same_by false true e f = starts_within (from_last starts hs) refl (from_last-some starts hs f) (from_last-is starts hs) (from_last-all starts (λ f. nat_eq f.segment head ≡ true) hs within) f e

  pub same-state : Same
  same-state = same_by (list_any starts ts) (list_any starts hs) refl refl
