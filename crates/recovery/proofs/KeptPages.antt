-- What is retained of the pages of a log, in the order of their pids, and the pages that the retained frames determine.
use Rattle.std.specs.Prelude.{◌≡◌, ℕ, zero, suc, ◌≤◌, Bool, true, false, cond, ◌||◌, nat_eq, List, [], ◌∷◌, length, map, fold, Option, Some, None, is_some, Result, Ok}
use Rattle.std.proofs.Common.{refl, sym, ap, ◌∙◌, subst, arith, length-append}
use Rattle.std.specs.BTreeMap.{BTreeMap}
use Rattle.std.specs.List.{AllByRecursion}
use Rattle.std.specs.List.Sorted.{IsStrictlySortedBy}
use Rattle.std.specs.Map.{keys_of, lookup}
use Rattle.std.specs.Ordering.{nat_cmp}
use Rattle.std.proofs.lemmas.Bool.{eqb-true, eq-eqb}
use Rattle.keys.specs.Limits.{first_bad_field}
use Rattle.index_page.proofs.ListLemmas.{all-filter}
use Rattle.mapping.specs.Finding.{Finding}
use Rattle.mapping.specs.FreshPids.{is_among}
use Rattle.mapping.specs.Proper.{AreRisingPids}
use Rattle.mapping.proofs.KnownPids.{rising-with_numbers}
use Rattle.frame_codec.specs.declared.format.Format.{Format}
use Rattle.frame_codec.specs.Frame.{Content, Frame, bytes_of, is_frame}
use Rattle.frame_codec.specs.Frame.Content.{FullLeaf, DeltaLeaf, FullIndex, DeltaIndex, Free}
use Rattle.frame_codec.proofs.FrameLemmas.{in_limits, frame-back}
use Rattle.flush_log.specs.Reading.{Found, is_at_tail, with_first, read_frames}
use Rattle.recovery.specs.Gathered.{live_frames, contents_in, wanted_of, encoded, IsStateOf, IsKept, IsKeptOf, AreKept, AreLive, is_unfit, first_unfit}
use Rattle.recovery.specs.LogPages.{in_log, pids_of, broken_under, broken_in}
use Rattle.recovery.specs.PageByLog.{is_base, is_start, from_last, continued, page_from_start, page_in, is_broken}
use Rattle.recovery.specs.PageByLog.InLog.{Missing}
use Rattle.recovery.specs.Rebuild.{all_or_none, frames_of_bytes}
use Rattle.recovery.specs.StoreOfDisk.{frames_in}
use Rattle.recovery.specs.declared.gather.Gathering.{Gathering}
use Rattle.recovery.specs.declared.gather.Kept.{Kept}
use Rattle.recovery.specs.declared.gather.PageState.{PageState}
use Rattle.recovery.specs.declared.gather.PageState.TheVariants as state
use Rattle.recovery.specs.declared.gather.Wanted.{Wanted}
use Rattle.recovery.specs.declared.gather.Wanted.TheVariants.{Every}
use Rattle.recovery.proofs.BrokenLemmas.{broken-stays, missing-breaks}
use Rattle.recovery.proofs.GatherLemmas.{lookup-same, same_rising, keys-rise, none_above, there, among_found}
use Rattle.recovery.proofs.KeptLemmas.{said, starts, of_pid, contents-found, kept-some, some_bytes}
use Rattle.recovery.proofs.PagesLemmas.{pids, among-pids_of}
use Rattle.recovery.proofs.PartLemmas.{from_last-map, from_last-all}
use Rattle.recovery.proofs.ScanLemmas.{goes_on}

-- ---- under each pid

looked_up : (b : Bool) (k : ℕ) (v : Kept) (n : ℕ) (es : List (ℕ × Kept)) → nat_eq n k ≡ b → lookup (nat_eq n) ((k, v) ∷ es) ≡ cond b (Some v) (lookup (nat_eq n) es)
looked_up true k v n es e = rw e refl
looked_up false k v n es e = rw e refl

module _ (w : Wanted) (found : List Found) where
  -- under each existing pid, what is retained of its page
  abbrev pub KeepEach : List (ℕ × Kept) → Type 0
  KeepEach es = (n : ℕ) → is_among n (keys_of es) ≡ true → IsKeptOf w (lookup (nat_eq n) es) (live_frames n found)

  pub first_is : (k : ℕ) (v : Kept) (es : List (ℕ × Kept)) → KeepEach ((k, v) ∷ es) → IsKept w v (live_frames k found)
  first_is k v es h = kept-some w (lookup (nat_eq k) ((k, v) ∷ es)) v (live_frames k found) (looked_up true k v k es (eq-eqb k k refl)) (h k (there k (keys_of es)))

  pub later_are : (k : ℕ) (v : Kept) (es : List (ℕ × Kept)) → AreRisingPids (keys_of ((k, v) ∷ es)) → KeepEach ((k, v) ∷ es) → KeepEach es
  later_are k v es r h n among = of (nat_eq n k) refl
    where
      of : (b : Bool) → nat_eq n k ≡ b → IsKeptOf w (lookup (nat_eq n) es) (live_frames n found)
      of true e =
          let none : is_among n (keys_of es) ≡ false = subst (λ (j : ℕ). is_among j (keys_of es) ≡ false) (sym (eqb-true n k e)) (none_above k (keys_of es) r.0) in
          let both : true ≡ false = sym among ∙ none in
          absurd (cc)
      of false e = subst (λ (o : Option Kept). IsKeptOf w o (live_frames n found)) (looked_up false k v n es e) (h n (ap (λ (b : Bool). b || is_among n (keys_of es)) e ∙ among))

-- what is retained, by rising pid, for each pid with a frame
pub record AreInOrder (w : Wanted) (found : List Found) (es : List (ℕ × Kept)) : Type 0 where
  pub rise : AreRisingPids (keys_of es)
  pub each : KeepEach w found es
  pub all : keys_of es ≡ pids_of (frames_in found)

pids-found : (found : List Found) → map (λ (f : Found). f.frame.pid) found ≡ pids (frames_in found)
pids-found [] = refl
pids-found (f ∷ fs) = ap (λ (ns : List ℕ). f.frame.pid ∷ ns) (pids-found fs)

pub in-order : (w : Wanted) (by_pid : BTreeMap ℕ Kept) (found : List Found) → IsStrictlySortedBy nat_cmp (keys_of by_pid.entries) → AreKept w by_pid found → AreInOrder w found by_pid.entries
in-order w by_pid found sorted h =
    let es = by_pid.entries in
    let fs = frames_in found in
    let rise : AreRisingPids (keys_of es) = keys-rise (keys_of es) sorted in
    let among : (n : ℕ) → is_among n (keys_of es) ≡ is_among n (pids_of fs) =
    λ n. among_found n es ∙ ap (λ o. is_some o) (sym (lookup-same n es)) ∙ h.pids n ∙ ap (λ (ns : List ℕ). is_among n ns) (pids-found found) ∙ sym (among-pids_of fs n) in
    record {
      rise = rise;
      each = λ n among. subst (λ (o : Option Kept). IsKeptOf w o (live_frames n found)) (lookup-same n es) (h.each n);
      all = same_rising (keys_of es) (pids_of fs) rise (rising-with_numbers (pids fs) [] tt) among;
    }

-- ---- the page that the log determines

-- it is what its live frames say
pub state-in_log : (found : List Found) (pid : ℕ) → in_log (frames_in found) pid ≡ page_from_start (contents_in (live_frames pid found))
state-in_log found pid =
    ap (λ (cs : List Content). page_from_start (from_last is_start cs)) (contents-found pid found)
    ∙ ap page_from_start (from_last-map said is_start (of_pid pid found))

-- the state of a page is unfit where the log says so
state_unfit : (t : PageState) (cs : List Content) → IsStateOf t cs → is_unfit t ≡ is_broken (page_from_start cs)
state_unfit state.Nothing cs h = ap (λ (ds : List Content). is_broken (page_from_start ds)) (sym h)
state_unfit state.Leaf cs (p, h) = ap is_broken (sym h)
state_unfit state.Index cs (p, h) = ap is_broken (sym h)
state_unfit state.Free cs h = ap (λ (ds : List Content). is_broken (page_from_start ds)) (sym h)
state_unfit state.Unfit cs h = ap is_broken (sym h)

module _ (w : Wanted) (found : List Found) where
  abbrev unfit_at : ℕ → Option Finding
  unfit_at pid = Some (record { rule = 1; pid = pid })

  kept_unfit : (es : List (ℕ × Kept)) → AreRisingPids (keys_of es) → KeepEach w found es → first_unfit es ≡ broken_under (frames_in found) (keys_of es)
  kept_unfit [] r h = refl
  kept_unfit ((k, v) ∷ es) r h =
      ap (λ (b : Bool). cond b (unfit_at k) (first_unfit es)) (state_unfit v.state (contents_in (live_frames k found)) (first_is w found k v es h).state ∙ ap is_broken (sym (state-in_log found k)))
      ∙ ap (λ (o : Option Finding). cond (is_broken (in_log (frames_in found) k)) (unfit_at k) o) (kept_unfit es r.1 (later_are w found k v es r h))

-- the first page whose frames fit no page is that of the log
pub unfit-found : (w : Wanted) (g : Gathering) (found : List Found) → IsStrictlySortedBy nat_cmp (keys_of g.by_pid.entries) → AreLive w g found → first_unfit g.by_pid.entries ≡ broken_in (frames_in found)
unfit-found w g found sorted live =
    let order = in-order w g.by_pid found sorted live.kept in
    kept_unfit w found g.by_pid.entries order.rise order.each ∙ ap (λ (ns : List ℕ). broken_under (frames_in found) ns) order.all

-- one entry after the other
next-unfit : (e : ℕ × Kept) (es : List (ℕ × Kept)) (b : Bool) → is_unfit e.1.state ≡ b → first_unfit (e ∷ es) ≡ cond b (Some (record { rule = 1; pid = e.0 })) (first_unfit es)
next-unfit e es b is = ap (λ (c : Bool). (let o : Option Finding = Some (record { rule = 1; pid = e.0 }) in cond c o (first_unfit es))) is

-- of these entries the first is unfit, or is passed over
pub unfit-here : (left rest every : List (ℕ × Kept)) (e : ℕ × Kept) → left ≡ e ∷ rest → first_unfit left ≡ first_unfit every → is_unfit e.1.state ≡ true → first_unfit every ≡ Some (record { rule = 1; pid = e.0 })
unfit-here left rest every e is same unfit = sym same ∙ ap first_unfit is ∙ next-unfit e rest true unfit

pub unfit-later : (left rest every : List (ℕ × Kept)) (e : ℕ × Kept) → left ≡ e ∷ rest → first_unfit left ≡ first_unfit every → is_unfit e.1.state ≡ false → first_unfit rest ≡ first_unfit every
unfit-later left rest every e is same fits = sym (ap first_unfit is ∙ next-unfit e rest false fits) ∙ same

-- ---- concatenated frames

abbrev all_read : List Frame → Result (List Frame) ℕ
all_read fs = Ok fs

module _ (s : Format) (good : first_bad_field s.settings ≡ None) where
  frames_back : (fs : List Frame) → AllByRecursion (λ f. is_frame s f ≡ true) fs → (most : ℕ) → length (encoded fs) ≤ most → read_frames s is_at_tail most (encoded fs) ≡ all_read fs
  frames_back [] a zero h = refl
  frames_back [] a (suc most) h = refl
  frames_back (f ∷ fs) a zero h =
      let some = some_bytes f in
      let long = length-append (bytes_of f) (encoded fs) in
      absurd (omega (arith, some, long, h))
  frames_back (f ∷ fs) a (suc most) h =
      let some = some_bytes f in
      let long = length-append (bytes_of f) (encoded fs) in
      goes_on s is_at_tail most (encoded (f ∷ fs)) (encoded fs) f refl (frame-back s (in_limits s.settings good) f a.0 (encoded fs))
      ∙ ap (λ (r : Result (List Frame) ℕ). with_first f r) (frames_back fs a.1 most (omega (arith, some, long, h)))

  -- they are read again
  pub bytes-frames : (fs : List Frame) → AllByRecursion (λ f. is_frame s f ≡ true) fs → frames_of_bytes s (encoded fs) ≡ fs
  bytes-frames fs a = ap all_or_none (frames_back fs a (length (encoded fs)) (omega arith))

module _ (s : Format) where
  pub live_frames-within : (pid : ℕ) (found : List Found) → AllByRecursion (λ f. is_frame s f.frame ≡ true) found → AllByRecursion (λ f. is_frame s f.frame ≡ true) (live_frames pid found)
  live_frames-within pid found a = from_last-all starts (λ f. is_frame s f.frame ≡ true) (of_pid pid found) (all-filter (λ f. is_frame s f.frame ≡ true) (λ f. nat_eq f.frame.pid pid) found a)

  all_frames : (fs : List Found) → AllByRecursion (λ f. is_frame s f.frame ≡ true) fs → AllByRecursion (λ f. is_frame s f ≡ true) (frames_in fs)
  all_frames [] a = tt
  all_frames (f ∷ fs) a = (a.0, all_frames fs a.1)

  wanted_by : (b : Bool) (fs : List Frame) → AllByRecursion (λ f. is_frame s f ≡ true) fs → AllByRecursion (λ f. is_frame s f ≡ true) (cond b fs [])
  wanted_by true fs a = a
  wanted_by false fs a = tt

  pub wanted-within : (w : Wanted) (fs : List Found) → AllByRecursion (λ f. is_frame s f.frame ≡ true) fs → AllByRecursion (λ f. is_frame s f ≡ true) (wanted_of w fs)
  wanted-within w [] a = tt
  wanted-within w (f ∷ fs) a = wanted_by _ (frames_in (f ∷ fs)) (all_frames (f ∷ fs) a)

-- ---- the frames of every page

pub contents_of_frames : (fs : List Found) → map (λ (f : Frame). f.content) (frames_in fs) ≡ contents_in fs
contents_of_frames [] = refl
contents_of_frames (f ∷ fs) = ap (λ (cs : List Content). f.frame.content ∷ cs) (contents_of_frames fs)

missing_none : (cs : List Content) → page_in (fold continued Missing cs) ≡ None
missing_none [] = refl
missing_none (c ∷ cs) = ap page_in (ap (λ t. fold continued t cs) (missing-breaks c) ∙ broken-stays cs)

-- after a content that is no base there is no page
pub none-page : (c : Content) (cs : List Content) → is_base c ≡ false → page_in (page_from_start (c ∷ cs)) ≡ None
none-page (FullLeaf encoding low base) cs e = absurd (cc)
none-page (DeltaLeaf run) cs e = missing_none cs
none-page (FullIndex encoding low base) cs e = absurd (cc)
none-page (DeltaIndex run) cs e = missing_none cs
none-page Free cs e = missing_none cs

-- if what is retained of every page is right, what is retained of a page determines it
pub wanted-page : (fs : List Found) → page_in (page_from_start (map (λ (f : Frame). f.content) (wanted_of Every fs))) ≡ page_in (page_from_start (contents_in fs))
wanted-page [] = refl
wanted-page (f ∷ fs) = of (is_base f.frame.content) refl
  where
    of : (b : Bool) → is_base f.frame.content ≡ b → page_in (page_from_start (map (λ (g : Frame). g.content) (wanted_of Every (f ∷ fs)))) ≡ page_in (page_from_start (contents_in (f ∷ fs)))
    of true e = rw e (ap (λ (cs : List Content). page_in (page_from_start cs)) (contents_of_frames (f ∷ fs)))
    of false e = rw e (sym (none-page f.frame.content (contents_in fs) e))
