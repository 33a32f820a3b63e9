-- The frames of a flush, job by job.
use Rattle.std.proofs.Common.{◌≡◌, ◌≢◌, ℕ, zero, suc, ◌^◌, ◌<◌, true, List, [], ◌∷◌, ◌++◌, length, map, flat_map, reverse, drop, Option, Some, None, IsSome, Result, Ok, Err, IfOk, IsTrue, ◌↔◌, Bool, false, nat_le, get_or, refl, sym, ap, ap₂, ◌∙◌, arith, subst, leb-true, le-leb, append_assoc, append-nil}
use Rattle.std.specs.List.{AllByRecursion, filter}
use Rattle.std.specs.Map.{keys_of}
use Rattle.std.proofs.lemmas.List.{reverse-append, drop_all, length-drop, map-append}
use Rattle.std.proofs.lemmas.Grind.{flat_map-append}
use Rattle.keys.specs.Bytes.{Bytes}
use Rattle.keys.specs.Limits.{first_bad_field}
use Rattle.keys.specs.declared.settings.Settings.{Settings}
use Rattle.keys.specs.declared.version.Version.{Version}
use Rattle.keys.specs.declared.version.Version.TheVariants.{One, Two}
use Rattle.keys.proofs.LimitLemmas.{checked}
use Rattle.index_page.specs.Page.{PageOfKind}
use Rattle.index_page.specs.Page.PageOfKind.{Leaf, Index}
use Rattle.index_page.specs.Rules.{is_short_value, IsShortValue, is_any_pid, IsAnyPid}
use Rattle.index_page.proofs.ListLemmas.{all-append, all_weaker}
use Rattle.mapping.specs.Flushed.{page_depth, depth_counted}
use Rattle.mapping.specs.Proper.{IsProper}
use Rattle.mapping.specs.Table.{is_old, with_numbers, pids_in_use_or_old}
use Rattle.mapping.specs.Tree.{Logged, Tree, page_at, logged_of}
use Rattle.mapping.specs.Tree.Logged.{No, Old, Upto}
use Rattle.mapping.specs.TreeInMemory.{TreeInMemory, AreAllHome, home_pages, tree_of}
use Rattle.frame_codec.specs.declared.format.Format.{Format}
use Rattle.frame_codec.specs.declared.format.KeyEncoding.{KeyEncoding}
use Rattle.frame_codec.specs.Frame.{Content, Frame, bytes_of, is_run, is_known, is_readable, is_frame}
use Rattle.frame_codec.specs.Frame.Content.{DeltaLeaf, DeltaIndex}
use Rattle.frame_codec.specs.Sized.{has_sizes, IsSized, FitsU64}
use Rattle.frame_codec.proofs.WithinLemmas.{decides-value, page_passes}
use Rattle.flush_log.specs.FlushText.{encoding_of, base_content, run_contents, lacking, frames_of, version_with, taken, pid_frames, pids_to_write, commit_frames, format_with, HasFrames}
use Rattle.flush_log.specs.ImageWork.{ImageHeld, job_held, held_of_pid, held_text, image_made, HasFewRuns, CanBeWritten, IsDue, IsOfStore}
use Rattle.flush_log.specs.Images.{frames_in}
use Rattle.flush_log.specs.declared.image_work.ImageJob.{ImageJob}
use Rattle.flush_log.specs.declared.text.CommitKind.{CommitKind}
use Rattle.flush_log.proofs.ProperPages.{IsGoodOfKind, page-is_good}
use Rattle.flush_log.proofs.WrittenLemmas.{length_contents}

-- ---- the pids

keys-home : {P : Type 0} (es : List (ℕ × Option P)) → AllByRecursion (λ e. IsSome e.1) es → keys_of es ≡ keys_of (home_pages es)
keys-home [] a = refl
keys-home ((n, Some p) ∷ es) a = ap (λ (ns : List ℕ). n ∷ ns) (keys-home es a.1)
keys-home ((n, None) ∷ es) a = absurd (cc)

-- if no page is checked out, the pids that a table knows are those that a flush examines
pub known-pids : (t : TreeInMemory) → AreAllHome t → pids_in_use_or_old t.table ≡ pids_to_write (tree_of t)
known-pids t home = ap (λ (ns : List ℕ). with_numbers (keys_of (filter (λ l. is_old l.1) t.table.logged)) ns) (keys-home t.table.places home)

-- ---- sizes

module _ {X : Type 0} (P : X → Type 0) where
  all-reverse : (xs : List X) → AllByRecursion P xs → AllByRecursion P (reverse xs)
  all-reverse [] a = tt
  all-reverse (x ∷ xs) a = subst (λ (ys : List X). AllByRecursion P ys) (sym (reverse-append (x ∷ []) xs)) (all-append P (reverse xs) (x ∷ []) (all-reverse xs a.1) (a.0, tt))

  all-drop : (k : ℕ) (xs : List X) → AllByRecursion P xs → AllByRecursion P (drop k xs)
  all-drop zero xs a = a
  all-drop (suc k) [] a = tt
  all-drop (suc k) (x ∷ xs) a = all-drop k xs a.1

  all-map : {Y : Type 0} (f : Y → X) (ys : List Y) → AllByRecursion (λ y. P (f y)) ys → AllByRecursion P (map f ys)
  all-map f [] a = tt
  all-map f (y ∷ ys) a = (a.0, all-map f ys a.1)

module _ (s : Settings) where
  abbrev Sized : Content → Type 0
  Sized c = has_sizes s c ≡ true

  page_sized : (encoding : KeyEncoding) (p : PageOfKind) → IsGoodOfKind s p → Sized (base_content encoding p) × AllByRecursion Sized (run_contents p)
  page_sized encoding (Leaf p) good =
      let r = page_passes s (is_short_value s) (IsShortValue s) (decides-value s) p good.low good.rising good.fits in
      (r.0, all-map Sized (λ run. DeltaLeaf run) (reverse p.layers.runs) (all-reverse (λ run. is_run s (is_short_value s) run ≡ true) p.layers.runs r.1))
  page_sized encoding (Index p) good =
      let r = page_passes s is_any_pid IsAnyPid (λ q. (λ h. tt, λ h. refl)) p good.low good.rising good.fits in
      (r.0, all-map Sized (λ run. DeltaIndex run) (reverse p.layers.runs) (all-reverse (λ run. is_run s is_any_pid run ≡ true) p.layers.runs r.1))

  lacking_sized : (encoding : KeyEncoding) (o : Option PageOfKind) (l : Logged) → ((p : PageOfKind) → o ≡ Some p → IsGoodOfKind s p) → AllByRecursion Sized (lacking encoding o l)
  lacking_sized encoding (Some p) No f = page_sized encoding p (f p refl)
  lacking_sized encoding (Some p) Old f = page_sized encoding p (f p refl)
  lacking_sized encoding (Some p) (Upto k) f = all-drop Sized k (run_contents p) (page_sized encoding p (f p refl)).1
  lacking_sized encoding None No f = tt
  lacking_sized encoding None Old f = (refl, tt)
  lacking_sized encoding None (Upto k) f = tt

  few_by : first_bad_field s ≡ None → (o : Option PageOfKind) → ((p : PageOfKind) → o ≡ Some p → IsGoodOfKind s p) → HasFewRuns o
  few_by good None f = tt
  few_by good (Some (Leaf p)) f = let most = (checked s good).chain in let depth = (f (Leaf p) refl).fits.depth in omega arith
  few_by good (Some (Index p)) f = let most = (checked s good).chain in let depth = (f (Index p) refl).fits.depth in omega arith

-- a log of a version may contain what a store of that version writes
known : (version : Version) → is_known version (encoding_of version) ≡ true
known One = refl
known Two = refl

-- with these sizes, and readable in this version
abbrev IsFit : Format → Content → Type 0
IsFit g c = (is_readable g.version c ≡ true) × (has_sizes g.settings c ≡ true)

-- frames that fit so, whose words are known
frames_by : (g : Format) (fs : List Frame) → AllByRecursion (λ f. IsFit g f.content) fs → AllByRecursion FitsU64 fs → AllByRecursion (λ f. is_frame g f ≡ true) fs
frames_by g [] a w = tt
frames_by g (f ∷ fs) a w = (w.0 g a.0.0 a.0.1, frames_by g fs a.1 w.1)

all_so : {X : Type 0} (xs : List X) → AllByRecursion (λ x. true ≡ true) xs
all_so [] = tt
all_so (x ∷ xs) = (refl, all_so xs)

-- the missing part of a page is readable in this way
module _ (version : Version) where
  abbrev Readable : Content → Type 0
  Readable c = is_readable version c ≡ true

  runs_readable : (p : PageOfKind) → AllByRecursion Readable (run_contents p)
  runs_readable (Leaf p) = all-map Readable (λ run. DeltaLeaf run) (reverse p.layers.runs) (all_so (reverse p.layers.runs))
  runs_readable (Index p) = all-map Readable (λ run. DeltaIndex run) (reverse p.layers.runs) (all_so (reverse p.layers.runs))

  base_readable : (p : PageOfKind) → Readable (base_content (encoding_of version) p)
  base_readable (Leaf p) = known version
  base_readable (Index p) = known version

  lacking_readable : (o : Option PageOfKind) (l : Logged) → AllByRecursion Readable (lacking (encoding_of version) o l)
  lacking_readable (Some p) No = (base_readable p, runs_readable p)
  lacking_readable (Some p) Old = (base_readable p, runs_readable p)
  lacking_readable (Some p) (Upto k) = all-drop Readable k (run_contents p) (runs_readable p)
  lacking_readable None No = tt
  lacking_readable None Old = (refl, tt)
  lacking_readable None (Upto k) = tt

all_both : {X : Type 0} (P Q : X → Type 0) (xs : List X) → AllByRecursion P xs → AllByRecursion Q xs → AllByRecursion (λ x. P x × Q x) xs
all_both P Q [] a b = tt
all_both P Q (x ∷ xs) a b = ((a.0, b.0), all_both P Q xs a.1 b.1)

-- each pid of the tree of a store can be written
pub can_be_written : (text : CommitKind) (t : Tree) (pid : ℕ) → IsOfStore t → CanBeWritten (held_of_pid text t pid)
can_be_written text t pid (s, good, proper) =
    let page : Option PageOfKind = page_at t.pages pid in
    let encoding : KeyEncoding = encoding_of (version_with text) in
    let logged : Logged = taken text (logged_of t pid) in
    record {
      sized = all_weaker (λ c. has_sizes s c ≡ true) IsSized (λ c h. (s, good, h)) (lacking encoding page logged) (lacking_sized s encoding page logged (λ p e. page-is_good s t proper pid p e));
      few = few_by s good page (λ p e. page-is_good s t proper pid p e);
    }

-- if all page ids have 64 bits, the store may have the frames of the commit
pub text-frames : (text : CommitKind) (t : Tree) → AllByRecursion FitsU64 (commit_frames text t) → (s : Settings) → IsProper s t → HasFrames s text t
text-frames text t words s proper = frames_by (format_with s text) (commit_frames text t) (fit (pids_to_write t)) words
  where
    fit : (pids : List ℕ) → AllByRecursion (λ f. IsFit (format_with s text) f.content) (flat_map (pid_frames text t) pids)
    fit [] = tt
    fit (pid ∷ pids) =
        let version : Version = version_with text in
        let page : Option PageOfKind = page_at t.pages pid in
        let logged : Logged = taken text (logged_of t pid) in
        let due : List Content = lacking (encoding_of version) page logged in
        let sized = lacking_sized s (encoding_of version) page logged (λ p e. page-is_good s t proper pid p e) in
        let here = all_both (λ c. is_readable version c ≡ true) (λ c. has_sizes s c ≡ true) due (lacking_readable version page logged) sized in
        all-append (λ f. IsFit (format_with s text) f.content) (pid_frames text t pid) (flat_map (pid_frames text t) pids)
        (all-map (λ f. IsFit (format_with s text) f.content) (λ c. record { pid = pid; content = c }) due here) (fit pids)

-- ---- the jobs

-- the frames so far, and those of the remaining pids
abbrev pub text_with : CommitKind → Tree → List ImageHeld → List ℕ → List Frame
text_with text t hs left = flat_map held_text hs ++ flat_map (pid_frames text t) left

pub text-skip : (text : CommitKind) (t : Tree) (hs : List ImageHeld) (pid : ℕ) (left : List ℕ) (all : List Frame) → text_with text t hs (pid ∷ left) ≡ all
    → lacking (encoding_of (version_with text)) (page_at t.pages pid) (taken text (logged_of t pid)) ≡ [] → text_with text t hs left ≡ all
text-skip text t hs pid left all h none = ap (λ (cs : List Content). flat_map held_text hs ++ (frames_of pid cs ++ flat_map (pid_frames text t) left)) (sym none) ∙ h

pub text-push : (text : CommitKind) (t : Tree) (hs : List ImageHeld) (pid : ℕ) (left : List ℕ) (all : List Frame) → text_with text t hs (pid ∷ left) ≡ all → text_with text t (hs ++ held_of_pid text t pid ∷ []) left ≡ all
text-push text t hs pid left all h =
    let rest : List Frame = flat_map (pid_frames text t) left in
    let one : flat_map held_text (held_of_pid text t pid ∷ []) ≡ pid_frames text t pid = append-nil (pid_frames text t pid) in
    ap (λ (fs : List Frame). fs ++ rest) (flat_map-append held_text hs (held_of_pid text t pid ∷ []) ∙ ap (λ (fs : List Frame). flat_map held_text hs ++ fs) one)
    ∙ append_assoc (flat_map held_text hs) (pid_frames text t pid) rest ∙ h

-- ---- the images

pub images-joined : (hs : List ImageHeld) → frames_in (map image_made hs) ≡ map (λ f. bytes_of f) (flat_map held_text hs)
images-joined [] = refl
images-joined (h ∷ hs) = ap (λ (bs : List Bytes). image_made h ++ bs) (images-joined hs) ∙ sym (map-append (λ f. bytes_of f) (held_text h) (flat_map held_text hs))

none_of : (fs : List Frame) → map (λ f. bytes_of f) fs ≡ [] → fs ≡ []
none_of [] e = refl
none_of (f ∷ fs) e = absurd (cc)

pub images-some : (hs : List ImageHeld) → AllByRecursion IsDue hs → AllByRecursion (λ image. image ≢ []) (map image_made hs)
images-some [] a = tt
images-some (h ∷ hs) a = (λ e. a.0.1 (none_of (held_text h) e), images-some hs a.1)

-- ---- whether something is to be written

abbrev pub IsWritten : KeyEncoding → Option PageOfKind → Logged → Bool → Type 0
IsWritten encoding o l b = IsTrue b ↔ (lacking encoding o l ≡ [])

length_runs : (p : PageOfKind) → length (run_contents p) ≡ page_depth p
length_runs (Leaf p) = length_contents (λ run. DeltaLeaf run) p.layers.runs
length_runs (Index p) = length_contents (λ run. DeltaIndex run) p.layers.runs

pub depth_at : (encoding : KeyEncoding) (p : PageOfKind) (kept depth : ℕ) → page_depth p < 2 ^ 31 → depth ≡ depth_counted p → IsWritten encoding (Some p) (Upto kept) (nat_le depth kept)
depth_at encoding p kept depth few d =
    let size = length_runs p in (
      λ h. (let most = leb-true depth kept h in drop_all kept (run_contents p) (omega arith)),
      λ e. (let left = length-drop kept (run_contents p) in let none : length (drop kept (run_contents p)) ≡ 0 = ap length e in le-leb depth kept (omega arith)),
    )

pub depth_written : (encoding : KeyEncoding) (o : Option PageOfKind) (l : Logged) (p : PageOfKind) (kept depth : ℕ) → o ≡ Some p → l ≡ Upto kept → HasFewRuns o → depth ≡ depth_counted p → IsWritten encoding o l (nat_le depth kept)
depth_written encoding o l p kept depth is state few d =
    subst (λ (q : Option PageOfKind). HasFewRuns q → IsWritten encoding q l (nat_le depth kept)) (sym is)
    (λ few. subst (λ (m : Logged). IsWritten encoding (Some p) m (nat_le depth kept)) (sym state) (depth_at encoding p kept depth few d)) few

no_frames : (pid : ℕ) (cs : List Content) → frames_of pid cs ≡ [] → cs ≡ []
no_frames pid [] e = refl
no_frames pid (c ∷ cs) e = absurd (cc)

none_left : (fs gs : List Frame) → fs ++ gs ≡ [] → fs ≡ []
none_left [] gs e = refl
none_left (f ∷ fs) gs e = absurd (cc)

-- a job where the test says that something is to be written
pub some_due : (text : CommitKind) (t : Tree) (pid : ℕ) (page : Option PageOfKind) (l : Logged) (b : Bool) → page ≡ page_at t.pages pid → l ≡ taken text (logged_of t pid)
    → ((encoding : KeyEncoding) → IsWritten encoding page l b) → b ≡ false → pid_frames text t pid ≢ []
some_due text t pid page l b p e is fails none =
    let encoding : KeyEncoding = encoding_of (version_with text) in
    let w = is encoding in
    let lacks : lacking encoding page l ≡ [] = ap₂ (lacking encoding) p e ∙ no_frames pid (lacking encoding (page_at t.pages pid) (taken text (logged_of t pid))) none in
    let yes : b ≡ true = w.1 lacks in
    absurd (cc)

pub not_all_written : (text : CommitKind) (t : Tree) (pid : ℕ) (left from : List ℕ) (all : List Frame) → from ≡ pid ∷ left → flat_map (pid_frames text t) from ≡ all → pid_frames text t pid ≢ [] → all ≢ []
not_all_written text t pid left from all e h some none =
    let is : pid_frames text t pid ++ flat_map (pid_frames text t) left ≡ [] = ap (λ (ns : List ℕ). flat_map (pid_frames text t) ns) (sym e) ∙ h ∙ none in
    some (none_left (pid_frames text t pid) (flat_map (pid_frames text t) left) is)

-- and one where it says that nothing is
pub written-skip : (text : CommitKind) (t : Tree) (pid : ℕ) (left from : List ℕ) (all : List Frame) (page : Option PageOfKind) (l : Logged) (b : Bool) → from ≡ pid ∷ left → flat_map (pid_frames text t) from ≡ all
    → page ≡ page_at t.pages pid → l ≡ taken text (logged_of t pid) → ((encoding : KeyEncoding) → IsWritten encoding page l b) → b ≡ true → flat_map (pid_frames text t) left ≡ all
written-skip text t pid left from all page l b e h p q is holds =
    let encoding : KeyEncoding = encoding_of (version_with text) in
    let none : lacking encoding (page_at t.pages pid) (taken text (logged_of t pid)) ≡ [] = ap₂ (lacking encoding) (sym p) (sym q) ∙ (is encoding).0 holds in
    text-skip text t [] pid left all (ap (λ (ns : List ℕ). flat_map (pid_frames text t) ns) (sym e) ∙ h) none

pub few_runs : (text : CommitKind) (t : Tree) (pid : ℕ) (h : ImageHeld) → h ≡ held_of_pid text t pid → CanBeWritten (held_of_pid text t pid) → HasFewRuns h.page
few_runs text t pid h e can = subst (λ (g : ImageHeld). HasFewRuns g.page) (sym e) can.few

-- ---- jobs that are listed

pub jobs-start : (text : CommitKind) (t : TreeInMemory) (from : List ℕ) → AreAllHome t → from ≡ pids_in_use_or_old t.table → flat_map (pid_frames text (tree_of t)) from ≡ commit_frames text (tree_of t)
jobs-start text t from home e = ap (λ (ns : List ℕ). flat_map (pid_frames text (tree_of t)) ns) (e ∙ known-pids t home)

held-push : (text : CommitKind) (t : Tree) (js ks : List ImageJob) (j : ImageJob) (pid : ℕ) → ks ≡ js ++ j ∷ [] → job_held j ≡ held_of_pid text t pid → map job_held ks ≡ map job_held js ++ held_of_pid text t pid ∷ []
held-push text t js ks j pid e h = ap (λ (is : List ImageJob). map job_held is) e ∙ map-append job_held js (j ∷ []) ∙ ap (λ (g : ImageHeld). map job_held js ++ g ∷ []) h

pub jobs-push : (text : CommitKind) (t : Tree) (js ks : List ImageJob) (j : ImageJob) (pid : ℕ) (from left : List ℕ) (all : List Frame) → ks ≡ js ++ j ∷ [] → job_held j ≡ held_of_pid text t pid → from ≡ pid ∷ left
    → text_with text t (map job_held js) from ≡ all → text_with text t (map job_held ks) left ≡ all
jobs-push text t js ks j pid from left all e h l is =
    ap (λ (hs : List ImageHeld). text_with text t hs left) (held-push text t js ks j pid e h)
    ∙ text-push text t (map job_held js) pid left all (ap (λ (ns : List ℕ). text_with text t (map job_held js) ns) (sym l) ∙ is)

-- and one with nothing to be written
pub jobs-skip : (text : CommitKind) (t : Tree) (hs : List ImageHeld) (pid : ℕ) (from left : List ℕ) (all : List Frame) (page : Option PageOfKind) (l : Logged) (b : Bool) → from ≡ pid ∷ left → text_with text t hs from ≡ all
    → page ≡ page_at t.pages pid → l ≡ taken text (logged_of t pid) → ((encoding : KeyEncoding) → IsWritten encoding page l b) → b ≡ true → text_with text t hs left ≡ all
jobs-skip text t hs pid from left all page l b e h p q is holds =
    let encoding : KeyEncoding = encoding_of (version_with text) in
    let none : lacking encoding (page_at t.pages pid) (taken text (logged_of t pid)) ≡ [] = ap₂ (lacking encoding) (sym p) (sym q) ∙ (is encoding).0 holds in
    text-skip text t hs pid left all (ap (λ (ns : List ℕ). text_with text t hs ns) (sym e) ∙ h) none

pub due-push : (text : CommitKind) (t : Tree) (js ks : List ImageJob) (j : ImageJob) (pid : ℕ) → ks ≡ js ++ j ∷ [] → job_held j ≡ held_of_pid text t pid → AllByRecursion IsDue (map job_held js) → IsDue (held_of_pid text t pid)
    → AllByRecursion IsDue (map job_held ks)
due-push text t js ks j pid e h due one =
    subst (λ (hs : List ImageHeld). AllByRecursion IsDue hs) (sym (held-push text t js ks j pid e h)) (all-append IsDue (map job_held js) (held_of_pid text t pid ∷ []) due (one, tt))

pub each_can_be_written : (js : List ImageJob) → AllByRecursion IsDue (map job_held js) → (k : ℕ) (d : ImageJob) → k < length js → CanBeWritten (job_held (get_or js k d))
each_can_be_written [] a k d l = absurd (omega arith)
each_can_be_written (j ∷ js) a zero d l = a.0.0
each_can_be_written (j ∷ js) a (suc k) d l = let m : k < length js = omega arith in each_can_be_written js a.1 k d m

-- ---- the images of a round

same_all : (hs : List ImageHeld) → map (λ h. h) hs ≡ hs
same_all [] = refl
same_all (h ∷ hs) = ap (λ (gs : List ImageHeld). h ∷ gs) (same_all hs)

module _ {X E : Type 0} (items : X → List (List Bytes)) (r : Result X E) (dones hs : List ImageHeld) (text : CommitKind) (t : Tree) (same : map (λ h. h) dones ≡ hs) (made : IfOk r (λ v. items v ≡ map image_made dones)) where
  held : dones ≡ hs
  held = sym (same_all dones) ∙ same

  each_ok : (P : List (List Bytes) → Type 0) → P (map image_made hs) → IfOk r (λ v. P (items v))
  each_ok P p = of r made
    where
      of : (q : Result X E) → IfOk q (λ v. items v ≡ map image_made dones) → IfOk q (λ v. P (items v))
      of (Ok v) e = subst P (sym (e ∙ ap (λ (gs : List ImageHeld). map image_made gs) held)) p
      of (Err x) e = tt

  pub images-text : flat_map held_text hs ≡ commit_frames text t → IfOk r (λ v. frames_in (items v) ≡ map (λ f. bytes_of f) (commit_frames text t))
  images-text is = each_ok (λ bs. frames_in bs ≡ map (λ f. bytes_of f) (commit_frames text t)) (images-joined hs ∙ ap (λ (fs : List Frame). map (λ f. bytes_of f) fs) is)

  pub images-are_some : AllByRecursion IsDue hs → IfOk r (λ v. AllByRecursion (λ image. image ≢ []) (items v))
  images-are_some due = each_ok (λ bs. AllByRecursion (λ image. image ≢ []) bs) (images-some hs due)

pub images-frames : {X E : Type 0} (r : Result X E) (dones hs : List ImageHeld) (text : CommitKind) (t : Tree) → map (λ h. h) dones ≡ hs → flat_map held_text hs ≡ commit_frames text t → IfOk r (λ _. AllByRecursion FitsU64 (flat_map held_text dones))
    → IfOk r (λ _. ((s : Settings) → IsProper s t → HasFrames s text t))
images-frames (Err x) dones hs text t same is words = tt
images-frames (Ok v) dones hs text t same is words =
    let all : flat_map held_text dones ≡ commit_frames text t = ap (λ (gs : List ImageHeld). flat_map held_text gs) (sym (same_all dones) ∙ same) ∙ is in
    text-frames text t (subst (λ (fs : List Frame). AllByRecursion FitsU64 fs) all words)
