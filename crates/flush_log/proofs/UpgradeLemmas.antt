-- The frames of an upgrade are those of a flush of version 2, as if each page in the log were outdated.
use Rattle.std.specs.Prelude.{◌≡◌, ◌≢◌, ℕ, Bool, true, false, ◌||◌, nat_eq, if◌then◌else◌, List, [], ◌∷◌, ◌++◌, flat_map, Option, Some, None}
use Rattle.std.specs.List.{AllByRecursion, filter}
use Rattle.std.specs.Map.{keys_of}
use Rattle.std.specs.Ordering.{nat_cmp, is_eq}
use Rattle.std.proofs.Common.{refl, sym, ap, ap₂, ◌∙◌, subst, ⊎_elim}
use Rattle.std.proofs.lemmas.Bool.{eqb-true}
use Rattle.keys.specs.Bytes.{Bytes}
use Rattle.keys.specs.declared.settings.Settings.{Settings}
use Rattle.keys.specs.declared.version.Version.TheVariants.{Two}
use Rattle.index_page.specs.Page.{PageOfKind}
use Rattle.index_page.specs.Page.PageOfKind.{Leaf}
use Rattle.mapping.specs.FreshPids.{is_among, with_number}
use Rattle.mapping.specs.Outdate.{outdate}
use Rattle.mapping.specs.Levels.{Placed, levels_of}
use Rattle.mapping.specs.Proper.{next_low, HasLeaves, IsTrueOf, AreLogsTrue, IsProper}
use Rattle.mapping.specs.Table.{is_old, with_numbers}
use Rattle.mapping.specs.Tree.{Logged, Tree, page_at, listed_at, or_no, logged_of}
use Rattle.mapping.specs.Tree.Logged.{No, Old, Upto}
use Rattle.mapping.proofs.PidLemmas.{all_among, among_either_by, among-with_number, or_true_right}
use Rattle.mapping.proofs.TableLemmas.{holds_where_found}
use Rattle.frame_codec.specs.declared.format.KeyEncoding.TheVariants.{PrefixCompressed}
use Rattle.frame_codec.specs.Frame.{Frame}
use Rattle.flush_log.specs.FlushText.{lacking, frames_of, pid_frames, pids_to_write, flush_frames, upgrade_frames, all_outdated, outdated}
use Rattle.flush_log.specs.declared.text.CommitKind.TheVariants.{Flush, Upgrade}

-- ---- the log state of a pid

listed-outdated : (ls : List (ℕ × Logged)) (pid : ℕ) → or_no (listed_at (all_outdated ls) pid) ≡ outdate (or_no (listed_at ls pid))
listed-outdated [] pid = refl
listed-outdated (l ∷ ls) pid = of (listed-outdated ls pid) (is_eq (nat_cmp pid l.0))
  where
    of : or_no (listed_at (all_outdated ls) pid) ≡ outdate (or_no (listed_at ls pid)) → (b : Bool) → or_no (if b then Some (outdate l.1) else listed_at (all_outdated ls) pid) ≡ outdate (or_no (if b then Some l.1 else listed_at ls pid))
    of rest true = refl
    of rest false = rest

-- ---- the pids that are written

-- a number that is among these stays so
stays_among : (m : ℕ) (ks ns : List ℕ) → is_among m ns ≡ true → is_among m (with_numbers ks ns) ≡ true
stays_among m [] ns h = h
stays_among m (k ∷ ks) ns h = of (stays_among m ks ns h) (is_among k (with_numbers ks ns))
  where
    of : is_among m (with_numbers ks ns) ≡ true → (b : Bool) → is_among m (if b then with_numbers ks ns else with_number k (with_numbers ks ns)) ≡ true
    of rest true = rest
    of rest false = among-with_number m k (with_numbers ks ns) ∙ ap (λ (b : Bool). nat_eq m k || b) rest ∙ or_true_right (nat_eq m k)

module _ (ps : List (ℕ × PageOfKind)) where
  -- a pid is in use if the log has its page's base
  in_use : (n k : ℕ) (o : Option PageOfKind) → page_at ps n ≡ o → IsTrueOf o (Upto k) → is_among n (keys_of ps) ≡ true
  in_use n k None e is = absurd (is)
  in_use n k (Some p) e is = holds_where_found (λ m. is_among m (keys_of ps) ≡ true) ps n p (all_among (keys_of ps)) e

  abbrev olds : List (ℕ × Logged) → List ℕ
  olds ls = keys_of (filter (λ l. is_old l.1) ls)

  abbrev with_one : ℕ → List ℕ → Bool → List ℕ
  with_one n ns b = if b then ns else with_number n ns

  same-pids : (ls : List (ℕ × Logged)) → AllByRecursion (λ l. IsTrueOf (page_at ps l.0) l.1) ls → with_numbers (olds (all_outdated ls)) (keys_of ps) ≡ with_numbers (olds ls) (keys_of ps)
  same-pids [] a = refl
  same-pids ((n, No) ∷ ls) a = absurd (a.0)
  same-pids ((n, Old) ∷ ls) a = ap (λ (ns : List ℕ). with_one n ns (is_among n ns)) (same-pids ls a.1)
  same-pids ((n, Upto k) ∷ ls) a =
      let others : List ℕ = with_numbers (olds (all_outdated ls)) (keys_of ps) in
      ap (with_one n others) (stays_among n (olds (all_outdated ls)) (keys_of ps) (in_use n k (page_at ps n) refl a.0)) ∙ same-pids ls a.1

-- ---- the frames

module _ (t : Tree) where
  same-text : (pids : List ℕ) → flat_map (pid_frames Upgrade t) pids ≡ flat_map (pid_frames (Flush Two) (outdated t)) pids
  same-text [] = refl
  same-text (pid ∷ pids) =
      ap₂ (λ (l : Logged) (fs : List Frame). frames_of pid (lacking PrefixCompressed (page_at t.pages pid) l) ++ fs) (sym (listed-outdated t.logged pid)) (same-text pids)

  pub upgrade-flush : AreLogsTrue t → upgrade_frames t ≡ flush_frames Two (outdated t)
  upgrade-flush true_logs = same-text (pids_to_write t) ∙ ap (λ (ns : List ℕ). flat_map (pid_frames (Flush Two) (outdated t)) ns) (sym (same-pids t.pages t.logged true_logs.each))

-- ---- it is never empty

none_left : (fs gs : List Frame) → fs ++ gs ≡ [] → (fs ≡ []) × (gs ≡ [])
none_left [] gs e = (refl, e)
none_left (f ∷ fs) gs e = absurd (cc)

-- if there are no frames for some pids, there are none for each of them
each_empty : (f : ℕ → List Frame) (n : ℕ) (ns : List ℕ) → is_among n ns ≡ true → flat_map f ns ≡ [] → f n ≡ []
each_empty f n [] among e = absurd (cc)
each_empty f n (m ∷ ms) among e =
    let (first, rest) = none_left (f m) (flat_map f ms) e in
    ⊎_elim (λ same. subst (λ (k : ℕ). f k ≡ []) (sym (eqb-true n m same)) first) (λ later. each_empty f n ms later rest) (among_either_by (nat_eq n m) (is_among n ms) among)

-- a whole page is at least its base
page_written : (pid : ℕ) (p : PageOfKind) (l : Logged) → frames_of pid (lacking PrefixCompressed (Some p) (outdate l)) ≢ []
page_written pid p No e = absurd (cc)
page_written pid p Old e = absurd (cc)
page_written pid p (Upto k) e = absurd (cc)

-- a tree with a page has one to write
written : (t : Tree) (pid : ℕ) (p : PageOfKind) → page_at t.pages pid ≡ Some p → upgrade_frames t ≢ []
written t pid p here none =
    let used = holds_where_found (λ m. is_among m (keys_of t.pages) ≡ true) t.pages pid p (all_among (keys_of t.pages)) here in
    let among : is_among pid (pids_to_write t) ≡ true = stays_among pid (keys_of (filter (λ l. is_old l.1) t.logged)) (keys_of t.pages) used in
    let empty : pid_frames Upgrade t pid ≡ [] = each_empty (pid_frames Upgrade t) pid (pids_to_write t) among none in
    page_written pid p (logged_of t pid) (subst (λ (o : Option PageOfKind). frames_of pid (lacking PrefixCompressed o (outdate (logged_of t pid))) ≡ []) here empty)

pub upgrade-some : (s : Settings) (t : Tree) → IsProper s t → upgrade_frames t ≢ []
upgrade-some s t proper = of (levels_of t).level proper.levels.first proper.held.leaves
  where
    of : (level : List (Placed Bytes)) → next_low level None ≡ Some [] → HasLeaves t.pages level → upgrade_frames t ≢ []
    of [] first leaves none = absurd (cc)
    of (p ∷ ps) first leaves none = written t p.pid (Leaf p.page) leaves.0 none
