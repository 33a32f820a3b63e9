-- The frames of a flush, computed from the due pids alone.
use Rattle.std.specs.Prelude.{◌≡◌, ℕ, zero, suc, eqb, ◌<◌, ◌≤◌, ◌⊎◌, ◌↔◌, ◌||◌, Bool, true, false, cond, nat_eq, List, [], ◌∷◌, ◌++◌, map, flat_map, get_or, length, Option, Some, None, is_some, Result, Ok, Err, IfOk}
use Rattle.std.proofs.Common.{refl, sym, ap, ap₂, ◌∙◌, arith, subst, inl, inr, le-leb}
use mathlib.Core.Bool.{false≢true}
use Rattle.std.specs.List.{AllByRecursion, AllPairs, Contains, dedup, filter}
use Rattle.std.specs.List.Sorted.{IsPermutation, IsSorted}
use Rattle.std.specs.Ordering.{nat_cmp, is_eq}
use Rattle.std.specs.Map.{keys_of, lookup}
use Rattle.std.proofs.lemmas.List.Kept.{AllPairs-from_increasing, Contains-dedup_nat}
use Rattle.std.proofs.lemmas.List.Sorted.{Contains-permutation}
use Rattle.std.proofs.lemmas.Map.Keys.{IsStrictlyIncreasing-dedup}
use Rattle.std.proofs.lemmas.Bool.{cases_lt, eqb-true, or_parts}
use Rattle.index_page.specs.Page.{PageOfKind}
use Rattle.mapping.specs.Due.{log_then, AreDue}
use Rattle.mapping.specs.Due.{IsWritten as IsInLog}
use Rattle.mapping.specs.Flushed.{depth_counted}
use Rattle.mapping.specs.FreshPids.{is_among}
use Rattle.mapping.specs.Proper.{AreRisingPids}
use Rattle.mapping.specs.Table.{at_home, place_of, log_of, is_same_pid, is_old}
use Rattle.mapping.specs.Tree.{Logged, page_at, or_no, logged_of}
use Rattle.mapping.specs.Tree.Logged.{No, Old, Upto}
use Rattle.mapping.specs.TreeInMemory.{TreeInMemory, AreAllHome, tree_of}
use Rattle.mapping.proofs.HomePages.{page-home}
use Rattle.mapping.proofs.InUse.{among-lookup}
use Rattle.mapping.proofs.KnownPids.{none_above, among-with_numbers, rising-with_numbers}
use Rattle.mapping.proofs.PidLemmas.{all_among, below_later, later_among}
use Rattle.mapping.proofs.TableLemmas.{same_pid}
use Rattle.keys.proofs.Basics.{equal_by}
use Rattle.keys.specs.declared.version.Version.{Version}
use Rattle.frame_codec.specs.Frame.{Content}
use Rattle.flush_log.specs.FlushText.{encoding_of, lacking, frames_of, pid_frames, pids_to_write, commit_frames, flush_frames}
use Rattle.flush_log.specs.ImageWork.{job_held, held_text, HasFewRuns, IsOfStore}
use Rattle.flush_log.specs.declared.image_work.ImageJob.{ImageJob}
use Rattle.flush_log.specs.declared.text.CommitKind.{CommitKind}
use Rattle.flush_log.specs.declared.text.CommitKind.TheVariants.{Flush}
use Rattle.flush_log.proofs.TextImages.{depth_at, can_be_written}

no_parts : {X : Type 0} (xs ys : List X) → xs ++ ys ≡ [] → (xs ≡ []) × (ys ≡ [])
no_parts [] ys e = (refl, e)
no_parts (x ∷ xs) ys e = absurd (cc)

-- ---- what two rising lists of numbers have, where the numbers of one alone have nothing

module _ {X : Type 0} (f : ℕ → List X) where
  -- each of the first that isn't among the second has nothing
  abbrev LackNothing : List ℕ → List ℕ → Type 0
  LackNothing xs ys = AllByRecursion (λ x. is_among x ys ≡ false → f x ≡ []) xs

  apart_by : (b : Bool) (n k : ℕ) (rest : Bool) → nat_eq n k ≡ b → k < n → rest ≡ false → (b || rest) ≡ false
  apart_by true n k rest e l h = absurd (let x = eqb-true n k e in omega arith)
  apart_by false n k rest e l h = h

  -- without a number that is below all of the first
  without_less : (k : ℕ) (xs ys : List ℕ) → AllByRecursion (λ x. k < x) xs → LackNothing xs (k ∷ ys) → LackNothing xs ys
  without_less k [] ys a l = tt
  without_less k (x ∷ xs) ys a l = ((λ h. l.0 (apart_by (nat_eq x k) x k (is_among x ys) refl a.0 h)), without_less k xs ys a.1 l.1)

  none_at_all : (xs : List ℕ) → LackNothing xs [] → flat_map f xs ≡ []
  none_at_all [] l = refl
  none_at_all (x ∷ xs) l = ap₂ (λ (a b : List X). a ++ b) (l.0 refl) (none_at_all xs l.1)

  same_by : (x : ℕ) (xs ys : List ℕ) → AreRisingPids (x ∷ xs) → AreRisingPids ys → LackNothing (x ∷ xs) ys → LackNothing ys (x ∷ xs)
      → ((zs : List ℕ) → AreRisingPids zs → LackNothing xs zs → LackNothing zs xs → flat_map f xs ≡ flat_map f zs) → f x ++ flat_map f xs ≡ flat_map f ys
  same_by x xs [] r s l m ih = none_at_all (x ∷ xs) l
  same_by x xs (y ∷ ys) r s l m ih =
      by (cases_lt x y) (λ less. same_by x xs ys r s.1 (without_less y (x ∷ xs) ys (less, below_later y x xs less r.0) l) m.1 ih)
    where
      rest : f x ++ flat_map f xs ≡ flat_map f ys → y < x → f x ++ flat_map f xs ≡ f y ++ flat_map f ys
      rest e less =
          let none : f y ≡ [] = m.0 (none_above y (x ∷ xs) (less, below_later y x xs less r.0)) in
          e ∙ ap (λ (a : List X). a ++ flat_map f ys) (sym none)

      equal : x ≡ y → f x ++ flat_map f xs ≡ f y ++ flat_map f ys
      equal e =
          let l_rest = without_less x xs ys r.0 (subst (λ (n : ℕ). LackNothing xs (n ∷ ys)) (sym e) l.1) in
          let m_rest = without_less y ys xs s.0 (subst (λ (n : ℕ). LackNothing ys (n ∷ xs)) e m.1) in
          ap₂ (λ (a b : List X). a ++ b) (ap f e) (ih ys s.1 l_rest m_rest)

      greater : (y < x) ⊎ (x ≤ y) → y ≤ x → (y < x → f x ++ flat_map f xs ≡ flat_map f ys) → f x ++ flat_map f xs ≡ f y ++ flat_map f ys
      greater (inl less) h later = rest (later less) less
      greater (inr more) h later = equal (omega arith)

      by : (x < y) ⊎ (y ≤ x) → (y < x → f x ++ flat_map f xs ≡ flat_map f ys) → f x ++ flat_map f xs ≡ f y ++ flat_map f ys
      by (inl less) later =
          let none : f x ≡ [] = l.0 (none_above x (y ∷ ys) (less, below_later x y ys less s.0)) in
          let others = without_less x (y ∷ ys) xs (less, below_later x y ys less s.0) m in
          ap (λ (a : List X). a ++ flat_map f xs) none ∙ ih (y ∷ ys) s l.1 others
      by (inr h) later = greater (cases_lt y x) h later

  same : (xs ys : List ℕ) → AreRisingPids xs → AreRisingPids ys → LackNothing xs ys → LackNothing ys xs → flat_map f xs ≡ flat_map f ys
  same [] ys r s l m = sym (none_at_all ys m)
  same (x ∷ xs) ys r s l m = same_by x xs ys r s l m (λ zs t a b. same xs zs r.1 t a b)

  each : (xs ys : List ℕ) → ((n : ℕ) → is_among n ys ≡ false → f n ≡ []) → LackNothing xs ys
  each [] ys h = tt
  each (x ∷ xs) ys h = ((λ e. h x e), each xs ys h)

module _ {X : Type 0} (f : ℕ → List X) where
  none_of_all : (ns : List ℕ) → ((n : ℕ) → f n ≡ []) → flat_map f ns ≡ []
  none_of_all [] h = refl
  none_of_all (n ∷ ns) h = ap₂ (λ (a b : List X). a ++ b) (h n) (none_of_all ns h)

  one_by : (b : Bool) (n m : ℕ) (ms : List ℕ) → nat_eq n m ≡ b → (b || is_among n ms) ≡ true → f m ++ flat_map f ms ≡ [] → (is_among n ms ≡ true → flat_map f ms ≡ [] → f n ≡ []) → f n ≡ []
  one_by true n m ms e h none ih = ap f (eqb-true n m e) ∙ (no_parts (f m) (flat_map f ms) none).0
  one_by false n m ms e h none ih = ih h (no_parts (f m) (flat_map f ms) none).1

  -- nothing of each, if there is nothing of all
  none_of_one : (ns : List ℕ) (n : ℕ) → is_among n ns ≡ true → flat_map f ns ≡ [] → f n ≡ []
  none_of_one [] n h none = absurd (false≢true h)
  none_of_one (m ∷ ms) n h none = one_by (nat_eq n m) n m ms refl h none (none_of_one ms n)

-- ---- numbers by size, each once

all_from : (P : ℕ → Type 0) (xs : List ℕ) → ((k d : ℕ) → k < length xs → P (get_or xs k d)) → AllByRecursion P xs
all_from P [] h = tt
all_from P (x ∷ xs) h = (h 0 x (omega arith), all_from P xs (λ k d l. h (suc k) d (omega arith)))

rising_pairs : (xs : List ℕ) → AllPairs (λ x y. x < y) xs → AreRisingPids xs
rising_pairs [] h = tt
rising_pairs (x ∷ xs) h = (all_from (λ y. x < y) xs (λ k d l. h 0 (suc k) d (omega arith) (omega arith)), rising_pairs xs (λ i j d a b. h (suc i) (suc j) d (omega arith) (omega arith)))

at_place_by : (b : Bool) (n m : ℕ) (ms : List ℕ) → nat_eq n m ≡ b → (b || is_among n ms) ≡ true → (is_among n ms ≡ true → Contains ms n) → Contains (m ∷ ms) n
at_place_by true n m ms e h ih = (0, omega arith, sym (eqb-true n m e))
at_place_by false n m ms e h ih = let rest = ih h in (suc rest.0, (let l = rest.1 in omega arith), rest.2)

at_place : (n : ℕ) (ns : List ℕ) → is_among n ns ≡ true → Contains ns n
at_place n [] h = absurd (false≢true h)
at_place n (m ∷ ms) h = at_place_by (nat_eq n m) n m ms refl h (at_place n ms)

among_place : (n : ℕ) (ns : List ℕ) (k : ℕ) → k < length ns → get_or ns k n ≡ n → is_among n ns ≡ true
among_place n [] k l e = absurd (omega arith)
among_place n (m ∷ ms) zero l e = subst (λ (x : ℕ). is_among n (x ∷ ms) ≡ true) (sym e) (all_among (n ∷ ms)).0
among_place n (m ∷ ms) (suc k) l e = later_among n m ms (among_place n ms k (omega arith) e)

module _ (ns sorted once : List ℕ) (same_ones : IsPermutation ns sorted) (order : IsSorted nat_cmp sorted) (is : once ≡ dedup eqb sorted) where
  pub once-rising : AreRisingPids once
  once-rising = subst (λ (xs : List ℕ). AreRisingPids xs) (sym is) (rising_pairs (dedup eqb sorted) (AllPairs-from_increasing (dedup eqb sorted) (IsStrictlyIncreasing-dedup sorted order)))

  pub once-all : (n : ℕ) → is_among n ns ≡ true → is_among n once ≡ true
  once-all n h =
      let there = Contains-dedup_nat sorted n (Contains-permutation ns sorted n same_ones (at_place n ns h)) in
      subst (λ (xs : List ℕ). is_among n xs ≡ true) (sym is) (among_place n (dedup eqb sorted) there.0 there.1 there.2)

-- ---- the frames written for a pid

frames_none : (pid : ℕ) (cs : List Content) → cs ≡ [] → frames_of pid cs ≡ []
frames_none pid cs e = ap (frames_of pid) e

none_here : (version : Version) (place : Option (Option PageOfKind)) (l : Logged) → HasFewRuns (at_home place) → l ≡ log_then place → lacking (encoding_of version) (at_home place) l ≡ []
none_here version None l few e = ap (lacking (encoding_of version) None) e
none_here version (Some None) l few e = ap (lacking (encoding_of version) None) e
none_here version (Some (Some p)) l few e =
    ap (lacking (encoding_of version) (Some p)) e
    ∙ (depth_at (encoding_of version) p (depth_counted p) (depth_counted p) few refl).0 (le-leb (depth_counted p) (depth_counted p) (omega arith))

abbrev keys_of_old : Bool → ℕ → List ℕ → List ℕ
keys_of_old c m olds = cond c (m ∷ olds) olds

old_by : (b c : Bool) (n m : ℕ) (l : Logged) (later : Option Logged) (olds : List ℕ) → is_eq (nat_cmp n m) ≡ b → is_old l ≡ c → or_no (cond b (Some l) later) ≡ Old
    → (or_no later ≡ Old → is_among n olds ≡ true) → is_among n (keys_of_old c m olds) ≡ true
old_by true true n m l later olds e f h ih =
    subst (λ (x : ℕ). is_among n (x ∷ olds) ≡ true) (same_pid n m (equal_by (nat_cmp n m) e)) (all_among (n ∷ olds)).0
old_by true false n m l later olds e f h ih = absurd (false≢true (sym f ∙ ap is_old h))
old_by false true n m l later olds e f h ih = later_among n m olds (ih h)
old_by false false n m l later olds e f h ih = ih h

old_keys : (c : Bool) (l : ℕ × Logged) (ls : List (ℕ × Logged)) → keys_of (cond c (l ∷ ls) ls) ≡ keys_of_old c l.0 (keys_of ls)
old_keys true l ls = refl
old_keys false l ls = refl

-- a pid that is `Old` in the log is among those that are
among_olds : (ls : List (ℕ × Logged)) (n : ℕ) → or_no (lookup (is_same_pid n) ls) ≡ Old → is_among n (keys_of (filter (λ l. is_old l.1) ls)) ≡ true
among_olds [] n h = absurd (cc)
among_olds (l ∷ ls) n h =
    ap (λ (ns : List ℕ). is_among n ns) (old_keys (is_old l.1) l (filter (λ l. is_old l.1) ls))
    ∙ old_by (is_eq (nat_cmp n l.0)) (is_old l.1) n l.0 l.1 (lookup (is_same_pid n) ls) (keys_of (filter (λ l. is_old l.1) ls)) refl refl h (among_olds ls n)

-- nothing is written for a pid without a page, unless the log has `Old` of it
not_there : (version : Version) (page : Option PageOfKind) (l : Logged) → is_some page ≡ false → (l ≡ Old → ⊥) → lacking (encoding_of version) page l ≡ []
not_there version (Some p) l h old = absurd (false≢true (sym h))
not_there version None No h old = refl
not_there version None Old h old = absurd (old refl)
not_there version None (Upto k) h old = refl

module _ (version : Version) (t : TreeInMemory) (home : AreAllHome t) (proper : IsOfStore (tree_of t)) where
  -- nothing is written for a pid whose log state is already the one after the flush
  none_due : (pid : ℕ) → IsInLog t.table pid → pid_frames (Flush version) (tree_of t) pid ≡ []
  none_due pid h =
      let page : at_home (place_of t.table pid) ≡ page_at (tree_of t).pages pid = page-home t.table.places pid home in
      let few : HasFewRuns (at_home (place_of t.table pid)) = subst HasFewRuns (sym page) (can_be_written (Flush version) (tree_of t) pid proper).few in
      frames_none pid (lacking (encoding_of version) (page_at (tree_of t).pages pid) (logged_of (tree_of t) pid))
      (ap (λ (o : Option PageOfKind). lacking (encoding_of version) o (logged_of (tree_of t) pid)) (sym page) ∙ none_here version (place_of t.table pid) (log_of t.table pid) few h)

  -- and nothing of a pid that a flush doesn't examine
  none_unknown : (pid : ℕ) → is_among pid (pids_to_write (tree_of t)) ≡ false → pid_frames (Flush version) (tree_of t) pid ≡ []
  none_unknown pid h =
      let olds : List ℕ = keys_of (filter (λ l. is_old l.1) (tree_of t).logged) in
      let pids : List ℕ = keys_of (tree_of t).pages in
      let both = or_parts (is_among pid olds) (is_among pid pids) (sym (among-with_numbers pid olds pids) ∙ h) in
      frames_none pid (lacking (encoding_of version) (page_at (tree_of t).pages pid) (logged_of (tree_of t) pid))
      (not_there version (page_at (tree_of t).pages pid) (logged_of (tree_of t) pid) (among-lookup pid (tree_of t).pages ∙ both.1)
      (λ old. false≢true (sym both.0 ∙ among_olds (tree_of t).logged pid old)))

  rising_to_write : AreRisingPids (pids_to_write (tree_of t))
  rising_to_write = rising-with_numbers (keys_of (filter (λ l. is_old l.1) (tree_of t).logged)) (keys_of (tree_of t).pages) proper.2.tree.rising

  -- so the frames of a flush are those of rising pids that include all due ones
  pub text-due : (due pids : List ℕ) → AreDue t.table due → AreRisingPids pids → ((n : ℕ) → is_among n due ≡ true → is_among n pids ≡ true)
      → flat_map (pid_frames (Flush version) (tree_of t)) pids ≡ flush_frames version (tree_of t)
  text-due due pids h r all =
      same (pid_frames (Flush version) (tree_of t)) pids (pids_to_write (tree_of t)) r rising_to_write
      (each (pid_frames (Flush version) (tree_of t)) pids (pids_to_write (tree_of t)) none_unknown)
      (each (pid_frames (Flush version) (tree_of t)) (pids_to_write (tree_of t)) pids (λ n e. none_due n (h n (not_among (is_among n due) n refl e))))
    where
      not_among : (b : Bool) (n : ℕ) → is_among n due ≡ b → is_among n pids ≡ false → is_among n due ≡ false
      not_among true n e f = absurd (false≢true (sym f ∙ all n e))
      not_among false n e f = e

  -- it is empty exactly if nothing is written of those that are due
  pub none-due : (due : List ℕ) → AreDue t.table due → (flat_map (pid_frames (Flush version) (tree_of t)) due ≡ []) ↔ (flush_frames version (tree_of t) ≡ [])
  none-due due h = (
    λ e. none_of_all (pid_frames (Flush version) (tree_of t)) (pids_to_write (tree_of t)) (λ n. nothing n (is_among n due) refl e),
    λ e. none_of_all (pid_frames (Flush version) (tree_of t)) due (λ n. unseen n (is_among n (pids_to_write (tree_of t))) refl e),
  )
    where
      nothing : (n : ℕ) (b : Bool) → is_among n due ≡ b → flat_map (pid_frames (Flush version) (tree_of t)) due ≡ [] → pid_frames (Flush version) (tree_of t) n ≡ []
      nothing n true e none = none_of_one (pid_frames (Flush version) (tree_of t)) due n e none
      nothing n false e none = none_due n (h n e)

      unseen : (n : ℕ) (b : Bool) → is_among n (pids_to_write (tree_of t)) ≡ b → flush_frames version (tree_of t) ≡ [] → pid_frames (Flush version) (tree_of t) n ≡ []
      unseen n true e none = none_of_one (pid_frames (Flush version) (tree_of t)) (pids_to_write (tree_of t)) n e none
      unseen n false e none = none_unknown n e

-- the jobs of such pids are those for the frames of the flush
pub jobs-due : {V E : Type 0} (items : V → List ImageJob) (r : Result V E) (text : CommitKind) (version : Version) → text ≡ Flush version → (t : TreeInMemory) → AreAllHome t → IsOfStore (tree_of t)
    → (due pids : List ℕ) → AreDue t.table due → AreRisingPids pids → ((n : ℕ) → is_among n due ≡ true → is_among n pids ≡ true)
    → IfOk r (λ jobs. flat_map held_text (map job_held (items jobs)) ≡ flat_map (pid_frames text (tree_of t)) pids)
    → IfOk r (λ jobs. flat_map held_text (map job_held (items jobs)) ≡ commit_frames text (tree_of t))
jobs-due items (Err x) text version is t home proper due pids h rises all made = tt
jobs-due items (Ok jobs) text version is t home proper due pids h rises all made =
    made
    ∙ ap (λ (x : CommitKind). flat_map (pid_frames x (tree_of t)) pids) is
    ∙ text-due version t home proper due pids h rises all
    ∙ ap (λ (x : CommitKind). commit_frames x (tree_of t)) (sym is)
