-- Parents that are checked out of the tree, get terms, and are put back.
use Rattle.std.specs.Prelude.{◌≡◌, ℕ, List, [], ◌∷◌, map, Option, Some, None}
use Rattle.std.proofs.Common.{refl, sym, ap, ◌∙◌, subst}
use Rattle.std.specs.List.{All, AllByRecursion}
use Rattle.std.specs.Map.{keys_of}
use Rattle.std.proofs.lemmas.List.Elements.{All-from_recursion}
use Rattle.keys.specs.declared.settings.Settings.{Settings}
use Rattle.index_page.specs.Page.{PageOfKind, IsIndex}
use Rattle.index_page.specs.Page.PageOfKind.{Leaf, Index}
use Rattle.mapping.specs.Proper.{Distinct, AreRisingPids}
use Rattle.mapping.specs.Table.{Mapping, pids_in_use, place_of, page_of, at_home}
use Rattle.mapping.specs.TreeInMemory.{TreeInMemory}
use Rattle.page_runs.specs.TermWork.{TermHeld, term_held_of, index_made}
use Rattle.page_runs.specs.Updated.{Updated}
use Rattle.page_runs.specs.declared.term_work.TermJob.{TermJob}
use Rattle.climb_plan.specs.Installing.{all_taken, all_put, AreAway, IsIndexAt, AreParentsHome, page_or_none, parent_held}
use Rattle.climb_plan.proofs.Installing.{ParentRuns, tree_taken, tree_put}
use Rattle.climb_plan.proofs.InstallingLemmas.{away-all_taken, put_back_is_before}

-- a page, under its pid
abbrev under_pid : TermHeld → ℕ × PageOfKind
under_pid h = (h.pid, h.page)

held_pids : (t : Mapping PageOfKind) (xs : List ParentRuns) → map (λ h. h.pid) (map (parent_held t) xs) ≡ map (λ x. x.0) xs
held_pids t [] = refl
held_pids t (x ∷ xs) = ap (λ (ks : List ℕ). x.0 ∷ ks) (held_pids t xs)

held_keys : (t : Mapping PageOfKind) (xs : List ParentRuns) → keys_of (map under_pid (map (parent_held t) xs)) ≡ map (λ x. x.0) xs
held_keys t [] = refl
held_keys t (x ∷ xs) = ap (λ (ks : List ℕ). x.0 ∷ ks) (held_keys t xs)

job_pids : (js : List TermJob) → map (λ j. j.pid) js ≡ map (λ h. h.pid) (map term_held_of js)
job_pids [] = refl
job_pids (j ∷ js) = ap (λ (ks : List ℕ). j.pid ∷ ks) (job_pids js)

job_pages : (js : List TermJob) → map (λ j. (j.pid, j.page)) js ≡ map under_pid (map term_held_of js)
job_pages [] = refl
job_pages (j ∷ js) = ap (λ (es : List (ℕ × PageOfKind)). (j.pid, j.page) ∷ es) (job_pages js)

index_there : (o : Option PageOfKind) → IsIndexAt o → IsIndex (page_or_none o)
index_there None h = absurd h
index_there (Some (Leaf p)) h = absurd h
index_there (Some (Index p)) h = h

held_indexes : (t : Mapping PageOfKind) (xs : List ParentRuns) → AllByRecursion (λ k. IsIndexAt (page_of t k)) (map (λ x. x.0) xs) → AllByRecursion (λ h. IsIndex h.page) (map (parent_held t) xs)
held_indexes t [] a = tt
held_indexes t (x ∷ xs) a = (index_there (page_of t x.0) a.0, held_indexes t xs a.1)

job_indexes : (js : List TermJob) → AllByRecursion (λ h. IsIndex h.page) (map term_held_of js) → AllByRecursion (λ j. IsIndex (term_held_of j).page) js
job_indexes [] a = tt
job_indexes (j ∷ js) a = (a.0, job_indexes js a.1)

-- the jobs hold index pages
pub all_indexes : (t : Mapping PageOfKind) (js : List TermJob) (xs : List ParentRuns) → map term_held_of js ≡ map (parent_held t) xs → AreParentsHome t (map (λ x. x.0) xs) → All (λ j. IsIndex (term_held_of j).page) js
all_indexes t js xs e h =
    All-from_recursion (λ (j : TermJob). IsIndex (term_held_of j).page) js (job_indexes js (subst (λ (hs : List TermHeld). AllByRecursion (λ h. IsIndex h.page) hs) (sym e) (held_indexes t xs h.0)))

pub made_of : (s : Settings) (t : Mapping PageOfKind) (hs : List TermHeld) (xs : List ParentRuns) (ws : List (Updated ℕ)) → ws ≡ map (index_made s) hs → hs ≡ map (parent_held t) xs → ws ≡ map (λ x. index_made s (parent_held t x)) xs
made_of s t hs xs ws e h = e ∙ ap (λ (ys : List TermHeld). map (index_made s) ys) h ∙ joined xs
  where
    joined : (ys : List ParentRuns) → map (index_made s) (map (parent_held t) ys) ≡ map (λ x. index_made s (parent_held t x)) ys
    joined [] = refl
    joined (y ∷ ys) = ap (λ (ws : List (Updated ℕ)). index_made s (parent_held t y) ∷ ws) (joined ys)

home_there : (o : Option (Option PageOfKind)) → IsIndexAt (at_home o) → o ≡ Some (Some (page_or_none (at_home o)))
home_there None h = absurd h
home_there (Some None) h = absurd h
home_there (Some (Some p)) h = refl

held_home : (t : Mapping PageOfKind) (xs : List ParentRuns) → AllByRecursion (λ k. IsIndexAt (page_of t k)) (map (λ x. x.0) xs) → AllByRecursion (λ e. place_of t e.0 ≡ Some (Some e.1)) (map under_pid (map (parent_held t) xs))
held_home t [] a = tt
held_home t (x ∷ xs) a = (home_there (place_of t x.0) a.0, held_home t xs a.1)

-- if jobs are returned, the places of their pages are empty
pub back_away : (tree taken : TreeInMemory) (js again : List TermJob) (xs : List ParentRuns) → taken ≡ tree_taken tree (map (λ x. x.0) xs) → map term_held_of js ≡ map (parent_held tree.table) xs → map term_held_of again ≡ map term_held_of js
    → AreParentsHome tree.table (map (λ x. x.0) xs) → AreAway taken.table (map (λ j. j.pid) again)
back_away tree taken js again xs n e f h =
    let ks : List ℕ = map (λ x. x.0) xs in
    let same : map (λ j. j.pid) again ≡ ks = job_pids again ∙ ap (λ (hs : List TermHeld). map (λ h. h.pid) hs) (f ∙ e) ∙ held_pids tree.table xs in
    let all : AreAway (all_taken tree.table ks) ks = (away-all_taken tree.table ks h.1, h.1) in
    subst (λ (y : TreeInMemory). AreAway y.table (map (λ j. j.pid) again)) (sym n) (subst (λ (ns : List ℕ). AreAway (all_taken tree.table ks) ns) (sym same) all)

-- and after they are put back the tree is unchanged
pub back_is_before : (tree taken now : TreeInMemory) (js again : List TermJob) (xs : List ParentRuns) → taken ≡ tree_taken tree (map (λ x. x.0) xs) → map term_held_of js ≡ map (parent_held tree.table) xs → map term_held_of again ≡ map term_held_of js
    → now ≡ tree_put taken (map (λ j. (j.pid, j.page)) again) → AreParentsHome tree.table (map (λ x. x.0) xs) → AreRisingPids (pids_in_use tree.table) → now ≡ tree
back_is_before tree taken now js again xs n e f p h r =
    let ks : List ℕ = map (λ x. x.0) xs in
    let es : List (ℕ × PageOfKind) = map under_pid (map (parent_held tree.table) xs) in
    let keys : keys_of es ≡ ks = held_keys tree.table xs in
    let pages : map (λ j. (j.pid, j.page)) again ≡ es = job_pages again ∙ ap (λ (hs : List TermHeld). map under_pid hs) (f ∙ e) in
    let before : all_put (all_taken tree.table (keys_of es)) es ≡ tree.table = put_back_is_before tree.table es r (subst Distinct (sym keys) h.1) (held_home tree.table xs h.0) in
    p ∙ ap (λ (y : TreeInMemory). tree_put y (map (λ j. (j.pid, j.page)) again)) n
    ∙ ap (λ (ds : List (ℕ × PageOfKind)). tree_put (tree_taken tree ks) ds) pages
    ∙ ap (λ (ns : List ℕ). tree_put (tree_taken tree ns) es) (sym keys)
    ∙ ap (λ (t : Mapping PageOfKind). record tree { table = t }) before
