-- Leaves that are checked out of the tree, and put back.
use Rattle.std.specs.Prelude.{◌≡◌, ℕ, map, List, [], ◌∷◌, Option, Some, None}
use mathlib.Core.List.{map-map}
use Rattle.std.proofs.Common.{refl, sym, ap, ◌∙◌, subst}
use Rattle.std.specs.List.{AllByRecursion}
use Rattle.std.specs.Map.{keys_of}
use Rattle.index_page.specs.Page.{PageOfKind, IsLeaf}
use Rattle.index_page.specs.Page.PageOfKind.{Leaf, Index}
use Rattle.mapping.specs.Proper.{Distinct, AreRisingPids}
use Rattle.mapping.specs.Table.{Mapping, pids_in_use, place_of, page_of, at_home, with_place}
use Rattle.mapping.specs.TreeInMemory.{TreeInMemory}
use Rattle.routing.specs.Routes.{Route}
use Rattle.page_runs.specs.LeafWork.{LeafHeld, leaf_held_of}
use Rattle.page_runs.specs.declared.leaf_work.LeafJob.{LeafJob}
use Rattle.climb_plan.specs.Installing.{all_taken, all_put, AreAway, page_or_none}
use Rattle.climb_plan.proofs.Installing.{all_kept, placed_apart, tree_taken, tree_put}
use Rattle.climb_plan.proofs.InstallingLemmas.{away-all_taken, put_back_is_before}
use Rattle.engine.specs.Leaves.{IsLeafAt, AreLeavesHome, route_pids, leaf_held}
use Rattle.engine.specs.Tasks.{under_pids}

-- ---- leaves are put back

-- pages that were undone and put back are the original ones
pub put_held : (tree now : TreeInMemory) (held : LeafHeld) (job : LeafJob) → leaf_held_of job ≡ held → now ≡ record tree { table = with_place tree.table job.page_run.pid (Some job.page) } → now ≡ record tree { table = with_place tree.table held.route.pid (Some held.page) }
put_held tree now held job e n = n ∙ ap (λ (h : LeafHeld). record tree { table = with_place tree.table h.route.pid (Some h.page) }) e

-- ---- leaves are checked out

-- the page that was checked out under a pid that is read from its route
pub taken_at : (tree now : TreeInMemory) (pid k : ℕ) → pid ≡ k → now ≡ record tree { table = with_place tree.table pid None } → now ≡ record tree { table = with_place tree.table k None }
taken_at tree now pid k e n = n ∙ ap (λ (q : ℕ). record tree { table = with_place tree.table q None }) e

pub page_at : (t : Mapping PageOfKind) (pid k : ℕ) (p : PageOfKind) → pid ≡ k → page_of t pid ≡ Some p → page_of t k ≡ Some p
page_at t pid k p e h = ap (page_of t) (sym e) ∙ h

-- after one of them was checked out, the others are in the table
pub leaves_next : (tree now : TreeInMemory) (k : ℕ) (ks all : List ℕ) → all ≡ k ∷ ks → now ≡ record tree { table = with_place tree.table k None } → AreLeavesHome tree.table all → AreLeavesHome now.table ks
leaves_next tree now k ks all e n h =
    let a : AreLeavesHome tree.table (k ∷ ks) = subst (λ (ns : List ℕ). AreLeavesHome tree.table ns) e h in
    let t : Mapping PageOfKind = with_place tree.table k None in
    let rest : AreLeavesHome t ks = (all_kept (λ o. IsLeafAt (at_home o)) tree.table t k (placed_apart tree.table k None) ks a.1.0 a.0.1, a.1.1) in
    subst (λ (x : TreeInMemory). AreLeavesHome x.table ks) (sym n) rest

-- ---- leaves are updated

-- if there is a leaf under a pid, the page in its place is a leaf
pub leaf_there : (o : Option PageOfKind) → IsLeafAt o → IsLeaf (page_or_none o)
leaf_there None h = absurd h
leaf_there (Some (Leaf p)) h = h
leaf_there (Some (Index p)) h = absurd h

-- ---- leaves that could not be updated are returned

held_pids : (t : Mapping PageOfKind) (rs : List Route) → map (λ h. h.route.pid) (map (leaf_held t) rs) ≡ route_pids rs
held_pids t rs = map-map (λ (h : LeafHeld). h.route.pid) (leaf_held t) rs

held_keys : (t : Mapping PageOfKind) (rs : List Route) → keys_of (under_pids (map (leaf_held t) rs)) ≡ route_pids rs
held_keys t [] = refl
held_keys t (r ∷ rs) = ap (λ (ks : List ℕ). r.pid ∷ ks) (held_keys t rs)

home_there : (o : Option (Option PageOfKind)) → IsLeafAt (at_home o) → o ≡ Some (Some (page_or_none (at_home o)))
home_there None h = absurd h
home_there (Some None) h = absurd h
home_there (Some (Some p)) h = refl

held_home : (t : Mapping PageOfKind) (rs : List Route) → AllByRecursion (λ k. IsLeafAt (page_of t k)) (route_pids rs) → AllByRecursion (λ e. place_of t e.0 ≡ Some (Some e.1)) (under_pids (map (leaf_held t) rs))
held_home t [] a = tt
held_home t (r ∷ rs) a = (home_there (place_of t r.pid) a.0, held_home t rs a.1)

-- if leaves that were checked out are returned unchanged, their places are empty
pub back_away : (tree taken : TreeInMemory) (hs : List LeafHeld) (rs : List Route) → taken ≡ tree_taken tree (route_pids rs) → hs ≡ map (leaf_held tree.table) rs → Distinct (route_pids rs)
    → AreAway taken.table (map (λ h. h.route.pid) hs)
back_away tree taken hs rs n e d =
    let ks : List ℕ = route_pids rs in
    let same : map (λ h. h.route.pid) hs ≡ ks = ap (λ (hs : List LeafHeld). map (λ h. h.route.pid) hs) e ∙ held_pids tree.table rs in
    let all : AreAway (all_taken tree.table ks) ks = (away-all_taken tree.table ks d, d) in
    subst (λ (y : TreeInMemory). AreAway y.table (map (λ h. h.route.pid) hs)) (sym n) (subst (λ (ns : List ℕ). AreAway (all_taken tree.table ks) ns) (sym same) all)

-- and after they are put back the tree is the same as before
pub back_is_before : (tree taken now : TreeInMemory) (hs : List LeafHeld) (rs : List Route) → taken ≡ tree_taken tree (route_pids rs) → hs ≡ map (leaf_held tree.table) rs
    → now ≡ tree_put taken (under_pids hs) → AreLeavesHome tree.table (route_pids rs) → AreRisingPids (pids_in_use tree.table) → now ≡ tree
back_is_before tree taken now hs rs n e p h r =
    let ks : List ℕ = route_pids rs in
    let es : List (ℕ × PageOfKind) = under_pids (map (leaf_held tree.table) rs) in
    let keys : keys_of es ≡ ks = held_keys tree.table rs in
    let before : all_put (all_taken tree.table (keys_of es)) es ≡ tree.table = put_back_is_before tree.table es r (subst Distinct (sym keys) h.1) (held_home tree.table rs h.0) in
    p ∙ ap (λ (y : TreeInMemory). tree_put y (under_pids hs)) n
    ∙ ap (λ (hs : List LeafHeld). tree_put (tree_taken tree ks) (under_pids hs)) e
    ∙ ap (λ (ns : List ℕ). tree_put (tree_taken tree ns) es) (sym keys)
    ∙ ap (λ (t : Mapping PageOfKind). record tree { table = t }) before
