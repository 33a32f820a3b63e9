-- The routes of a level of leaves that are in the table: where they go, and which pages are there.
use Rattle.std.specs.Prelude.{◌≡◌, ◌≢◌, ℕ, Bool, true, false, cond, List, [], ◌∷◌, ◌++◌, map, length, Option, Some, None, IsSome}
use Rattle.std.proofs.Common.{sym, ap, ◌∙◌, subst, arith, append_assoc}
use Rattle.std.specs.List.{AllByRecursion}
use Rattle.keys.specs.Range.{in_range}
use Rattle.keys.specs.declared.command.Command.{Command}
use Rattle.index_page.specs.Children.{Place, children}
use Rattle.index_page.specs.Page.{Page, PageOfKind, entries}
use Rattle.index_page.specs.Page.PageOfKind.{Leaf}
use Rattle.index_page.proofs.ChildLemmas.{place_of, children-cons, pids-children}
use Rattle.index_page.proofs.ListLemmas.{all_weaker}
use Rattle.mapping.specs.Levels.{Placed, joined, name, names, pids}
use Rattle.mapping.specs.Proper.{next_low, Tiled, Distinct, HasLeaves}
use Rattle.mapping.specs.Table.{Mapping, page_of}
use Rattle.mapping.specs.Tree.{page_at}
use Rattle.mapping.specs.TreeInMemory.{home_pages}
use Rattle.mapping.proofs.HomePages.{page-home}
use Rattle.mapping.proofs.LevelLemmas.{values_of-names}
use Rattle.mapping.proofs.TileLemmas.{next_names}
use Rattle.routing.specs.Routes.{Route, route_to, goes_to, has_places, ranges}
use Rattle.routing.proofs.RouteLemmas.{below-places_from, kept}
use Rattle.page_runs.specs.Replies.{ArePlacesOf}
use Rattle.scan.proofs.Parts.{part_of_level}
use Rattle.engine.specs.Leaves.{IsLeafAt, route_pids}

-- ---- the routes to some places

all_if : (P : ℕ → Type 0) (b : Bool) (r : Route) (rs : List Route) → P r.pid → AllByRecursion P (route_pids rs) → AllByRecursion P (route_pids (cond b (r ∷ rs) rs))
all_if P true r rs h a = (h, a)
all_if P false r rs h a = a

distinct_if : (b : Bool) (r : Route) (rs : List Route) → AllByRecursion (λ n. n ≢ r.pid) (route_pids rs) → Distinct (route_pids rs) → Distinct (route_pids (cond b (r ∷ rs) rs))
distinct_if true r rs h d = (h, d)
distinct_if false r rs h d = d

module _ {A : Type 0} (cs : List (Command A)) where
  abbrev AreWithinBatch : List Route → Type 0
  AreWithinBatch rs = AllByRecursion (λ r. ArePlacesOf cs r.places) rs

  within_if : (b : Bool) (r : Route) (rs : List Route) → ArePlacesOf cs r.places → AreWithinBatch rs → AreWithinBatch (cond b (r ∷ rs) rs)
  within_if true r rs h a = (h, a)
  within_if false r rs h a = a

  abbrev place_pids : List Place → List ℕ
  place_pids ats = map (λ at. at.pid) ats

  -- what holds for the pids of all places holds for the pids of routes
  pub all-route_pids : (P : ℕ → Type 0) (ats : List Place) → AllByRecursion P (place_pids ats) → AllByRecursion P (route_pids (kept cs ats))
  all-route_pids P [] a = tt
  all-route_pids P (at ∷ ats) a = all_if P (has_places (route_to cs at)) (route_to cs at) (kept cs ats) a.0 (all-route_pids P ats a.1)

  -- and the latter are distinct if the former are
  pub distinct-route_pids : (ats : List Place) → Distinct (place_pids ats) → Distinct (route_pids (kept cs ats))
  distinct-route_pids [] d = tt
  distinct-route_pids (at ∷ ats) d =
      distinct_if (has_places (route_to cs at)) (route_to cs at) (kept cs ats) (all-route_pids (λ n. n ≢ at.pid) ats d.0) (distinct-route_pids ats d.1)

  -- their places are places of the batch
  pub within-routes : (ats : List Place) → AllByRecursion (λ r. ArePlacesOf cs r.places) (kept cs ats)
  within-routes [] = tt
  within-routes (at ∷ ats) =
      within_if (has_places (route_to cs at)) (route_to cs at) (kept cs ats) (below-places_from (length cs) 0 (goes_to at.low at.end) cs (omega arith)) (within-routes ats)

-- the places of a level have the pids of its pages
pub pids-ranges : {V : Type 0} (level : List (Placed V)) → map (λ (at : Place). at.pid) (ranges level) ≡ pids level
pids-ranges level = pids-children (names level) None ∙ values_of-names level

-- ---- leaves in the table

-- a leaf is in the table
abbrev pub IsHomeLeaf : Mapping PageOfKind → Placed (List ℕ) → Type 0
IsHomeLeaf t p = page_of t p.pid ≡ Some (Leaf p.page)

-- the leaves of a tree whose pages are in the table
pub home_leaves : (t : Mapping PageOfKind) (level : List (Placed (List ℕ))) → AllByRecursion (λ e. IsSome e.1) t.places → HasLeaves (home_pages t.places) level → AllByRecursion (IsHomeLeaf t) level
home_leaves t level home h =
    all_weaker (λ (p : Placed (List ℕ)). page_at (home_pages t.places) p.pid ≡ Some (Leaf p.page)) (IsHomeLeaf t) (λ p listed. page-home t.places p.pid home ∙ listed) level h

is_leaf : (o : Option PageOfKind) (p : Page (List ℕ)) → o ≡ Some (Leaf p) → IsLeafAt o
is_leaf o p h = rw h tt

pub leaves_there : (t : Mapping PageOfKind) (level : List (Placed (List ℕ))) → AllByRecursion (IsHomeLeaf t) level → AllByRecursion (λ pid. IsLeafAt (page_of t pid)) (pids level)
leaves_there t [] h = tt
leaves_there t (p ∷ ps) h = (is_leaf (page_of t p.pid) p.page h.0, leaves_there t ps h.1)

-- ---- the part of its level that a leaf has

-- a leaf is in the table at the place, and has the part of a map that lies in the place's range
pub record HoldsPart (t : Mapping PageOfKind) (m : List (List ℕ × List ℕ)) (at : Place) : Type 0 where
  pub leaf : Page (List ℕ)
  pub home : page_of t at.pid ≡ Some (Leaf leaf)
  pub part : entries leaf ≡ in_range at.low at.end m

module _ (t : Mapping PageOfKind) where
  part_of : (xs ys : List (Placed (List ℕ))) (p : Placed (List ℕ)) → Tiled (xs ++ p ∷ ys) None → IsHomeLeaf t p → HoldsPart t (joined (xs ++ p ∷ ys)) (place_of (name p) (next_low ys None))
  part_of xs ys p tiled h = record { leaf = p.page; home = h; part = part_of_level xs ys p tiled }

  children_of_level : (p : Placed (List ℕ)) (ys : List (Placed (List ℕ))) → place_of (name p) (next_low ys None) ∷ children (names ys) None ≡ children (names (p ∷ ys)) None
  children_of_level p ys = ap (λ (end : Option (List ℕ)). place_of (name p) end ∷ children (names ys) None) (sym (next_names ys None)) ∙ sym (children-cons (name p) (names ys) None)

  -- the leaves of the last pages of a level have their parts of the whole
  pub parts_from : (xs ys level : List (Placed (List ℕ))) → xs ++ ys ≡ level → Tiled level None → AllByRecursion (IsHomeLeaf t) ys → AllByRecursion (HoldsPart t (joined level)) (children (names ys) None)
  parts_from xs [] level e tiled h = tt
  parts_from xs (p ∷ ys) level e tiled h =
      let at : Place = place_of (name p) (next_low ys None) in
      let here : HoldsPart t (joined level) at = subst (λ (ps : List (Placed (List ℕ))). HoldsPart t (joined ps) at) e (part_of xs ys p (subst (λ (ps : List (Placed (List ℕ))). Tiled ps None) (sym e) tiled) h.0) in
      let later = parts_from (xs ++ p ∷ []) ys level (append_assoc xs (p ∷ []) ys ∙ e) tiled h.1 in
      subst (λ (ats : List Place). AllByRecursion (HoldsPart t (joined level)) ats) (children_of_level p ys) (here, later)
