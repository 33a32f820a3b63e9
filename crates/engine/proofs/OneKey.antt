-- The leaf of one key: its value there, and the routes of a single command on that key.
use Rattle.std.specs.Prelude.{◌≡◌, ℕ, Bool, true, false, cond, List, [], ◌∷◌, map, Option, Some}
use Rattle.std.proofs.Common.{refl, sym, ap, ◌∙◌}
use Rattle.std.specs.List.{filter}
use Rattle.std.specs.declared.alloc.Global.{Global}
use Rattle.keys.specs.CommandKey.{key_of, is_ranged}
use Rattle.keys.specs.Footprint.{Span, One, Range, span_of, first_of, is_range}
use Rattle.keys.specs.OrderedMap.{value_at}
use Rattle.keys.specs.declared.command.Command.{Command}
use Rattle.delta_chain.specs.Layers.{Layers, entries_of}
use Rattle.index_page.specs.Page.{Page}
use Rattle.index_page.specs.Page.PageOfKind.{Leaf}
use Rattle.index_page.specs.Range.{is_within}
use Rattle.index_page.specs.Children.{Place, is_place_for}
use Rattle.mapping.specs.Descent.{IsLeafFor, pids_for}
use Rattle.mapping.specs.Levels.{names, levels_of, contents}
use Rattle.mapping.specs.Tree.{Tree, page_at}
use Rattle.routing.specs.Routes.{Route, meets_page, goes_to, has_some, has_places, route_to, ranges, routes}

-- the page under its pid has at the key the value of the tree
pub value_under : (t : Tree) (k : List ℕ) (pid : ℕ) (page : Page (List ℕ)) (layers : Layers (List ℕ)) → IsLeafFor t k pid → page_at t.pages pid ≡ Some (Leaf page) → entries_of page.layers ≡ entries_of layers → value_at k (entries_of layers) ≡ value_at k (contents t)
value_under t k pid page layers r h l =
    let both : Some (Leaf page) ≡ Some (Leaf r.page) = sym h ∙ r.home in
    let same : page ≡ r.page = cc in
    ap (λ (es : List (List ℕ × List ℕ)). value_at k es) (sym l) ∙ ap (λ (p : Page (List ℕ)). value_at k (entries_of p.layers)) same ∙ r.value

-- ---- the routes of one command

-- a range of one key goes to the page whose range has the key
meets_one : (low : List ℕ) (end : Option (List ℕ)) (s : Span) → is_range s ≡ false → meets_page low end s ≡ is_within low end (first_of s)
meets_one low end (One k) h = refl
meets_one low end (Range lo hi) h = absurd (cc)

abbrev route_alone : ℕ → Route
route_alone pid = record { pid = pid; places = 0 ∷ [] }

alone_by : (b c : Bool) (at : Place) (passed : List Place) (rest : List Route) → b ≡ c → rest ≡ map route_alone (map (λ x. x.pid) passed)
    → (let own : List ℕ = cond b (0 ∷ []) [] in let r : Route = record { pid = at.pid; places = own } in cond (has_some own) (r ∷ rest) rest ≡ map route_alone (map (λ x. x.pid) (cond c (at ∷ passed) passed)))
alone_by true true at passed rest e f = ap (λ (rs : List Route). route_alone at.pid ∷ rs) f
alone_by false false at passed rest e f = f
alone_by true false at passed rest e f = absurd (cc)
alone_by false true at passed rest e f = absurd (cc)

-- of places the pids of those for the key
abbrev pids_of : List ℕ → List Place → List ℕ
pids_of k ats = map (λ at. at.pid) (filter (is_place_for k) ats)

module _ (c : Command Global) (point : is_ranged c ≡ false) where
  routes_alone : (ats : List Place) → filter has_places (map (route_to (c ∷ [])) ats) ≡ map route_alone (pids_of (key_of c) ats)
  routes_alone [] = refl
  routes_alone (at ∷ ats) =
      alone_by (goes_to at.low at.end c) (is_place_for (key_of c) at) at (filter (is_place_for (key_of c)) ats) (filter has_places (map (route_to (c ∷ [])) ats)) (meets_one at.low at.end (span_of c) point) (routes_alone ats)

  -- a command on one key has one route, to its leaf
  pub only_route : (t : Tree) (pid : ℕ) → pids_for (key_of c) (names (levels_of t).level) ≡ pid ∷ [] → routes (levels_of t).level (c ∷ []) ≡ route_alone pid ∷ []
  only_route t pid e = routes_alone (ranges (levels_of t).level) ∙ ap (λ (ns : List ℕ). map route_alone ns) e
