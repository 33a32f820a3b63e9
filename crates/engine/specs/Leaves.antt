-- The leaves that a batch goes to, as jobs.
use Rattle.std.specs.Prelude.{ℕ, Bool, not, List, [], map, Option}
use Rattle.std.specs.List.{AllByRecursion, filter}
use Rattle.std.specs.Map.{keys_of}
use Rattle.std.specs.declared.alloc.Global.{Global}
use Rattle.keys.specs.Bytes.{Bytes}
use Rattle.keys.specs.Lists.{flat}
use Rattle.keys.specs.Narrowed.{with_ends, MayEndAtAll}
use Rattle.keys.specs.declared.command.Command.{Command}
use Rattle.keys.specs.declared.piece.Piece.{Piece}
use Rattle.keys.specs.declared.settings.Settings.{Settings}
use Rattle.index_page.specs.Page.{PageOfKind}
use Rattle.mapping.specs.Levels.{names, levels_of, contents}
use Rattle.mapping.specs.Proper.{Distinct}
use Rattle.mapping.specs.Table.{Mapping, page_of}
use Rattle.mapping.specs.Tree.{Tree}
use Rattle.routing.specs.Routes.{Route, ranges}
use Rattle.routing.specs.Runs.{AreRunsOf}
use Rattle.page_runs.specs.LeafWork.{LeafHeld, LeafMade, LeafUpdate, leaf_made}
use Rattle.page_runs.specs.Reads.{is_only_read}
pub use Rattle.page_runs.specs.Reads.{IsLeafAt}
use Rattle.page_runs.specs.Replies.{ArePlacesOf}
use Rattle.climb_plan.specs.Installing.{page_or_none}

-- these are the commands' runs at the leaves of a tree, where each scan may end at a leaf before which it has all its rows
abbrev pub AreRoutesFor : Tree → List (Command Global) → List Route → Type 0
AreRoutesFor t cs rs =
    let level = (levels_of t).level in
    (ends : List (Option Bytes)) × MayEndAtAll (keys_of (names level)) (contents t) cs ends
    × AreRunsOf (with_ends cs ends) (ranges level) rs

-- the pids of the pages of routes
abbrev pub route_pids : List Route → List ℕ
route_pids rs = map (λ r. r.pid) rs

-- these distinct pids have leaves in the table
abbrev pub AreLeavesHome : Mapping PageOfKind → Bytes → Type 0
AreLeavesHome t pids = AllByRecursion (λ pid. IsLeafAt (page_of t pid)) pids × Distinct pids

-- these routes go to distinct leaves in the table, and their places are places of the batch
pub record AreLeafRoutes (t : Mapping PageOfKind) (cs : List (Command Global)) (rs : List Route) : Type 0 where
  pub home : AllByRecursion (λ pid. IsLeafAt (page_of t pid)) (route_pids rs)
  pub distinct : Distinct (route_pids rs)
  pub places : AllByRecursion (λ r. ArePlacesOf cs r.places) rs

-- the input of a leaf's job
abbrev pub leaf_held : Mapping PageOfKind → Route → LeafHeld
leaf_held t r = record { page = page_or_none (page_of t r.pid); route = r }

-- the outputs for the leaves of these routes
abbrev pub leaves_made : Settings → List (Command Global) → Mapping PageOfKind → List Route → List LeafMade
leaves_made s cs t rs = map (λ r. leaf_made s cs (leaf_held t r)) rs

-- all their answers
abbrev pub answers : List LeafMade → List (Piece Global)
answers ms = flat (map (λ m. m.pieces) ms)

-- ---- leaves that are only read stay in the tree

-- whether a leaf may be changed by the commands that go to it
abbrev pub is_written : List (Command Global) → Route → Bool
is_written cs r = not (is_only_read cs r)

-- the routes to leaves that may be changed
abbrev pub written_routes : List (Command Global) → List Route → List Route
written_routes cs rs = filter (is_written cs) rs

-- the updates of leaves without their answers
abbrev pub without_answers : LeafUpdate → LeafUpdate
without_answers d = record { held = d.held; made = record { updated = d.made.updated; pieces = [] } }
