-- The input and the output of the work on a leaf.
use Rattle.std.specs.Prelude.{List}
use Rattle.std.specs.declared.alloc.Global.{Global}
use Rattle.keys.specs.Bytes.{Bytes}
use Rattle.keys.specs.Step.{replies_to}
use Rattle.keys.specs.declared.command.Command.{Command}
use Rattle.keys.specs.declared.piece.Piece.{Piece}
use Rattle.keys.specs.declared.settings.Settings.{Settings}
use Rattle.delta_chain.specs.Lazy.{seen}
use Rattle.index_page.specs.InMemory.{InMemory, page_shown, lazy_of}
use Rattle.index_page.specs.InMemory.InMemory.{LeafInMemory, IndexInMemory}
use Rattle.index_page.specs.Page.{PageOfKind, IsLeaf, leaf_of, entries}
use Rattle.index_page.specs.Page.PageOfKind.{Leaf}
use Rattle.mapping.specs.Levels.{Placed}
use Rattle.routing.specs.Routes.{Route}
use Rattle.page_runs.specs.NetRun.{net_run}
use Rattle.page_runs.specs.LeafOutcome.{leaf_before, CanUndoLeaf, leaf_class_now, is_leaf_replaced_now}
use Rattle.page_runs.specs.Replies.{commands_at, pieces_of, ArePlacesOf}
use Rattle.page_runs.specs.Updated.{Updated, updated}
use Rattle.page_runs.specs.declared.leaf_work.LeafJob.{LeafJob}
use Rattle.page_runs.specs.declared.leaf_after.LeafWayBack.{LeafWayBack}

-- a page, its pid, and the places of its commands
pub record LeafHeld : Type 0 where
  pub page : PageOfKind
  pub route : Route

-- the leaf afterwards, under its pid, its class, whether it was replaced, and its answers with their places
pub record LeafMade : Type 0 where
  pub updated : Updated Bytes
  pub pieces : List (Piece Global)

-- a valid input: the page is a leaf, and its commands' places are places of the batch
pub record IsLeafHeld (batch : List (Command Global)) (h : LeafHeld) : Type 0 where
  pub leaf : IsLeaf h.page
  pub places : ArePlacesOf batch h.route.places

-- the leaf under its pid
abbrev pub placed_leaf : LeafHeld → Placed Bytes
placed_leaf h = record { pid = h.route.pid; page = leaf_of h.page }

-- the leaf's replies to its commands, each with its place
abbrev pub leaf_answers : List (Command Global) → LeafHeld → List (Piece Global)
leaf_answers batch h = pieces_of h.route.places (replies_to (entries (leaf_of h.page)) (commands_at batch h.route.places))

-- the output: the leaf after the net run of its commands on its own entries, and the replies to them
abbrev pub leaf_made : Settings → List (Command Global) → LeafHeld → LeafMade
leaf_made s batch h =
    record {
      updated = updated s (placed_leaf h) (net_run (entries (leaf_of h.page)) (commands_at batch h.route.places));
      pieces = leaf_answers batch h;
    }

-- the input in a job
abbrev pub leaf_held_of : LeafJob → LeafHeld
leaf_held_of j = record { page = j.page; route = j.page_run }

-- the work on a leaf: its input and its output
pub record LeafUpdate : Type 0 where
  pub held : LeafHeld
  pub made : LeafMade

-- the work on a leaf, from the leaf now and what undoes the run
abbrev pub leaf_updated : InMemory → LeafWayBack → Route → List (Piece Global) → LeafUpdate
leaf_updated page way_back route pieces =
    let now = leaf_of (page_shown page) in
    record {
      held = record { page = Leaf (record { low = now.low; layers = seen (leaf_before (lazy_of page) way_back) }); route = route };
      made = record {
        updated = record { placed = record { pid = route.pid; page = now }; class = leaf_class_now way_back; replaced = is_leaf_replaced_now way_back };
        pieces = pieces;
      };
    }

-- the page is a leaf, and the run on it can be undone
abbrev pub IsWorkedLeaf : InMemory → LeafWayBack → Type 0
IsWorkedLeaf (LeafInMemory low c) way_back = CanUndoLeaf c way_back
IsWorkedLeaf (IndexInMemory low p) way_back = ⊥
