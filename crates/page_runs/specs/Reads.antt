-- Commands that only read, and a leaf's answers to them.
use Rattle.std.specs.Prelude.{Bool, ⊤, List, [], Option, Some, None}
use Rattle.std.specs.List.{list_all}
use Rattle.std.specs.declared.alloc.Global.{Global}
use Rattle.keys.specs.Footprint.{access_of, is_reading}
use Rattle.keys.specs.declared.command.Command.{Command}
use Rattle.keys.specs.declared.piece.Piece.{Piece}
use Rattle.index_page.specs.Page.{PageOfKind}
use Rattle.index_page.specs.Page.PageOfKind.{Leaf, Index}
use Rattle.mapping.specs.Table.{page_of}
use Rattle.mapping.specs.TreeInMemory.{TreeInMemory}
use Rattle.routing.specs.Routes.{Route}
use Rattle.page_runs.specs.LeafWork.{leaf_answers}
use Rattle.page_runs.specs.Replies.{commands_at, ArePlacesOf}

-- whether the command leaves every map unchanged
abbrev pub is_read_only : {A : Type 0} → Command A → Bool
is_read_only c = is_reading (access_of c)

-- whether all of a page's commands are read-only
abbrev pub is_only_read : {A : Type 0} → List (Command A) → Route → Bool
is_only_read batch r = list_all is_read_only (commands_at batch r.places)

-- the place has a leaf that is not checked out
abbrev pub IsLeafAt : Option PageOfKind → Type 0
IsLeafAt None = ⊥
IsLeafAt (Some (Leaf p)) = ⊤
IsLeafAt (Some (Index p)) = ⊥

-- a valid input: a leaf that is not checked out, and commands at places of the batch
pub record IsRouteToRead (t : TreeInMemory) (batch : List (Command Global)) (r : Route) : Type 0 where
  pub home : IsLeafAt (page_of t.table r.pid)
  pub places : ArePlacesOf batch r.places

-- the answers of the page at that place
abbrev pub answers_at : List (Command Global) → Option PageOfKind → Route → List (Piece Global)
answers_at batch None r = []
answers_at batch (Some p) r = leaf_answers batch (record { page = p; route = r })

-- the answers of the leaf of a route
abbrev pub route_answers : TreeInMemory → List (Command Global) → Route → List (Piece Global)
route_answers t batch r = answers_at batch (page_of t.table r.pid) r

-- the work of reading a leaf: the places of its commands, and its answers
pub record ReadLeaf : Type 0 where
  pub route : Route
  pub pieces : List (Piece Global)
