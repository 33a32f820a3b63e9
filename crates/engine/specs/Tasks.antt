-- The tasks of a batch, one for each leaf that commands go to: it is only read, and stays in the tree, or it may be changed.
use Rattle.std.specs.Prelude.{ℕ, List, [], ◌∷◌, map, flat_map, if◌then◌else◌}
use Rattle.std.specs.declared.alloc.Global.{Global}
use Rattle.keys.specs.Lists.{flat}
use Rattle.keys.specs.declared.command.Command.{Command}
use Rattle.keys.specs.declared.piece.Piece.{Piece}
use Rattle.keys.specs.declared.settings.Settings.{Settings}
use Rattle.index_page.specs.Page.{PageOfKind}
use Rattle.mapping.specs.Table.{Mapping}
use Rattle.mapping.specs.TreeInMemory.{TreeInMemory}
use Rattle.routing.specs.Routes.{Route}
use Rattle.page_runs.specs.LeafWork.{LeafHeld, LeafMade, LeafUpdate, IsLeafHeld, leaf_made, leaf_held_of}
use Rattle.page_runs.specs.Reads.{IsRouteToRead, route_answers, is_only_read}
use Rattle.engine.specs.Leaves.{leaf_held}
use Rattle.engine.specs.declared.leaf_tasks.LeafTask.{LeafTask}
use Rattle.engine.specs.declared.leaf_tasks.LeafTask.TheVariants.{Read, Change}
use Rattle.engine.specs.declared.leaf_tasks.TaskDone.{TaskDone}
use Rattle.engine.specs.declared.leaf_tasks.TaskDone.TheVariants.{Read as WasRead, Changed as WasChanged}

-- the input of a task: for a leaf that is only read the places of its commands, for another leaf also the leaf
pub data TaskHeld : Type 0 where
  Reads : Route → TaskHeld
  Changes : LeafHeld → TaskHeld

-- the output of a task: answers, and for a leaf that may be changed also the leaf afterwards
pub data TaskMade : Type 0 where
  Answered : List (Piece Global) → TaskMade
  Changed : LeafMade → TaskMade

-- a valid input
abbrev pub MayBeWorked : TreeInMemory → List (Command Global) → TaskHeld → Type 0
MayBeWorked t cs (Reads r) = IsRouteToRead t cs r
MayBeWorked t cs (Changes h) = IsLeafHeld cs h

-- the output as a function of the input, if the tree has the leaves that are only read
abbrev pub task_made : TreeInMemory → Settings → List (Command Global) → TaskHeld → TaskMade
task_made t s cs (Reads r) = Answered (route_answers t cs r)
task_made t s cs (Changes h) = Changed (leaf_made s cs h)

-- the task for the leaf of a route
abbrev pub task_for : Mapping PageOfKind → List (Command Global) → Route → TaskHeld
task_for t cs r = if is_only_read cs r then Reads r else Changes (leaf_held t r)

-- the input in a task of the code
abbrev pub task_held : LeafTask → TaskHeld
task_held (Read r) = Reads r
task_held (Change j) = Changes (leaf_held_of j)

-- the input that led to this output
abbrev pub done_held : TaskDone → TaskHeld
done_held (WasRead d) = Reads d.route
done_held (WasChanged d) = Changes d.held

-- the output in a result of the code
abbrev pub done_made : TaskDone → TaskMade
done_made (WasRead d) = Answered d.pieces
done_made (WasChanged d) = Changed d.made

-- the leaf of a task, if it has one
abbrev pub taken_in : TaskHeld → List LeafHeld
taken_in (Reads r) = []
taken_in (Changes h) = h ∷ []

-- the leaves of tasks
abbrev pub taken_of : List TaskHeld → List LeafHeld
taken_of hs = flat_map taken_in hs

-- leaves under their pids
abbrev pub under_pids : List LeafHeld → List (ℕ × PageOfKind)
under_pids hs = map (λ h. (h.route.pid, h.page)) hs

-- the leaf that was changed, if one was
abbrev pub changed_in : TaskDone → List LeafUpdate
changed_in (WasRead d) = []
changed_in (WasChanged d) = d ∷ []

-- the leaves that were changed
abbrev pub changed_of : List TaskDone → List LeafUpdate
changed_of ds = flat_map changed_in ds

-- the answers of a leaf
abbrev pub pieces_in : TaskDone → List (Piece Global)
pieces_in (WasRead d) = d.pieces
pieces_in (WasChanged d) = d.made.pieces

-- the answers of all leaves
abbrev pub pieces_of : List TaskDone → List (Piece Global)
pieces_of ds = flat (map pieces_in ds)
