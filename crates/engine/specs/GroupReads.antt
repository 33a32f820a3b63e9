-- Groups of leaves that a batch of gets reads.
use Rattle.std.specs.Prelude.{ℕ, Bool, true, false, List, map, take, drop}
use Rattle.std.specs.Option.{option_copied}
use Rattle.std.specs.declared.alloc.Global.{Global}
use Rattle.keys.specs.Bytes.{Bytes}
use Rattle.keys.specs.Lists.{flat}
use Rattle.keys.specs.PlacedPieces.{by_place}
use Rattle.keys.specs.Step.{found, replies_to}
use Rattle.keys.specs.declared.command.Command.{Command}
use Rattle.keys.specs.declared.command.Command.TheVariants.{Get}
use Rattle.keys.specs.declared.piece.Piece.{Piece}
use Rattle.delta_chain.specs.Layers.{Layers, entries_of}
use Rattle.mapping.specs.TreeInMemory.{TreeInMemory}
use Rattle.routing.specs.Routes.{Route}
use Rattle.page_runs.specs.Reads.{route_answers}
use Rattle.page_runs.specs.Replies.{commands_at, pieces_of}
use Rattle.engine.specs.declared.group_reads.Found.{Found}
use Rattle.engine.specs.declared.group_reads.GroupLeaf.{GroupLeaf}

-- whether the command is a Get
abbrev pub is_get : {A : Type 0} → Command A → Bool
is_get (Get k) = true
is_get _ = false

-- the leaves of the group that begins at this place of the list
abbrev pub group_at : List Route → ℕ → List Route
group_at rs start = take 16 (drop start rs)

-- the answers of these leaves, by place
abbrev pub group_answers : TreeInMemory → List (Command Global) → List Route → List (Piece Global)
group_answers t cs rs = by_place (flat (map (route_answers t cs) rs))

-- the answers of a page to the commands of a route
abbrev pub chain_answers : List (Command Global) → Route → Layers Bytes → List (Piece Global)
chain_answers cs r page = pieces_of r.places (replies_to (entries_of page) (commands_at cs r.places))

abbrev pub group_leaf_answers : List (Command Global) → GroupLeaf → List (Piece Global)
group_leaf_answers cs l = chain_answers cs l.page_run.now l.chain.now

-- a value that was found, or not, as the answer to the Get at its place
abbrev pub piece_of : Found → Piece Global
piece_of f = record { place = f.place; reply = found (option_copied f.value) }
