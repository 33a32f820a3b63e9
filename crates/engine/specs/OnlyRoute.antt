-- A batch of one command on one key: it goes to one leaf.
use Rattle.std.specs.Prelude.{◌≡◌, ℕ, Bool, not, ◌&&◌, ◌||◌, List, [], ◌∷◌}
use Rattle.std.specs.declared.alloc.Global.{Global}
use Rattle.keys.specs.declared.command.Command.{Command}
use Rattle.mapping.specs.Levels.{levels_of}
use Rattle.mapping.specs.Tree.{Tree}
use Rattle.routing.specs.Routes.{Route, routes}
use Rattle.page_runs.specs.Updated.{Updated, is_thin_class, is_fat_class}

-- the commands go to one leaf, by this route
abbrev pub IsOnlyRoute : Tree → List (Command Global) → Route → Type 0
IsOnlyRoute t cs r = routes (levels_of t).level cs ≡ r ∷ []

-- a command goes to the leaf with this pid alone
abbrev pub IsOnlyLeaf : Tree → Command Global → ℕ → Type 0
IsOnlyLeaf t c pid = IsOnlyRoute t (c ∷ []) (record { pid = pid; places = 0 ∷ [] })

-- whether a page after its run was not replaced, and is neither thin nor fat
abbrev pub is_quiet : {V : Type 0} → Updated V → Bool
is_quiet w = not w.replaced && not (is_thin_class w.class || is_fat_class w.class)
