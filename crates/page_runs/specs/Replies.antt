-- The commands for a page, and its answers.
use Rattle.std.specs.Prelude.{ℕ, ◌<◌, List, [], ◌∷◌, ◌++◌, length, slice_get, option_to_list}
use Rattle.std.specs.List.{AllByRecursion}
use Rattle.keys.specs.declared.command.Command.{Command}
use Rattle.keys.specs.declared.command.Reply.{Reply}
use Rattle.keys.specs.declared.piece.Piece.{Piece}

-- the commands at these places of the batch, in the order of the places
abbrev pub commands_at : {A : Type 0} → List (Command A) → List ℕ → List (Command A)
commands_at cs [] = []
commands_at cs (p ∷ ps) = option_to_list (slice_get cs p) ++ commands_at cs ps

-- all of these are places of the batch
abbrev pub ArePlacesOf : {A : Type 0} → List (Command A) → List ℕ → Type 0
ArePlacesOf cs ps = AllByRecursion (λ p. p < length cs) ps

-- the replies, each with its place
abbrev pub pieces_of : {A : Type 0} → List ℕ → List (Reply A) → List (Piece A)
pieces_of [] rs = []
pieces_of (p ∷ ps) [] = []
pieces_of (p ∷ ps) (r ∷ rs) = record { place = p; reply = r } ∷ pieces_of ps rs
