-- The results of pieces, and the places where they are collected.
use Rattle.std.specs.Prelude.{◌≡◌, ℕ, ◌+◌, ⊤, List, [], ◌∷◌, map, set, slice_get, Vec, Option, Some, None, Result, Ok, Err}
use Rattle.std.specs.declared.alloc.Global.{Global}
use Rattle.crew.specs.declared.Work as Work
use Rattle.crew.specs.declared.home.PieceResult.{PieceResult}

module _ {J D : Type 0} where
  -- these results, each at the place with its number
  abbrev pub placed : List (Option (Result (Vec D Global) (Vec J Global))) → List (PieceResult J D) → List (Option (Result (Vec D Global) (Vec J Global)))
  placed homes [] = homes
  placed homes (x ∷ xs) = placed (set homes x.number (Some x.made)) xs

  -- unclaimed pieces, from this number on
  abbrev pub undrawn : ℕ → List (Vec J Global) → List (PieceResult J D)
  undrawn n [] = []
  undrawn n (piece ∷ pieces) = record { number = n; made = Err piece } ∷ undrawn (n + 1) pieces

module _ {W J D : Type 0} (g : Work.Ghosts W J D) where
  -- the inputs of the jobs from which this result was made
  abbrev pub origins : Result (Vec D Global) (Vec J Global) → List g.Held
  origins (Ok dones) = map g.origin dones.items
  origins (Err jobs) = map g.held jobs.items

  -- the outputs are those of the work on the jobs
  abbrev pub IsMade : W → Result (Vec D Global) (Vec J Global) → Type 0
  IsMade w (Ok dones) = map g.outcome dones.items ≡ map (g.made w) (map g.origin dones.items)
  IsMade w (Err jobs) = ⊤

  -- the same for a place, if it has a result
  abbrev pub home_origins : Option (Result (Vec D Global) (Vec J Global)) → List g.Held
  home_origins None = []
  home_origins (Some made) = origins made

  abbrev pub IsMadeHome : W → Option (Result (Vec D Global) (Vec J Global)) → Type 0
  IsMadeHome w None = ⊤
  IsMadeHome w (Some made) = IsMade w made

  -- this is a correct result of the piece with its number
  abbrev pub IsWorkedOf : W → List (Vec J Global) → PieceResult J D → Type 0
  IsWorkedOf w pieces x = (slice_get (map (λ piece. map g.held piece.items) pieces) x.number ≡ Some (origins x.made)) × IsMade w x.made
