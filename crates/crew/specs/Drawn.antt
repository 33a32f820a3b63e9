-- The state of workers that share a round.
use Rattle.std.specs.Prelude.{◌≡◌, List, map, Vec}
use Rattle.std.specs.List.{All, AllByRecursion}
use Rattle.std.specs.declared.alloc.Global.{Global}
use Rattle.claim_board.specs.Passes.{pieces_of, drawn_by, IsPassOf}
use Rattle.claim_board.specs.declared.draw.Board.{Board}
use Rattle.crew.specs.declared.Work as Work
use Rattle.crew.specs.declared.drawn.WorkerState.{WorkerState}
use Rattle.crew.specs.Home.{IsWorkedOf}

module _ {W J D : Type 0} (g : Work.Ghosts W J D) where
  -- the inputs in the jobs of a piece
  abbrev pub held_in : Vec J Global → List g.Held
  held_in piece = map g.held piece.items

  -- the jobs of these pieces are valid inputs
  abbrev pub AreAccepted : W → List (Vec J Global) → Type 0
  AreAccepted w pieces = AllByRecursion (λ piece. All (λ job. g.accepts w (g.held job)) piece.items) pieces

  -- a worker's state: a pass of the board, and the result of each piece that it claimed
  pub record IsHandOf (w : W) (board : Board (Vec J Global)) (hand : WorkerState J D) : Type 0 where
    pub pass : IsPassOf board hand.pass
    pub numbers : map (λ x. x.number) hand.worked.items ≡ drawn_by hand.pass
    pub worked : AllByRecursion (IsWorkedOf g w (pieces_of board)) hand.worked.items
