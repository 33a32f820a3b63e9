-- A list of pieces in two parts: pieces in general, and a compact list of scans without rows, for which only the place is stored.
use Rattle.std.specs.Prelude.{ℕ, suc, ◌≤◌, ⊤, List, [], ◌∷◌, ◌++◌, take, drop}
use Rattle.keys.specs.declared.command.Reply.TheVariants.{Rows}
use Rattle.keys.specs.declared.piece.Piece.{Piece}
use Rattle.keys.specs.declared.pieces.EmptyScan.{EmptyScan}

-- the piece of a scan that found no rows
abbrev pub piece_of_empty_scan : {A : Type 0} → EmptyScan → Piece A
piece_of_empty_scan r = record { place = r.place; reply = Rows [] }

-- the two parts as one list: each scan without rows is inserted at its position, in order
abbrev pub woven : {A : Type 0} → List (Piece A) → List EmptyScan → List (Piece A)
woven ps [] = ps
woven ps (r ∷ rs) = woven (take r.before ps ++ piece_of_empty_scan r ∷ drop r.before ps) rs

-- no position is beyond the length of the list at the time of the insertion
abbrev pub StandWithin : ℕ → List EmptyScan → Type 0
StandWithin n [] = ⊤
StandWithin n (r ∷ rs) = r.before ≤ n × StandWithin (suc n) rs
