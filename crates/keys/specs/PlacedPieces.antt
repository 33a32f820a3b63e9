-- Pieces in the order of their places.
use Rattle.std.specs.Prelude.{List, [], ◌∷◌, nat_lt, if◌then◌else◌}
use Rattle.keys.specs.declared.piece.Piece.{Piece}

-- pieces with one more, before the first that has a higher place
abbrev pub with_piece : {A : Type 0} → List (Piece A) → Piece A → List (Piece A)
with_piece [] p = p ∷ []
with_piece (q ∷ qs) p = if nat_lt p.place q.place then p ∷ q ∷ qs else q ∷ with_piece qs p

-- pieces with these, one after the other
abbrev pub with_each : {A : Type 0} → List (Piece A) → List (Piece A) → List (Piece A)
with_each done [] = done
with_each done (p ∷ ps) = with_each (with_piece done p) ps

-- these pieces in the order of their places, and where places are equal in their own order
abbrev pub by_place : {A : Type 0} → List (Piece A) → List (Piece A)
by_place ps = with_each [] ps
