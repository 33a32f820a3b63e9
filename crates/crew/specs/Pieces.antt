-- Jobs in pieces.
use Rattle.std.specs.Prelude.{List, flat_map, Vec}
use Rattle.std.specs.declared.alloc.Global.{Global}

-- the jobs of all pieces, in order
abbrev pub jobs_of : {J : Type 0} → List (Vec J Global) → List J
jobs_of pieces = flat_map (λ piece. piece.items) pieces
