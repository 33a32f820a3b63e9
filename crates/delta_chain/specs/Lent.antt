-- The pairs that a list of references denotes.
use Rattle.std.specs.Prelude.{List, map}
use Rattle.std.specs.Borrow.{Bor}
use Rattle.keys.specs.Bytes.{Bytes, Pairs}

-- the keys and cells that the references point to
abbrev pub pairs_lent : {V : Type 0} → List (Bor Bytes × Bor V) → Pairs V
pairs_lent {V} lent = map {B = Bytes × V} (λ (e : Bor Bytes × Bor V). (e.0.now, e.1.now)) lent
