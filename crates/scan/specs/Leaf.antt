-- The remaining pairs of an iteration over one leaf.
use Rattle.std.specs.Prelude.{not, [], ◌∷◌, Option, Some, None}
use Rattle.std.specs.List.{filter}
use Rattle.keys.specs.Bytes.{Bytes, Pairs}
use Rattle.keys.specs.Range.{is_below}

-- the pairs at or above a key
abbrev pub from : {V : Type 0} → Bytes → Pairs V → Pairs V
from k es = filter (λ e. not (is_below e.0 k)) es

-- the pairs after a key
abbrev pub pairs_after : {V : Type 0} → Bytes → Pairs V → Pairs V
pairs_after k es = filter (λ e. is_below k e.0) es

-- the next pair, if there is one, and those after it
abbrev pub left_after : {V : Type 0} → Option (Bytes × V) → Pairs V → Pairs V
left_after None es = []
left_after (Some e) es = e ∷ pairs_after e.0 es
