-- The places of a page's commands in rising order.
use Rattle.std.specs.Prelude.{ℕ, List, [], ◌∷◌, nat_lt, if◌then◌else◌}

-- rising places with one more
abbrev pub inserted : List ℕ → ℕ → List ℕ
inserted [] p = p ∷ []
inserted (q ∷ qs) p = if nat_lt q p then q ∷ inserted qs p else p ∷ q ∷ qs

-- these places in rising order
abbrev pub rising : List ℕ → List ℕ
rising [] = []
rising (p ∷ ps) = inserted (rising ps) p
