-- Lists of lists.
use Rattle.std.specs.Prelude.{List, flat_map}

-- the concatenation of the lists
abbrev pub flat : {X : Type 0} → List (List X) → List X
flat xss = flat_map (λ xs. xs) xss
