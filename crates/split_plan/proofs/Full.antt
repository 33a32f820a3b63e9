-- Lists of nonempty lists.
use Rattle.std.specs.Prelude.{◌<◌, List, length}
use Rattle.std.specs.List.{AllByRecursion}

-- each has an entry
abbrev pub AllFull : {X : Type 0} → List (List X) → Type 0
AllFull bs = AllByRecursion (λ b. 0 < length b) bs
