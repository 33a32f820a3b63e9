-- Upper bounds on the numbers of places and pages.
use Rattle.std.specs.Prelude.{◌≤◌, ℕ, List, [], ◌∷◌, flat_map, length, Option, Some, None}
use Rattle.std.proofs.Common.{arith, length-append}
use Rattle.mapping.specs.Slots.{entry_if}

one_entry : {V : Type 0} (pid : ℕ) (o : Option V) → length (entry_if pid o) ≤ 1
one_entry pid None = omega arith
one_entry pid (Some v) = omega arith

-- entries of items, one of each at most, are no more than the items
pub most_entries : {X V : Type 0} (pid_of : X → ℕ) (held : X → Option V) (xs : List X) → length (flat_map (λ x. entry_if (pid_of x) (held x)) xs) ≤ length xs
most_entries pid_of held [] = omega arith
most_entries pid_of held (x ∷ xs) =
    let one = one_entry (pid_of x) (held x) in
    let rest = most_entries pid_of held xs in
    let sum = length-append (entry_if (pid_of x) (held x)) (flat_map (λ y. entry_if (pid_of y) (held y)) xs) in
    omega (arith, one, rest, sum)
