-- Sequencing of steps that may fail.
use Rattle.std.specs.Prelude.{Result, Ok, Err}

-- the next step if the previous one succeeded, else its error
abbrev pub and_then : {X Y E : Type 0} → Result X E → (X → Result Y E) → Result Y E
and_then (Ok x) next = next x
and_then (Err e) next = Err e
