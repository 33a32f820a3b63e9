use Rattle.std.proofs.Common.{drop}
use Rattle.std.specs.Prelude.{◌↔◌, IsSome}
use Rattle.std.specs.List.{AllByRecursion}
use Rattle.mapping.specs.Slots.{table_of}
use Rattle.mapping.proofs.slots.are_all_home.Given as goal

-- no page is checked out if and only if none is from this slot on
abbrev pub invariant-loop-slot : goal.invariant-loop-slot
invariant-loop-slot g l = AllByRecursion (λ e. IsSome e.1) (table_of (drop l.slot-index l.slots)).places ↔ AllByRecursion (λ e. IsSome e.1) (table_of l.slots).places
