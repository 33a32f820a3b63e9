use Rattle.std.proofs.Common.{◌≡◌, ◌≤◌, replicate, vec_capacity, vec_len}
use Rattle.std.specs.Prelude.{None}
use Rattle.crew.proofs.drawn.no_homes.Given as goal

abbrev pub invariant-loop : goal.invariant-loop
invariant-loop g l = (l.homes.items ≡ replicate l.counter None) × (vec_len l.homes ≡ l.counter) × (l.count ≤ vec_capacity l.homes)
