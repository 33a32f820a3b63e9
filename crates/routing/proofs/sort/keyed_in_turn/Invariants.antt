use Rattle.std.proofs.Common.{◌≡◌, map}
use Rattle.std.specs.List.{AllByRecursion, range_with_len}
use Rattle.routing.specs.BatchKeys.{key_at}
use Rattle.routing.proofs.sort.keyed_in_turn.Given as goal

-- the places so far follow one another from the first on, each with its key
abbrev pub invariant-loop-at : goal.invariant-loop-at
invariant-loop-at l = record {
  places : map (λ entry. entry.1) l.keyed.items ≡ range_with_len l.from l.at;
  keys : AllByRecursion (λ entry. entry.0 ≡ key_at l.batch entry.1) l.keyed.items;
}
