use Rattle.std.proofs.Common.{◌≡◌, ◌+◌, ◌-◌, ◌^◌, ◌≤◌, min}
use Rattle.cleaner.proofs.LiveLemmas.{sizes}
use Rattle.cleaner.proofs.reading.live_bytes.Given as goal

-- the sum so far and the remaining sizes add up to the total
abbrev pub invariant-loop-entry : goal.invariant-loop-entry
invariant-loop-entry l = record {
  fits : l.live ≤ 2 ^ 64 - 1;
  all : min (l.live + sizes l.entry-iterator) (2 ^ 64 - 1) ≡ min (sizes l.by_pid.entries) (2 ^ 64 - 1);
}
