use Rattle.std.proofs.Common.{◌≡◌, ℕ, ◌+◌, ◌-◌, ◌^◌, ◌<◌, ◌≤◌, length, get_or}
use Rattle.scan.proofs.level.raise.Given as goal

-- the numbers before this place are greater by one, the others are unchanged
abbrev pub invariant-loop-at : goal.invariant-loop-at
invariant-loop-at l = record {
  start : l.end < l.from → l.at ≡ l.from;
  length : length l.counts ≡ length l.fn.counts;
  raised : (k : ℕ) → l.from ≤ k → k < l.at → get_or l.fn.counts k 0 < 2 ^ 64 - 1 → get_or l.counts k 0 ≡ get_or l.fn.counts k 0 + 1;
  below : (k : ℕ) → k < l.from → get_or l.counts k 0 ≡ get_or l.fn.counts k 0;
  above : (k : ℕ) → l.at ≤ k → get_or l.counts k 0 ≡ get_or l.fn.counts k 0;
}
