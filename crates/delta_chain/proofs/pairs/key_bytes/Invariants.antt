use Rattle.std.proofs.Common.{◌≡◌, ◌-◌, ◌^◌, length, min, take}
use Rattle.std.specs.List.{sum_by}
use Rattle.delta_chain.specs.Lent.{pairs_lent}
use Rattle.delta_chain.proofs.pairs.key_bytes.Given as goal

-- the bytes of the keys so far
abbrev pub invariant-loop-entry : goal.invariant-loop-entry
invariant-loop-entry g l = l.bytes ≡ min (sum_by (λ e. length e.0) (pairs_lent (take l.entry-index l.entries))) (2 ^ 64 - 1)
