use Rattle.std.proofs.Common.{◌≡◌, ◌++◌, ◌-◌, length, map}
use Rattle.std.specs.Option.{option_copied}
use Rattle.keys.specs.Range.{rows}
use Rattle.engine.proofs.ordered_store.snapshots.Snapshot.range.Given as goal

-- the rows so far, and those of the pairs that are left, are all rows
abbrev pub invariant-loop-row : goal.invariant-loop-row
invariant-loop-row l =
    map (λ row. (row.0.now, row.1.now)) l.found.items ++ rows l.fn.lo (option_copied l.fn.hi) (l.fn.limit - length l.found.items) l.row-iterator
    ≡ rows l.fn.lo (option_copied l.fn.hi) l.fn.limit l.fn.self.1
