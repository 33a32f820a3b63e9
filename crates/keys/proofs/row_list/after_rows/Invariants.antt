use Rattle.std.proofs.Common.{◌≡◌}
use Rattle.keys.specs.RowBytes.{after_rows, StartWithRows}
use Rattle.keys.proofs.row_list.after_rows.Given as goal

-- the bytes after the remaining rows are the bytes after all rows
abbrev pub invariant-loop-left : goal.invariant-loop-left
invariant-loop-left l = record {
  same : after_rows l.left l.rest ≡ after_rows l.fn.count l.fn.bytes;
  whole : StartWithRows l.left l.rest;
}

abbrev pub decreases-loop-left : goal.decreases-loop-left
decreases-loop-left l = l.left
