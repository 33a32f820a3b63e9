use Rattle.std.proofs.Common.{◌≡◌, length}
use Rattle.keys.specs.Cells.{AreBytes}
use Rattle.keys.specs.Order.{order}
use Rattle.keys.proofs.order.compare.Given as goal

-- what is left to compare decides as the whole does
abbrev pub invariant-loop-word : goal.invariant-loop-word
invariant-loop-word l = record {
  left : AreBytes l.left;
  right : AreBytes l.right;
  decides : order l.left l.right ≡ order l.fn.one l.fn.other;
}

abbrev pub decreases-loop-word : goal.decreases-loop-word
decreases-loop-word l = length l.left
