use Rattle.std.proofs.Common.{length}
use Rattle.std.specs.List.{flat_map}
use Rattle.bwsh.specs.Shown.{shown_row}
use Rattle.bwsh.proofs.ShowLemmas.{AreAdded}
use Rattle.bwsh.proofs.asks.put_back.Given as goal

-- the lines of the remaining rows are still to be added
abbrev pub invariant-loop-key : goal.invariant-loop-key
invariant-loop-key g l =
    AreAdded (g.O.Write.contents l.fn.out) l.fn.buffer.text.items (g.O.Write.contents l.out) l.buffer.text.items (flat_map shown_row l.fn.rows) (flat_map shown_row l.rows)

abbrev pub decreases-loop-key : goal.decreases-loop-key
decreases-loop-key g l = length l.rows
