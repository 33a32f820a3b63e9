use Rattle.std.specs.List.{flat_map}
use Rattle.bwsh.specs.Shown.{shown_row}
use Rattle.bwsh.proofs.ShowLemmas.{AreAdded}
use Rattle.bwsh.proofs.output.Buffer.put_rows.Given as goal

-- the lines of the remaining rows are still to be added
abbrev pub invariant-loop-key : goal.invariant-loop-key
invariant-loop-key g l =
    AreAdded (g.O.Write.contents l.fn.out) l.fn.self.text.items (g.O.Write.contents l.out) l.self.text.items (flat_map shown_row l.rows) (flat_map shown_row l.key-iterator)
