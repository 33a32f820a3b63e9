use Rattle.keys.proofs.RowLemmas.{first_of_rows}
use Rattle.keys.proofs.row_list.RowIterIterator.next.Goals as goal

pub first_row-requires : goal.first_row-requires
first_row-requires c = first_of_rows c.self.inside.left c.self.inside.bytes.now c.self.invariant c.if-self-eq0.false
