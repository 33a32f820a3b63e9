use Rattle.scan.proofs.RowLemmas.{turn_goes}
use Rattle.scan.proofs.rows.RowsBackIterator.next.Goals as goal

pub returns-clause-goes : goal.returns-clause-goes
returns-clause-goes c = rw (← c.self.view_is) (turn_goes (λ item. (item.0.now, item.1.now)) c.next.result _ _ c.next.ensures)
