use Rattle.delta_chain.proofs.Lending.{cell_lent}
use Rattle.delta_chain.proofs.pairs.Pairs.cell.Goals as goal

pub returns : goal.returns
returns g c = rw (← c.self.view_is) (cell_lent c.self.inside.lent.items c.args.at c.index.result.now (rw c.self.view_is c.requires) c.index.ensures)
