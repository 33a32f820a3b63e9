use Rattle.mapping.specs.Table.{pids_in_use, fresh_pids}
use Rattle.mapping.proofs.DueTable.{noted-drawn}
use Rattle.mapping.proofs.page_table.PageTable.fresh.Goals as goal

pub invariant_of-self-2 : goal.invariant_of-self-2
invariant_of-self-2 g c =
    let table = c.self.inside.table in
    noted-drawn table c.fresh.new.self c.self.inside.due c.reserve.new.self (fresh_pids (pids_in_use table) c.args.count) c.fresh.result c.self.invariant c.reserve.ensures c.fresh.ensures.ok c.fresh.ensures.err

pub returns-clause-pids : goal.returns-clause-pids
returns-clause-pids g c = rw (← c.self.view_is) c.fresh.ensures.pids
