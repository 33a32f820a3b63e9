use Rattle.engine.proofs.OutdatedTables.{leaves_written}
use Rattle.engine.proofs.store.compact.outdated_table.Goals as goal

pub returns-clause-freed : goal.returns-clause-freed
returns-clause-freed c =
    c.free_leaves.ensures (leaves_written c.args.pids.now c.in_ok-table.table c.flushed.new.self c.in_ok-table.ensures c.pids-rising.ensures.rising c.flushed.ensures)
