use Rattle.std.proofs.Common.{rules, ◌≡◌, None}
use Rattle.mapping.specs.Table.{page_of}
use Rattle.engine.proofs.OutdatedTables.{leaf_freed, leaf_gone, taken_away}
use Rattle.engine.proofs.store.compact.free_leaf.Goals as goal

pub free-requires : goal.free-requires
free-requires c = taken_away c.args.table.now c.take-leaf.new.self c.args.pid c.take-leaf.ensures.table

pub returns-then-is_some : goal.returns-then-is_some
returns-then-is_some c = λ pids gone was.
    leaf_freed pids gone c.args.pid c.args.table.now was c.take-leaf.new.self c.free.new.self c.take-leaf.ensures.table c.pids-rising.ensures.rising c.free.ensures

pub returns-else-is_some : goal.returns-else-is_some
returns-else-is_some c = λ pids gone was.
    let none : page_of c.args.table.now c.args.pid ≡ None = search rules in
    leaf_gone pids gone c.args.pid c.args.table.now was none
