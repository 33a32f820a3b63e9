use Rattle.std.proofs.Common.{rules, ◌≡◌}
use Rattle.mapping.specs.Table.{with_room}
use Rattle.engine.proofs.OutdatedTables.{leaf_put, leaf_there}
use Rattle.engine.proofs.store.compact.put_leaf.Goals as goal

pub returns-in_ok-empty_leaf : goal.returns-in_ok-empty_leaf
returns-in_ok-empty_leaf c = λ pids has.
    let room : c.room.new.self ≡ with_room c.args.table.now c.args.pid = search rules in
    leaf_put pids c.args.pid c.args.table.now c.room.new.self room has c.put.new.self (search rules)

pub returns-else-is_away : goal.returns-else-is_away
returns-else-is_away c = λ pids has.
    let room : c.room.new.self ≡ with_room c.args.table.now c.args.pid = search rules in
    leaf_there pids c.args.pid c.args.table.now c.room.new.self room has (λ away. absurd (let yes = c.is_away.ensures.1 away in let no = c.if-is_away.false in search rules))
