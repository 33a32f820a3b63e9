use Rattle.std.proofs.Common.{refl}
use Rattle.mapping.proofs.tree.new_tree.Goals as goal

pub put-requires : goal.put-requires
put-requires g c = rw (c.in_ok-room.ensures.ok, c.new-table.ensures) refl

pub returns : goal.returns
returns g c = rw (c.new.ensures, c.flushed.ensures, c.put.ensures, c.in_ok-room.ensures.ok, c.new-table.ensures, c.in_ok-empty_leaf.ensures) refl
