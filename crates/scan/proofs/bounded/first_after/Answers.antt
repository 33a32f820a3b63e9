use Rattle.std.proofs.Common.{refl}
use Rattle.mapping.specs.Levels.{contents}
use Rattle.mapping.specs.TreeInMemory.{tree_of}
use Rattle.scan.specs.Edge.{is_under}
use Rattle.scan.proofs.RowLemmas.{none_after_all}
use Rattle.scan.proofs.WalkPairs.{key_of_next}
use Rattle.scan.proofs.bounded.first_after.Goals as goal

pub returns-then-is_after_all : goal.returns-then-is_after_all
returns-then-is_after_all g c = none_after_all g.W.Towards.direction (is_under c.args.edge.now) (contents (tree_of c.args.tree.now)) (rw c.direction.ensures at (c.if-is_after_all.ensures refl))

pub returns-in-Some : goal.returns-in-Some
returns-in-Some g c = rw c.new-walk.ensures at (key_of_next g.W.Towards.direction (c.in-Some.key.now, c.in-Some._value.now) c.new-walk.result c.next.new.self c.in-Some.ensures)
