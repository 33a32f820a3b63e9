use Rattle.std.proofs.Common.{◌-◌}
use Rattle.mapping.specs.Table.{page_of}
use Rattle.mapping.proofs.DescentLemmas.{IsDescent}
use Rattle.mapping.proofs.tree.Tree.descend.Given as goal

abbrev pub invariant-loop-level : goal.invariant-loop-level
invariant-loop-level g l = IsDescent (page_of l.self.table) l.key l.depth l.self.root (l.depth - l._level) l.pid
