use Rattle.std.proofs.Common.{arith}
use Rattle.mapping.proofs.DescentWay.{tree_way, tree_leads, tree_leaf}
use Rattle.mapping.proofs.tree.Tree.leaf_for.Goals as goal

pub descend-requires : goal.descend-requires
descend-requires g c = tree_way c.args.self.now c.requires.home c.requires.held c.requires.levels c.args.key.now c.saturating_sub.result (omega arith)

pub returns-clause-leaf : goal.returns-clause-leaf
returns-clause-leaf g c = tree_leaf c.args.self.now c.requires.home c.requires.held c.requires.levels c.args.key.now c.saturating_sub.result c.descend.result (omega arith) c.descend.ensures

pub returns-clause-only : goal.returns-clause-only
returns-clause-only g c = tree_leads c.args.self.now c.requires.home c.requires.held c.requires.levels c.args.key.now c.saturating_sub.result c.descend.result (omega arith) c.descend.ensures
