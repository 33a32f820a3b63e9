use Rattle.mapping.specs.TreeInMemory.{tree_of}
use Rattle.engine.proofs.OneKey.{value_under}
use Rattle.engine.proofs.store.reads.chain_for.Goals as goal

pub leaf_under-requires-clause-leaf : goal.leaf_under-requires-clause-leaf
leaf_under-requires-clause-leaf c = (c.leaf_for.ensures.leaf.page, c.leaf_for.ensures.leaf.home)

pub returns : goal.returns
returns c = value_under (tree_of c.args.tree.now) c.args.key.now c.leaf_for.result c.leaf_under.ensures.0 c.leaf_under.result.now c.leaf_for.ensures.leaf c.leaf_under.ensures.1 c.leaf_under.ensures.2
