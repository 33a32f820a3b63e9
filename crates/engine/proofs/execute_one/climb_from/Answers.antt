use Rattle.page_runs.specs.LeafWork.{leaf_held_of}
use Rattle.engine.proofs.OneLeaf.{held_back, still_away}
use Rattle.engine.proofs.execute_one.climb_from.Goals as goal

pub put_leaf_back-requires : goal.put_leaf_back-requires
put_leaf_back-requires g c = still_away c.args.tree.now (leaf_held_of c.undo.result) c.args.done.held c.undo.ensures c.requires.away

pub returns-in_default-clause-back : goal.returns-in_default-clause-back
returns-in_default-clause-back g c = held_back c.args.tree.now _ (leaf_held_of c.undo.result) c.args.done.held c.undo.ensures c.put_leaf_back.ensures
