use Rattle.std.proofs.Common.{◌≡◌, ◌-◌, length}
use Rattle.std.specs.Option.{option_copied}
use Rattle.mapping.specs.Levels.{contents}
use Rattle.mapping.specs.Tree.{with_tree}
use Rattle.engine.specs.Copies.{IsBegun}
use Rattle.engine.proofs.CopyChunks.{AreBeingPut}
use Rattle.engine.proofs.store.Store.put_all.Given as goal

-- the first pairs are there, up to the last key, and nothing but the tree has changed
abbrev pub invariant-batches : goal.invariant-batches
invariant-batches g l = record {
  begun : IsBegun (contents l.self.store.tree) (contents l.copy.store.tree) (option_copied l.last);
  on : AreBeingPut l.fn.copy.settings l.fn.copy.store.tree (contents l.self.store.tree) l.copy.store.tree;
  log : l.copy.store ≡ with_tree l.fn.copy.store l.copy.store.tree;
  settings : l.copy.settings ≡ l.fn.copy.settings;
  disk : l.copy.disk ≡ l.fn.copy.disk;
  fine : l.copy.has_failed ≡ l.fn.copy.has_failed;
}

abbrev pub decreases-batches : goal.decreases-batches
decreases-batches g l = length (contents l.self.store.tree) - length (contents l.copy.store.tree)
