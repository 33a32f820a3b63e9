use Rattle.std.proofs.Common.{◌≡◌, false}
use Rattle.engine.specs.Tidied.{IsTidied}
use Rattle.engine.proofs.store.Store.tidy.Given as goal

-- the tree is the one after the batches so far, which have changed no contents of the store
abbrev pub invariant-loop-round : goal.invariant-loop-round
invariant-loop-round g l = record {
  tidied : IsTidied l.fn.self.settings l.fn.self.store l.self.store;
  settings : l.self.settings ≡ l.fn.self.settings;
  disk : l.self.disk ≡ l.fn.self.disk;
  fine : l.self.has_failed ≡ false;
}
