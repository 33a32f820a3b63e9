use Rattle.std.proofs.Common.{◌≡◌}
use Rattle.keys.specs.Step.{map_after_all}
use Rattle.mapping.specs.Levels.{contents}
use Rattle.engine.proofs.store.Store.neutral_batch.Given as goal

-- the commands so far change nothing
abbrev pub invariant-loop-low : goal.invariant-loop-low
invariant-loop-low g l = map_after_all (contents l.self.store.tree) l.commands.items ≡ contents l.self.store.tree
