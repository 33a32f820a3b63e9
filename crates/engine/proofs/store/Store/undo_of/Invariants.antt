use Rattle.std.proofs.Common.{◌≡◌, ◌≤◌, ◌++◌, drop, length}
use Rattle.mapping.specs.Levels.{contents}
use Rattle.engine.specs.Refusal.{longest_batch}
use Rattle.engine.specs.Undo.{undo_of_all}
use Rattle.engine.proofs.store.Store.undo_of.Given as goal

-- the undo commands so far and those of the remaining commands are all undo commands
abbrev pub invariant-loop-command : goal.invariant-loop-command
invariant-loop-command g l = record {
  made : l.undo.items ++ undo_of_all (contents l.self.store.tree) (drop l.command-index l.commands) ≡ undo_of_all (contents l.self.store.tree) l.commands;
  few : length l.undo.items ≤ longest_batch;
}
