use Rattle.std.specs.Prelude.{[]}
use Rattle.mapping.specs.TreeInMemory.{tree_of}
use Rattle.flush_log.specs.FlushText.{flush_frames}
use Rattle.engine.proofs.NumbersLemmas.{due_where}
use Rattle.engine.proofs.store.Store.is_flush_due.Goals as goal

pub returns : goal.returns
returns g c = rw (← c.self.view_is) (due_where c.is_all_written.result (flush_frames c.self.inside.version (tree_of c.self.inside.tree)) [] (c.is_all_written.ensures c.self.inside.version))
