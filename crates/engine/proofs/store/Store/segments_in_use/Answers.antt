use Rattle.flush_log.specs.AfterFlush.{slot_of}
use Rattle.flush_log.proofs.SlotLemmas.{ends-are}
use Rattle.engine.specs.State.{store_in}
use Rattle.engine.proofs.store.Store.segments_in_use.Goals as goal

pub in_use-requires-clause-ends : goal.in_use-requires-clause-ends
in_use-requires-clause-ends g c = ends-are c.self.inside.settings (slot_of (store_in c.self.inside.tree c.self.inside.log c.self.inside.version)) c.self.invariant.sound.is.slot
