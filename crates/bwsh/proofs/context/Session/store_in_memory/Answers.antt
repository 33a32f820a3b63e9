use Rattle.std.proofs.Common.{rules}
use Rattle.std.specs.Prelude.{replicate}
use Rattle.flush_log.specs.Segments.{disk_size}
use Rattle.bwsh.proofs.context.Session.store_in_memory.Goals as goal

-- the new disk is all zeros
pub returns-clause-opens : goal.returns-clause-opens
returns-clause-opens g c = c.create_store.ensures.opens (replicate (disk_size c.args.self.now.asked.now.settings) 0) (rw c.disk.ensures (λ honest. search rules))
