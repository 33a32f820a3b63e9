use Rattle.std.proofs.Common.{vec_len}
use Rattle.mapping.specs.Table.{pids_in_use}
use Rattle.mapping.specs.Slots.{table_of}
use Rattle.mapping.proofs.FreshLemmas.{AreDrawn}
use Rattle.mapping.proofs.room.least_free.Given as goal

abbrev pub invariant-loop-pid : goal.invariant-loop-pid
invariant-loop-pid g l = AreDrawn (pids_in_use (table_of l.slots)) l.pids.items (vec_len l.pids) l.count l.pid
