use denote.Param.Send.{sendable}
use Rattle.engine.proofs.Crossing.{read_sync}
use Rattle.engine.proofs.reads.read_leaves.Goals as goal

pub run_round-requires-sync-W : goal.run_round-requires-sync-W
run_round-requires-sync-W g c κs within = search (sendable, read_sync)
