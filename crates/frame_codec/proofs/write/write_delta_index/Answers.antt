use Rattle.std.proofs.Common.{arith}
use Rattle.std.proofs.lemmas.Result.{on_ok_weaker}
use Rattle.keys.specs.Cells.{pid_cell}
use Rattle.frame_codec.proofs.SizedLemmas.{index_run-short, delta-few, index_run-words}
use Rattle.frame_codec.proofs.write.write_delta_index.Goals as goal

pub write_delta-requires : goal.write_delta-requires
write_delta-requires c =
    let changes = index_run-short c.args.run.now c.requires in
    let few = changes.count in
    record { count = omega arith; small = changes.small; few = delta-few pid_cell c.args.run.now changes }

pub returns-clause-words : goal.returns-clause-words
returns-clause-words c =
    on_ok_weaker c.write_delta.result (λ w. index_run-words c.args.pid c.args.run.now w.0 w.1) c.write_delta.ensures.words
