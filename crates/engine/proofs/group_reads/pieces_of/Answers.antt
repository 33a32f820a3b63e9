use Rattle.std.proofs.Common.{◌∙◌, ap}
use Rattle.engine.specs.GroupReads.{piece_of}
use Rattle.engine.proofs.GroupLemmas.{next_piece}
use Rattle.engine.proofs.group_reads.pieces_of.Goals as goal

pub loop-one-preserved : goal.loop-one-preserved
loop-one-preserved c = next_piece c.args.found.now c.loop-one.one-index c.one-item.result c.loop-one.pieces _ _ c.loop-one-test.true c.loop-one.invariant (c.in_ok-piece_of.ensures ∙ ap piece_of c.one-item.is) c.in_ok-push.ensures.ok
