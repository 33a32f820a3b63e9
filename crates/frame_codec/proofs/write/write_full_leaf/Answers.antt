use Rattle.std.proofs.Common.{arith}
use Rattle.std.proofs.lemmas.Result.{on_ok_weaker}
use Rattle.keys.specs.Cells.{value_cell}
use Rattle.frame_codec.proofs.SizedLemmas.{leaf-short, full-few, leaf-words}
use Rattle.frame_codec.proofs.write.write_full_leaf.Goals as goal

pub write_full-requires : goal.write_full-requires
write_full-requires c =
    let (key, entries) = leaf-short c.args.encoding c.args.low.now c.args.base.now c.requires in
    let few = entries.count in
    record { low = omega arith; count = omega arith; small = entries.small; few = full-few c.args.encoding value_cell c.args.low.now c.args.base.now key entries }

pub returns-clause-words : goal.returns-clause-words
returns-clause-words c =
    on_ok_weaker c.write_full.result (λ w. leaf-words c.args.pid c.args.encoding c.args.low.now c.args.base.now w.0) c.write_full.ensures.words
