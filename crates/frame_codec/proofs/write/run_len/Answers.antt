use Rattle.std.proofs.Common.{[], length, ap, arith}
use Rattle.std.specs.Option.{option_copied}
use Rattle.frame_codec.specs.Codecs.{flagged}
use Rattle.frame_codec.specs.declared.format.KeyEncoding.TheVariants.{Whole}
use Rattle.frame_codec.proofs.WriteLemmas.{encodable-at, length-following, encoded-at_end}
use Rattle.frame_codec.proofs.write.run_len.Goals as goal

pub flagged_len-requires : goal.flagged_len-requires
flagged_len-requires g c = (encodable-at (flagged g.V.FrameItem.codec) c.args.run.now c.loop-at.at c.key.result.now (option_copied c.change.result) c.requires.small c.key.ensures c.change.ensures).1

pub overflow_add-len-in-loop-at : goal.overflow_add-len-in-loop-at
overflow_add-len-in-loop-at g c =
    let small = encodable-at (flagged g.V.FrameItem.codec) c.args.run.now c.loop-at.at c.key.result.now (option_copied c.change.result) c.requires.small c.key.ensures c.change.ensures in
    let key = small.0 in
    let cell = small.1 in
    omega (arith, c.flagged_len.ensures)

pub overflow_add-len-in-loop-at-2 : goal.overflow_add-len-in-loop-at-2
overflow_add-len-in-loop-at-2 g c =
    let following = length-following Whole (flagged g.V.FrameItem.codec) [] c.args.run.now [] c.loop-at.at c.key.result.now (option_copied c.change.result) c.key.ensures c.change.ensures in
    let invariant = c.loop-at.invariant in
    let few = c.requires.few in
    omega (arith, c.flagged_len.ensures)

pub loop-at-preserved : goal.loop-at-preserved
loop-at-preserved g c =
    let following = length-following Whole (flagged g.V.FrameItem.codec) [] c.args.run.now [] c.loop-at.at c.key.result.now (option_copied c.change.result) c.key.ensures c.change.ensures in
    let invariant = c.loop-at.invariant in
    omega (arith, c.flagged_len.ensures)

pub returns : goal.returns
returns g c =
    let none = ap length (encoded-at_end Whole (flagged g.V.FrameItem.codec) [] c.args.run.now [] c.loop-at.at (omega (arith, c.loop-at-test.false, c.len-at-end.ensures.count))) in
    let invariant = c.loop-at.invariant in
    omega arith
