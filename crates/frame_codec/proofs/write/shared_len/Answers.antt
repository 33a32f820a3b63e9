use Rattle.std.proofs.Common.{length, ap, arith}
use Rattle.frame_codec.specs.declared.format.KeyEncoding.TheVariants.{PrefixCompressed}
use Rattle.frame_codec.proofs.WriteLemmas.{encodable-at, length-following, encoded-at_end}
use Rattle.frame_codec.proofs.write.shared_len.Goals as goal

pub sharing_len-requires : goal.sharing_len-requires
sharing_len-requires g c = (encodable-at g.V.FrameItem.codec c.args.base.now c.loop-at.at c.key-key.result.now c.cell-cell.result.now c.requires.small c.key-key.ensures c.cell-cell.ensures).0

pub encoded_len-requires : goal.encoded_len-requires
encoded_len-requires g c = (encodable-at g.V.FrameItem.codec c.args.base.now c.loop-at.at c.key-key.result.now c.cell-cell.result.now c.requires.small c.key-key.ensures c.cell-cell.ensures).1

pub overflow_add-len : goal.overflow_add-len
overflow_add-len g c =
    let following = length-following PrefixCompressed g.V.FrameItem.codec c.args.low.now c.args.base.now c.loop-at.before.now c.loop-at.at c.key-key.result.now c.cell-cell.result.now c.key-key.ensures c.cell-cell.ensures in
    let invariant = c.loop-at.invariant in
    let few = c.requires.few in
    omega (arith, c.sharing_len.ensures, c.encoded_len.ensures)

pub overflow_add-len-in-loop-at : goal.overflow_add-len-in-loop-at
overflow_add-len-in-loop-at g c =
    let following = length-following PrefixCompressed g.V.FrameItem.codec c.args.low.now c.args.base.now c.loop-at.before.now c.loop-at.at c.key-key.result.now c.cell-cell.result.now c.key-key.ensures c.cell-cell.ensures in
    let invariant = c.loop-at.invariant in
    let few = c.requires.few in
    omega (arith, c.sharing_len.ensures, c.encoded_len.ensures)

pub loop-at-preserved : goal.loop-at-preserved
loop-at-preserved g c =
    let following = length-following PrefixCompressed g.V.FrameItem.codec c.args.low.now c.args.base.now c.loop-at.before.now c.loop-at.at c.key-key.result.now c.cell-cell.result.now c.key-key.ensures c.cell-cell.ensures in
    let invariant = c.loop-at.invariant in
    omega (arith, c.sharing_len.ensures, c.encoded_len.ensures)

pub returns : goal.returns
returns g c =
    let none = ap length (encoded-at_end PrefixCompressed g.V.FrameItem.codec c.args.low.now c.args.base.now c.loop-at.before.now c.loop-at.at (omega (arith, c.loop-at-test.false, c.len-at-end.ensures.count))) in
    let invariant = c.loop-at.invariant in
    omega arith
