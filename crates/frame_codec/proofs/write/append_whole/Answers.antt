use Rattle.std.proofs.Common.{◌≤◌, [], length, refl, arith}
use Rattle.keys.proofs.CellLemmas.{length-counted}
use Rattle.frame_codec.specs.declared.format.KeyEncoding.TheVariants.{Whole}
use Rattle.frame_codec.proofs.WriteLemmas.{encodable-at, tested-next, tested-done, upto-none, upto-room, upto-next, upto-done}
use Rattle.frame_codec.proofs.write.append_whole.Goals as goal

pub loop-at-init : goal.loop-at-init
loop-at-init g c = (upto-none Whole g.V.FrameItem.codec [] c.args.base.now c.args.out.now, refl)

pub append_counted-requires-clause-small : goal.append_counted-requires-clause-small
append_counted-requires-clause-small g c =
    let short = (encodable-at g.V.FrameItem.codec c.args.base.now c.loop-at.at c.key.result.now c.cell-cell.result.now c.requires.small c.key.ensures c.cell-cell.ensures).0 in omega arith

pub append_counted-requires-clause-room : goal.append_counted-requires-clause-room
append_counted-requires-clause-room g c =
    let room = upto-room Whole g.V.FrameItem.codec [] c.args.base.now [] c.loop-at.at c.args.out.now c.loop-at.out c.loop-at.invariant.0 c.key.result.now c.cell-cell.result.now c.requires.room c.key.ensures c.cell-cell.ensures in
    omega arith

pub append-requires-clause-small : goal.append-requires-clause-small
append-requires-clause-small g c = (encodable-at g.V.FrameItem.codec c.args.base.now c.loop-at.at c.key.result.now c.cell-cell.result.now c.requires.small c.key.ensures c.cell-cell.ensures).1

pub append-requires-clause-room : goal.append-requires-clause-room
append-requires-clause-room g c =
    let room = upto-room Whole g.V.FrameItem.codec [] c.args.base.now [] c.loop-at.at c.args.out.now c.loop-at.out c.loop-at.invariant.0 c.key.result.now c.cell-cell.result.now c.requires.room c.key.ensures c.cell-cell.ensures in
    let len = c.append_counted.ensures.len in
    let more = c.append_counted.ensures.room in
    let key = length-counted c.key.result.now in
    omega arith

pub loop-at-preserved : goal.loop-at-preserved
loop-at-preserved g c = (
  upto-next Whole g.V.FrameItem.codec [] c.args.base.now [] c.loop-at.at c.args.out.now c.loop-at.out c.loop-at.invariant.0 c.append_counted.new.out c.append.new.out c.key.result.now c.cell-cell.result.now c.key.ensures c.cell-cell.ensures c.append_counted.ensures c.append.ensures.bytes,
  tested-next (λ e. g.V.FrameCell.is_word e.1) c.args.base.now c.loop-at.at c.key.result.now c.cell-cell.result.now c.key.ensures c.cell-cell.ensures c.append.ensures.word c.loop-at.invariant.1,
)

pub returns-clause-bytes : goal.returns-clause-bytes
returns-clause-bytes g c =
    let all : length c.args.base.now ≤ c.loop-at.at = omega (arith, c.loop-at-test.false, c.len-at-end.ensures.count) in
    upto-done Whole g.V.FrameItem.codec [] c.args.base.now [] c.loop-at.at c.args.out.now c.loop-at.out c.loop-at.invariant.0 all

pub returns-clause-words : goal.returns-clause-words
returns-clause-words g c =
    let all : length c.args.base.now ≤ c.loop-at.at = omega (arith, c.loop-at-test.false, c.len-at-end.ensures.count) in
    tested-done (λ e. g.V.FrameCell.is_word e.1) c.args.base.now c.loop-at.at all c.loop-at.invariant.1
