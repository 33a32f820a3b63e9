use Rattle.std.proofs.Common.{◌≤◌, [], length, refl, arith}
use Rattle.std.specs.Option.{option_copied}
use Rattle.index_page.specs.Rules.{of_cell}
use Rattle.frame_codec.specs.Codecs.{flagged}
use Rattle.keys.proofs.CellLemmas.{length-counted}
use Rattle.frame_codec.specs.declared.format.KeyEncoding.TheVariants.{Whole}
use Rattle.frame_codec.proofs.WriteLemmas.{encodable-at, tested-next, tested-done, upto-none, upto-room, upto-next, upto-done}
use Rattle.frame_codec.proofs.write.append_changes.Goals as goal

pub loop-at-init : goal.loop-at-init
loop-at-init g c = (upto-none Whole (flagged g.V.FrameItem.codec) [] c.args.run.now c.args.out.now, refl)

pub append_counted-requires-clause-small : goal.append_counted-requires-clause-small
append_counted-requires-clause-small g c =
    let short = (encodable-at (flagged g.V.FrameItem.codec) c.args.run.now c.loop-at.at c.key.result.now (option_copied c.change-change.result) c.requires.small c.key.ensures c.change-change.ensures).0 in
    omega arith

pub append_counted-requires-clause-room : goal.append_counted-requires-clause-room
append_counted-requires-clause-room g c =
    let room = upto-room Whole (flagged g.V.FrameItem.codec) [] c.args.run.now [] c.loop-at.at c.args.out.now c.loop-at.out c.loop-at.invariant.0 c.key.result.now (option_copied c.change-change.result) c.requires.room c.key.ensures c.change-change.ensures in
    omega arith

pub append_flagged-requires-clause-small : goal.append_flagged-requires-clause-small
append_flagged-requires-clause-small g c = (encodable-at (flagged g.V.FrameItem.codec) c.args.run.now c.loop-at.at c.key.result.now (option_copied c.change-change.result) c.requires.small c.key.ensures c.change-change.ensures).1

pub append_flagged-requires-clause-room : goal.append_flagged-requires-clause-room
append_flagged-requires-clause-room g c =
    let room = upto-room Whole (flagged g.V.FrameItem.codec) [] c.args.run.now [] c.loop-at.at c.args.out.now c.loop-at.out c.loop-at.invariant.0 c.key.result.now (option_copied c.change-change.result) c.requires.room c.key.ensures c.change-change.ensures in
    let len = c.append_counted.ensures.len in
    let more = c.append_counted.ensures.room in
    let key = length-counted c.key.result.now in
    omega arith

pub loop-at-preserved : goal.loop-at-preserved
loop-at-preserved g c = (
  upto-next Whole (flagged g.V.FrameItem.codec) [] c.args.run.now [] c.loop-at.at c.args.out.now c.loop-at.out c.loop-at.invariant.0 c.append_counted.new.out c.append_flagged.new.out c.key.result.now (option_copied c.change-change.result) c.key.ensures c.change-change.ensures c.append_counted.ensures c.append_flagged.ensures.bytes,
  tested-next (λ e. of_cell g.V.FrameCell.is_word e.1) c.args.run.now c.loop-at.at c.key.result.now (option_copied c.change-change.result) c.key.ensures c.change-change.ensures c.append_flagged.ensures.word c.loop-at.invariant.1,
)

pub returns-clause-bytes : goal.returns-clause-bytes
returns-clause-bytes g c =
    let all : length c.args.run.now ≤ c.loop-at.at = omega (arith, c.loop-at-test.false, c.len-at-end.ensures.count) in
    upto-done Whole (flagged g.V.FrameItem.codec) [] c.args.run.now [] c.loop-at.at c.args.out.now c.loop-at.out c.loop-at.invariant.0 all

pub returns-clause-words : goal.returns-clause-words
returns-clause-words g c =
    let all : length c.args.run.now ≤ c.loop-at.at = omega (arith, c.loop-at-test.false, c.len-at-end.ensures.count) in
    tested-done (λ e. of_cell g.V.FrameCell.is_word e.1) c.args.run.now c.loop-at.at all c.loop-at.invariant.1
