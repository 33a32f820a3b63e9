use Rattle.std.proofs.Common.{drop, arith}
use Rattle.std.proofs.lemmas.List.{length-drop}
use Rattle.frame_codec.proofs.ShareLemmas.{common-le}
use Rattle.frame_codec.proofs.parts.common_len.Goals as goal

pub returns-clause-same : goal.returns-clause-same
returns-clause-same c =
    let left = common-le (drop c.loop-at.at c.args.one.now) (drop c.loop-at.at c.args.other.now) in
    let one = length-drop c.loop-at.at c.args.one.now in
    let other = length-drop c.loop-at.at c.args.other.now in
    omega (arith, c.min-most.ensures, c.loop-at.invariant, c.loop-at.auto.at-end, c.loop-at-test.false)
