use Rattle.std.proofs.Common.{◌≤◌, length, arith}
use Rattle.delta_chain.proofs.RunList.{changes-next, changes-all}
use Rattle.delta_chain.proofs.chain.named_by.Goals as goal

pub loop-run-preserved : goal.loop-run-preserved
loop-run-preserved g c =
    changes-next c.args.runs.now c.loop-run.run-index _ c.loop-run.named c.len.result c.saturating_add-named.result _ c.loop-run-test.true c.run-item.is c.loop-run.invariant c.len.ensures.count c.saturating_add-named.ensures

pub returns : goal.returns
returns g c =
    let past : length c.args.runs.now ≤ c.loop-run.run-index = omega (arith, c.loop-run-test.false) in
    changes-all c.args.runs.now c.loop-run.run-index c.loop-run.named _ past c.loop-run.invariant
