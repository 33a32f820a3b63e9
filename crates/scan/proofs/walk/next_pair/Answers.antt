use Rattle.delta_chain.specs.Lazy.{seen}
use Rattle.scan.proofs.LazyLemmas.{late_whole}
use Rattle.scan.proofs.WalkPairs.{next_leaf_left, pair_found, none_found}
use Rattle.scan.proofs.walk.next_pair.Goals as goal

pub loop-pair-preserved : goal.loop-pair-preserved
loop-pair-preserved g c =
    next_leaf_left g.W.Towards.direction c.loop-pair.leaf c.restart.new.self c.loop-pair.leaves c.next-in-loop-pair.new.self _ (seen c.in-Some-next.chain.now) _ c.in_default.ensures.0 c.in-Some-next.ensures
    (late_whole c.in-Some-next.chain.now c.whole.result.now _ c.whole.ensures c.restart.ensures)
    c.loop-pair.invariant

pub returns-in-Some : goal.returns-in-Some
returns-in-Some g c = pair_found g.W.Towards.direction _ c.loop-pair.leaf c.next.new.self c.loop-pair.leaves _ c.in-Some.ensures c.loop-pair.invariant

pub returns-in-None : goal.returns-in-None
returns-in-None g c = none_found g.W.Towards.direction c.loop-pair.leaf c.next.new.self c.loop-pair.leaves c.next-in-loop-pair.new.self _ c.in_default.ensures.0 c.in_default.ensures.1 c.in-None.ensures.0 c.in-None.ensures.1 c.loop-pair.invariant
