use Rattle.std.proofs.Common.{subst, ◌∙◌, arith}
use Rattle.delta_chain.specs.Lazy.{seen}
use Rattle.scan.specs.Direction.{IsNext}
use Rattle.scan.specs.Edge.{is_under}
use Rattle.scan.specs.Path.{leaf_with}
use Rattle.scan.specs.Walk.{walk_ahead}
use Rattle.scan.proofs.TreeWalks.{step_along, step_up}
use Rattle.scan.proofs.WalkLemmas.{room_again}
use Rattle.scan.proofs.leaves.next_leaf.Goals as goal

pub push_reserved-requires : goal.push_reserved-requires
push_reserved-requires g c =
    (omega arith, room_again c.args.tree.now c.loop-step.path c.pop.new.self c.in-Some.step c.loop-step.invariant.walk c.in-Some.ensures.items c.in-Some.ensures.capacity)

pub descend-requires : goal.descend-requires
descend-requires g c =
    let s = step_along g.W.Towards.direction c.args.tree.now c.loop-step.path c.pop.new.self c.push_reserved.new.self (is_under c.outermost.result) c.in-Some.step c.next.new.self c.in-Some-next.child (rw c.direction.ensures at c.outermost.ensures) c.loop-step.invariant.walk c.in-Some.ensures.items c.in-Some.ensures.capacity
    c.in-Some-next.ensures c.push_reserved.ensures.items c.push_reserved.ensures.capacity in
    (omega arith, (s.walk, s.known))

pub returns-in-Some-next-clause-leaves : goal.returns-in-Some-next-clause-leaves
returns-in-Some-next-clause-leaves g c =
    let s = step_along g.W.Towards.direction c.args.tree.now c.loop-step.path c.pop.new.self c.push_reserved.new.self (is_under c.outermost.result) c.in-Some.step c.next.new.self c.in-Some-next.child (rw c.direction.ensures at c.outermost.ensures) c.loop-step.invariant.walk c.in-Some.ensures.items c.in-Some.ensures.capacity
    c.in-Some-next.ensures c.push_reserved.ensures.items c.push_reserved.ensures.capacity in
    subst (λ xs. IsNext g.W.Towards.direction xs (leaf_with c.descend.result.0.now (seen c.descend.result.1.now)) (walk_ahead g.W.Towards.direction c.args.tree.now c.descend.new.path.items))
    (s.leaves ∙ c.loop-step.invariant.leaves) c.descend.ensures.leaves

pub loop-step-preserved : goal.loop-step-preserved
loop-step-preserved g c =
    let up = step_up g.W.Towards.direction c.args.tree.now c.loop-step.path c.pop.new.self c.in-Some.step _ c.loop-step.invariant.walk c.in-Some.ensures.items c.in-Some.ensures.capacity c.in_default-next.ensures.0 c.loop-step.invariant.leaves in
    record { walk = up.0; leaves = up.1 }
