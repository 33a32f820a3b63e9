use Rattle.std.proofs.Common.{ℕ, List, sym, ap, subst, ◌∙◌}
use Rattle.std.specs.Map.{values_of}
use Rattle.scan.specs.Direction.{IsNext}
use Rattle.scan.specs.Edge.{is_under}
use Rattle.scan.specs.Path.{children_beyond}
use Rattle.scan.proofs.TreeWalks.{step_down, no_dead_end, at_leaf}
use Rattle.scan.proofs.leaves.descend.Goals as goal

pub unreachable-requires-in_default-next : goal.unreachable-requires-in_default-next
unreachable-requires-in_default-next g c =
    no_dead_end g.W.Towards.direction c.args.tree.now c.loop-page.path (is_under c.args.edge.now) c.loop-page.pid c.in-Some.page.now c.loop-page.invariant.known (c.in-Some.ensures.listed c.loop-page.invariant.walk.home) c.in_default-as_leaf.ensures
    (sym (c.new-step.ensures ∙ ap (λ (es : List (List ℕ × ℕ)). values_of (children_beyond g.W.Towards.direction (is_under c.args.edge.now) es)) c.in-Some-child_list.ensures.0) ∙ c.in_default-next.ensures.0)

pub loop-page-preserved : goal.loop-page-preserved
loop-page-preserved g c =
    let i = c.loop-page.invariant in
    let kept = c.new-step.ensures ∙ ap (λ (es : List (List ℕ × ℕ)). values_of (children_beyond g.W.Towards.direction (is_under c.args.edge.now) es)) c.in-Some-child_list.ensures.0 in
    let p = step_down g.W.Towards.direction c.args.tree.now c.loop-page.path c.push_reserved.new.self (is_under c.args.edge.now) c.loop-page.pid c.in-Some-next.child c.in-Some.page.now c.next.new.self _ i.walk i.known (c.in-Some.ensures.listed i.walk.home) c.in_default-as_leaf.ensures
    (subst (λ (js : List ℕ). IsNext g.W.Towards.direction js c.in-Some-next.child c.next.new.self) kept c.in-Some-next.ensures) c.push_reserved.ensures.items c.push_reserved.ensures.capacity i.leaves in
    record { walk = p.walk; known = p.known; leaves = p.leaves }

pub returns-in-Some-as_leaf-clause-leaves : goal.returns-in-Some-as_leaf-clause-leaves
returns-in-Some-as_leaf-clause-leaves g c =
    let i = c.loop-page.invariant in
    rw c.low.ensures (at_leaf g.W.Towards.direction c.args.tree.now c.loop-page.path (is_under c.args.edge.now) c.loop-page.pid c.in-Some.page.now _ _ i.known (c.in-Some.ensures.listed i.walk.home) c.in-Some-as_leaf.ensures i.leaves)
