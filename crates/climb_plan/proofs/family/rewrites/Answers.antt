use Rattle.std.proofs.Common.{◌≡◌, ◌<◌, List, length, drop, ap, subst, arith, length-drop}
use Rattle.std.specs.List.{AllByRecursion}
use Rattle.climb_plan.specs.Rewriting.{all_seen, IsQuiet}
use Rattle.climb_plan.specs.declared.seen.Seen.{Seen}
use Rattle.climb_plan.proofs.RewritingLevel.{at_first, at_last}
use Rattle.climb_plan.proofs.RewritingWalk.{next_family, some_after, undrawn}
use Rattle.climb_plan.proofs.family.rewrites.Goals as goal

pub loop-low-init : goal.loop-low-init
loop-low-init c = record {
  most = omega arith;
  each = λ all ps ups h. rw (c.new.ensures.items, c.new-2.ensures.items) (at_first c.args.tree.now c.args.depth (all_seen c.args.seen.now) all ps ups h);
}

pub add_family-requires : goal.add_family-requires
add_family-requires c =
    let h = c.requires in
    next_family c.args.tree.now c.args.depth (all_seen c.args.seen.now) h.0 h.1 h.2 h.3 c.args.seen.now c.left_from.result.now c.left_from-in-Some.result.now c.loop-low.done _ _ c.in-Some.low.now c.left_from.ensures c.left_from-in-Some.ensures
    (c.loop-low.invariant.each h.0 h.1 h.2 h.3) c.in-Some.ensures c.parent_of-parent.result (c.parent_of-parent.ensures h.1 h.2 h.3.parents)

pub loop-low-smaller : goal.loop-low-smaller
loop-low-smaller c =
    let h = c.requires in
    let some : 0 < c.in_ok-done.field-0 =
    some_after c.args.tree.now c.args.depth (all_seen c.args.seen.now) h.0 h.1 h.2 h.3 c.args.seen.now c.left_from.result.now c.left_from-in-Some.result.now c.loop-low.done _ _ c.in-Some.low.now c.left_from.ensures c.left_from-in-Some.ensures
    (c.loop-low.invariant.each h.0 h.1 h.2 h.3) c.in-Some.ensures c.parent_of-parent.result (c.parent_of-parent.ensures h.1 h.2 h.3.parents) c.in_ok-done.field-0 c.in_ok-done.ensures.later in
    let count : length c.left_from-in-Some.result.now ≡ length (drop c.loop-low.done c.args.seen.now) = ap (λ (xs : List Seen). length xs) c.left_from-in-Some.ensures in
    omega (arith, c.in_ok-done.ensures.most, length-drop {A = Seen})

pub loop-low-preserved : goal.loop-low-preserved
loop-low-preserved c =
    let count : length c.left_from-in-Some.result.now ≡ length (drop c.loop-low.done c.args.seen.now) = ap (λ (xs : List Seen). length xs) c.left_from-in-Some.ensures in
    record {
      most = omega (arith, c.in_ok-done.ensures.most, length-drop {A = Seen});
      each =
          λ all ps ups h.
          undrawn c.args.tree.now c.args.depth (all_seen c.args.seen.now) all ps ups h c.args.seen.now c.left_from.result.now c.left_from-in-Some.result.now c.loop-low.done _ _ c.in-Some.low.now c.left_from.ensures c.left_from-in-Some.ensures
          (c.loop-low.invariant.each all ps ups h) c.in-Some.ensures c.parent_of-parent.result (c.parent_of-parent.ensures ps ups h.parents) c.in_ok-done.field-0 _ _ c.in_ok-done.ensures.later c.in_ok-done.ensures.parents c.in_ok-done.ensures.groups;
    }

pub returns-clause-parents : goal.returns-clause-parents
returns-clause-parents c =
    λ all ps ups h.
    let quiet : AllByRecursion IsQuiet (all_seen (drop c.loop-low.done c.args.seen.now)) = subst (λ (xs : List Seen). AllByRecursion IsQuiet (all_seen xs)) c.left_from.ensures c.in_default.ensures in
    (at_last c.args.tree.now c.args.depth (all_seen c.args.seen.now) all ps ups h (all_seen (drop c.loop-low.done c.args.seen.now)) _ _ (c.loop-low.invariant.each all ps ups h) quiet).0

pub returns-clause-groups : goal.returns-clause-groups
returns-clause-groups c =
    λ all ps ups h.
    let quiet : AllByRecursion IsQuiet (all_seen (drop c.loop-low.done c.args.seen.now)) = subst (λ (xs : List Seen). AllByRecursion IsQuiet (all_seen xs)) c.left_from.ensures c.in_default.ensures in
    (at_last c.args.tree.now c.args.depth (all_seen c.args.seen.now) all ps ups h (all_seen (drop c.loop-low.done c.args.seen.now)) _ _ (c.loop-low.invariant.each all ps ups h) quiet).1
