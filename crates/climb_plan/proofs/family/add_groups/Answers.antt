use Rattle.std.proofs.Common.{refl, ◌≡◌, ◌≤◌, ◌+◌, ◌∙◌, ℕ, List, length, take, drop, get_or, ap, arith}
use Rattle.climb_plan.specs.Rewriting.{all_seen}
use Rattle.climb_plan.specs.declared.seen.Seen.{Seen}
use Rattle.climb_plan.proofs.RewritingGroups.{sizes_of_seen, all_in_groups, next_group, dealt_more, all_dealt}
use Rattle.climb_plan.proofs.family.add_groups.Goals as goal

pub loop-size-init : goal.loop-size-init
loop-size-init c = record {
  most = omega arith;
  sized = c.as_slice-size-items.ensures ∙ sizes_of_seen c.args.children.now c.deref.result.now c.in_ok-sizes.sizes.items (c.deref.ensures.value ∙ c.in_ok-classes.ensures) c.in_ok-sizes.ensures.sizes;
  left = all_in_groups c.args.children.now;
  so_far = refl;
}

pub returns : goal.returns
returns c = all_dealt c.args.children.now c.as_slice-size-items.result.now _ c.loop-size.start c.loop-size.size-index _ c.loop-size.invariant (omega arith)

pub split_at-requires-in-loop-size : goal.split_at-requires-in-loop-size
split_at-requires-in-loop-size c =
    let r = next_group c.args.children.now c.as_slice-size-items.result.now _ c.loop-size.start c.loop-size.size-index _ c.loop-size.invariant c.loop-size-test.true in
    let w : c.loop-size.start + length r.0 ≤ length c.args.children.now = r.1.within in
    let s : get_or c.as_slice-size-items.result.now c.loop-size.size-index 0 ≡ length r.0 = r.1.size in
    omega (arith, c.split_at.ensures.back_len)

pub loop-size-preserved : goal.loop-size-preserved
loop-size-preserved c =
    let r = next_group c.args.children.now c.as_slice-size-items.result.now _ c.loop-size.start c.loop-size.size-index _ c.loop-size.invariant c.loop-size-test.true in
    let size : ℕ = get_or c.as_slice-size-items.result.now c.loop-size.size-index 0 in
    let own : all_seen c.split_at-in-loop-size.result.0.now ≡ all_seen (take size (drop c.loop-size.start c.args.children.now)) =
    ap (λ (xs : List Seen). all_seen xs) (c.split_at-in-loop-size.ensures.front ∙ ap (λ (xs : List Seen). take size xs) c.split_at.ensures.back) in
    dealt_more c.args.children.now c.as_slice-size-items.result.now _ c.loop-size.start c.loop-size.size-index (c.loop-size.start + size) _ _ r.0 (all_seen c.split_at-in-loop-size.result.0.now) c.loop-size.invariant r.1 refl own c.in_ok-add_group.ensures
