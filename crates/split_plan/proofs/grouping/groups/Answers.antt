use Rattle.std.proofs.Common.{◌≡◌, ◌<◌, ◌≤◌, ◌+◌, true, false, length, drop, arith}
use Rattle.page_runs.specs.Updated.{is_thin_class}
use Rattle.split_plan.specs.Groups.{groups}
use Rattle.split_plan.proofs.GroupSizes.{sizes_are_found, more_come}
use Rattle.split_plan.proofs.grouping.groups.Goals as goal

pub loop-class-init : goal.loop-class-init
loop-class-init c = record {
  fits = omega arith;
  made = rw c.new-sizes.ensures.items (sizes_are_found is_thin_class c.args.classes.now);
  begun = λ e. absurd (cc);
  room = omega (arith, c.new-sizes.ensures.capacity);
}

-- a push fails only if the inline places are full
pub returns-in_err-push-clause-inline : goal.returns-in_err-push-clause-inline
returns-in_err-push-clause-inline c = λ few.
    let members : 0 < c.loop-class.members = c.loop-class.invariant.begun c.if-has_begun.true in
    let more = more_come is_thin_class (drop c.loop-class.class-index c.args.classes.now) c.loop-class.members c.loop-class.has_begun c.loop-class.sizes.items (groups is_thin_class c.args.classes.now) members c.loop-class.invariant.made in
    let room : length c.loop-class.sizes.items + 1 ≤ c.loop-class.sizes.capacity = omega (arith, more, few, c.loop-class.invariant.room) in
    let full : false ≡ true = c.in_err-push.ensures.succeeds room in
    absurd (cc)

pub returns-in_err-push-2-clause-inline : goal.returns-in_err-push-2-clause-inline
returns-in_err-push-2-clause-inline c = λ few.
    let more = more_come is_thin_class (drop c.loop-class.class-index c.args.classes.now) c.loop-class.members c.loop-class.has_begun c.loop-class.sizes.items (groups is_thin_class c.args.classes.now) c.if-members-gt0.true c.loop-class.invariant.made in
    let room : length c.loop-class.sizes.items + 1 ≤ c.loop-class.sizes.capacity = omega (arith, more, few, c.loop-class.invariant.room) in
    let full : false ≡ true = c.in_err-push-2.ensures.succeeds room in
    absurd (cc)
