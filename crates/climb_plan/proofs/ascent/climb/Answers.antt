-- Proof for climb of ascent.rt.
use Rattle.std.proofs.Common.{◌≡◌, Global}
use Rattle.std.proofs.lemmas.Result.{err_from_is_err_and}
use Rattle.climb_plan.specs.declared.refused.Refused.TheVariants.{TooHigh}
use Rattle.climb_plan.specs.Changing.{leaves_seen}
use Rattle.climb_plan.proofs.Ready.{some_leaves, too_high, some_to_shrink, all_arrive, all_low}
use Rattle.climb_plan.proofs.ascent.climb.Goals as goal

pub climb_leaves-requires-clause-level : goal.climb_leaves-requires-clause-level
climb_leaves-requires-clause-level g c κs within =
    some_leaves Global c.args.settings.now c.requires.fan c.args.tree.now (leaves_seen c.args.leaves.items) c.height-depth.result c.height-depth.ensures c.requires.ready

pub returns-in_err-climb_leaves-clause-high : goal.returns-in_err-climb_leaves-clause-high
returns-in_err-climb_leaves-clause-high g c =
    let p = err_from_is_err_and c.from_residual.result c.from_residual.ensures.1 in
    rw (p.1, p.2) (too_high Global c.args.settings.now c.requires.fan c.args.tree.now (leaves_seen c.args.leaves.items) c.height-depth.result c.height-depth.ensures
    (c.in_err-climb_leaves.field-0.0.0 ≡ TooHigh) c.requires.height c.in_err-climb_leaves.ensures.high)

pub shrink-requires : goal.shrink-requires
shrink-requires g c =
    some_to_shrink Global c.args.settings.now c.requires.fan c.args.tree.now (leaves_seen c.args.leaves.items) c.height-depth.result c.height-depth.ensures c.climb_leaves.new.tree c.in_ok-climb_leaves.ensures.climbed c.requires.ready

pub returns-clause-planned : goal.returns-clause-planned
returns-clause-planned g c =
    all_arrive Global c.args.settings.now c.requires.fan c.args.tree.now (leaves_seen c.args.leaves.items) c.height-depth.result c.height-depth.ensures c.climb_leaves.new.tree c.in_ok-climb_leaves.ensures.climbed c.shrink.new.tree c.shrink.ensures

pub returns-clause-low : goal.returns-clause-low
returns-clause-low g c =
    all_low Global c.args.settings.now c.requires.fan c.args.tree.now (leaves_seen c.args.leaves.items) c.height-depth.result c.height-depth.ensures c.climb_leaves.new.tree c.in_ok-climb_leaves.ensures.climbed c.shrink.new.tree c.shrink.ensures c.requires.ready c.in_ok-climb_leaves.ensures.low
