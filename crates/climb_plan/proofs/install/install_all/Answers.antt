use Rattle.climb_plan.proofs.Installing.{can_first, can_next, install_step}
use Rattle.climb_plan.proofs.install.install_all.Goals as goal

pub install-requires : goal.install-requires
install-requires c = can_first c.loop-group.tree _ _ _ c.in-Some.ensures.steps.0 c.loop-group.invariant.can

pub loop-group-preserved : goal.loop-group-preserved
loop-group-preserved c =
    let tree = c.loop-group.tree in
    let left = c.in-Some.ensures.steps.0 in
    record {
      can = can_next tree _ _ _ _ left c.install.ensures c.loop-group.invariant.can;
      installed = install_step tree _ _ _ _ _ left c.install.ensures c.loop-group.invariant.installed;
    }
