use Rattle.std.proofs.Common.{ap, map}
use Rattle.climb_plan.specs.Installing.{come_home}
use Rattle.climb_plan.proofs.Installing.{home_apart, away_next, home_step}
use Rattle.climb_plan.proofs.install.rests_once_home.Goals as goal

pub loop-done-preserved : goal.loop-done-preserved
loop-done-preserved g c =
    let tree = c.loop-done.tree in
    let x = g.D.UpdatedPage.seen_page c.in-Some.done in
    let left = c.in-Some.ensures.steps.0 in
    record {
      away = away_next tree c.come_home-rest.new.tree (come_home tree.table x) x.pid _ _ (ap (map (λ d. (g.D.UpdatedPage.seen_page d).pid)) left) c.come_home-rest.ensures (home_apart tree.table x) c.loop-done.invariant.away;
      home = home_step tree c.come_home-rest.new.tree _ x _ _ (ap (map g.D.UpdatedPage.seen_page) left) c.come_home-rest.ensures c.loop-done.invariant.home;
    }
