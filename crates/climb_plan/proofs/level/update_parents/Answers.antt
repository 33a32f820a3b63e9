use Rattle.std.proofs.Common.{ℕ, List, map, sym, subst}
use Rattle.std.specs.Prelude.{Option}
use Rattle.climb_plan.specs.Installing.{AreParentsHome}
use Rattle.climb_plan.proofs.level.update_parents.Goals as goal

pub work_parents-requires-after_bounds : goal.work_parents-requires-after_bounds
work_parents-requires-after_bounds g c κs within =
    subst (λ (es : List (ℕ × List (List ℕ × Option ℕ))). AreParentsHome c.args.tree.now.table (map (λ e. e.0) es)) (sym c.in_ok-termed.ensures) c.requires.home
