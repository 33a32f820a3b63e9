-- The plan of a level, and a family as it is seen, from their parts.
use Rattle.std.specs.Prelude.{ℕ, List}
use Rattle.mapping.specs.Levels.{Placed}
use Rattle.page_runs.specs.Updated.{Updated}
use Rattle.climb_plan.specs.Changing.{SeenPage}
use Rattle.climb_plan.specs.Climb.{LevelPlan}
use Rattle.climb_plan.specs.Rewriting.{FamilySeen}

abbrev pub level_of : {V : Type 0} → List (Updated V) → List (List (Placed ℕ)) → List ℕ → ℕ → LevelPlan V
level_of ws ups used i = record { updated = ws; above = ups; used = used; from = i }

abbrev pub family_of : Placed ℕ → List SeenPage → List SeenPage → List SeenPage → List SeenPage → FamilySeen
family_of p before from children later = record { parent = p; before = before; from = from; children = children; later = later }
