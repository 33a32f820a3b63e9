-- The requirements and results of the functions of a climb for a level, whatever its plan is.
use Rattle.std.specs.Prelude.{◌≡◌, ◌≢◌, ℕ, ◌+◌, ◌-◌, ◌<◌, ◌≤◌, List, length, Vec, Result, Ok, Err}
use Rattle.keys.specs.Bytes.{Separators}
use Rattle.keys.specs.declared.settings.Settings.{Settings}
use Rattle.index_page.specs.Page.{Page, PageOfKind}
use Rattle.index_page.specs.Page.PageOfKind.{Index}
use Rattle.mapping.specs.Levels.{Placed}
use Rattle.mapping.specs.Tree.{most_levels}
use Rattle.mapping.specs.TreeInMemory.{TreeInMemory}
use Rattle.page_runs.specs.TermWork.{IndexUpdate}
use Rattle.climb_plan.specs.Changing.{SeenPage, parents_seen}
use Rattle.climb_plan.specs.Climb.{LevelPlan, under, alone, climb_of}
use Rattle.climb_plan.specs.HasClimbed.{HasClimbed}
use Rattle.climb_plan.specs.Level.{IsLevel, IsCut, IsChanged, IsTopChanged}
use Rattle.climb_plan.specs.Rewriting.{Remade}
use Rattle.climb_plan.specs.declared.refused.Refused.{Refused}
use Rattle.climb_plan.specs.declared.refused.Refused.TheVariants.{TooHigh}

module _ {V : Type 0} (of : Page V → PageOfKind) where
  -- ---- requirements

  -- there is a level of these pages, `depth` levels below the root
  abbrev pub SomeLevel : TreeInMemory → List SeenPage → ℕ → Type 0
  SomeLevel t xs depth = (l : LevelPlan V) × IsLevel of t xs l × (depth ≡ length l.above)

  -- there is such a level under parents that are `depth` levels below the root
  abbrev pub SomeChildren : TreeInMemory → List SeenPage → ℕ → Type 0
  SomeChildren t xs depth =
      (l : LevelPlan V) × (ps : List (Placed ℕ)) × IsLevel of t xs (under ps l) × (depth ≡ length l.above)

  -- ---- results

  -- the groups of the level that are rewritten are split
  abbrev pub CutsFrom : Settings → TreeInMemory → List SeenPage → ℕ → List (ℕ × ℕ) → List Separators → List Remade → Type 0
  CutsFrom s t xs depth parents freed groups =
      (l : LevelPlan V) (ps : List (Placed ℕ)) → IsLevel of t xs (under ps l) → depth ≡ length l.above → IsCut s of l ps parents freed groups

  -- its groups and its parents have changed as the plan says
  abbrev pub ChangesFrom : Settings → TreeInMemory → TreeInMemory → List SeenPage → ℕ → List Remade → List IndexUpdate → Type 0
  ChangesFrom s before after xs depth groups parents =
      (l : LevelPlan V) (ps : List (Placed ℕ)) → IsLevel of before xs (under ps l) → depth ≡ length l.above → IsChanged s of before after l ps groups parents

  -- the highest level has changed as the plan says, with this root and `height` levels
  abbrev pub TopChangesFrom : Settings → TreeInMemory → TreeInMemory → List SeenPage → List Remade → ℕ → ℕ → Type 0
  TopChangesFrom s before after xs groups root height =
      (l : LevelPlan V) → IsLevel of before xs (alone l) → IsTopChanged s of before after (alone l) groups root height

  -- the level and those above it have climbed
  abbrev pub ClimbsFrom : Settings → TreeInMemory → TreeInMemory → List SeenPage → ℕ → Type 0
  ClimbsFrom s before after xs depth =
      (l : LevelPlan V) → IsLevel of before xs l → depth ≡ length l.above → HasClimbed of before after l (climb_of s l)

  -- the tree would have too many levels
  abbrev pub IsTooHighFrom : Settings → TreeInMemory → List SeenPage → ℕ → Type 0
  IsTooHighFrom s t xs depth =
      (l : LevelPlan V) → IsLevel of t xs l → depth ≡ length l.above → most_levels + length l.above < t.height + length (climb_of s l).tower.above

-- ---- the end of a level

-- a level whose parents got terms: how many levels below the root it is, the tree before its changes and the tree after its parents were checked out,
-- and these parents
pub record Working : Type 0 where
  pub depth : ℕ
  pub before : TreeInMemory
  pub ready : TreeInMemory
  pub parents : List IndexUpdate

-- the state of this level
pub record IsWorkedOn {V : Type 0} (of : Page V → PageOfKind) (s : Settings) (w : Working) (xs : List SeenPage) (groups : List Remade) : Type 0 where
  pub fan : 1 < s.fan
  pub deep : w.depth ≢ 0
  pub level : SomeLevel of w.before xs w.depth
  pub works : ChangesFrom of s w.before w.ready xs (w.depth - 1) groups w.parents

-- its parents and the levels above them have climbed
pub record HaveClimbed (s : Settings) (w : Working) (now : TreeInMemory) : Type 0 where
  pub climbs : ClimbsFrom Index s w.ready now (parents_seen w.parents) (w.depth - 1)
  pub low : now.height ≤ most_levels

-- the climb of its parents failed
pub record AreRefused (s : Settings) (w : Working) (now : TreeInMemory) (why : Refused) (given : List IndexUpdate) : Type 0 where
  pub same : now ≡ w.ready
  pub back : given ≡ w.parents
  pub high : why ≡ TooHigh → IsTooHighFrom Index s w.ready (parents_seen w.parents) (w.depth - 1)

-- one of the two, according to the result of the parents' climb
abbrev pub HaveEnded : {U A : Type 0} → Settings → Working → TreeInMemory → Result U (Refused × Vec IndexUpdate A) → Type 0
HaveEnded s w now (Ok done) = HaveClimbed s w now
HaveEnded s w now (Err refused) = AreRefused s w now refused.0 refused.1.items

-- the level can be ended
pub record CanEnd {V U A : Type 0} (of : Page V → PageOfKind) (s : Settings) (w : Working) (now : TreeInMemory) (xs : List SeenPage) (groups : List Remade) (climbed : Result U (Refused × Vec IndexUpdate A)) : Type 0 where
  pub updated : IsWorkedOn of s w xs groups
  pub ended : HaveEnded s w now climbed
