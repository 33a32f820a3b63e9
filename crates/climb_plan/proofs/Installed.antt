-- The table after groups were installed, in the form that the proofs use.
use Rattle.std.specs.Prelude.{◌≡◌, ℕ, false, List, ◌++◌, map, None}
use Rattle.std.specs.List.{filter, AllByRecursion}
use Rattle.index_page.specs.Page.{Page, PageOfKind}
use Rattle.mapping.specs.Levels.{pids}
use Rattle.mapping.specs.FreshPids.{is_among}
use Rattle.mapping.specs.Table.{Mapping, place_of}
use Rattle.page_runs.specs.Updated.{Updated}
use Rattle.split_plan.specs.Change.{Change, new_of}
use Rattle.split_plan.specs.Terms.{freed_of}
use Rattle.climb_plan.specs.Changing.{AreHome}

-- the pids of pages after their runs
abbrev pub updated_pids : {V : Type 0} → List (Updated V) → List ℕ
updated_pids ws = map (λ w. w.placed.pid) ws

-- those that were replaced
abbrev pub replaced_among : {V : Type 0} → List (Updated V) → List (Updated V)
replaced_among ws = filter (λ w. w.replaced) ws

-- from one table to the next the new pages of changes were put in, and their freed pages lost their places; everything else is unchanged
pub record IsInstalled {V : Type 0} (of : Page V → PageOfKind) (before after : Mapping PageOfKind) (cs : List (Change V)) : Type 0 where
  pub new : AreHome of after (new_of cs)
  pub freed : AllByRecursion (λ p. place_of after p.pid ≡ None) (freed_of cs)
  pub others : (pid : ℕ) → is_among pid (pids (new_of cs) ++ pids (freed_of cs)) ≡ false → place_of after pid ≡ place_of before pid
