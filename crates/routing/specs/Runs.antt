-- The commands that the pages of a level must apply: those that go to them, possibly without some that find nothing there.
use Rattle.std.specs.Prelude.{◌≡◌, ℕ, Bool, true, false, List, [], ◌∷◌}
use Rattle.std.specs.List.{filter}
use Rattle.keys.specs.declared.command.Command.{Command}
use Rattle.index_page.specs.Children.{Place}
use Rattle.routing.specs.Idle.{is_idle}
use Rattle.routing.specs.Routes.{Route, places_within, has_some}

-- a page's run: the places of the commands that go to the page, possibly without some that are idle there
pub record IsRunOf {A : Type 0} (cs : List (Command A)) (at : Place) (r : Route) : Type 0 where
  pub pid : r.pid ≡ at.pid
  pub some : has_some r.places ≡ true
  pub keeps : ℕ → Bool
  pub places : r.places ≡ filter keeps (places_within at.low at.end cs)
  pub idle : (place : ℕ) → keeps place ≡ false → is_idle cs at.low at.end place ≡ true

-- the runs of these pages, in order; a page to which no command goes has no run
pub data AreRunsOf {A : Type 0} (cs : List (Command A)) : List Place → List Route → Type 0 where
  none : AreRunsOf cs [] []
  next : {ats : List Place} {rs : List Route} → (at : Place) → (r : Route) → IsRunOf cs at r → AreRunsOf cs ats rs → AreRunsOf cs (at ∷ ats) (r ∷ rs)
  left_out : {ats : List Place} {rs : List Route} → (at : Place) → has_some (places_within at.low at.end cs) ≡ false → AreRunsOf cs ats rs → AreRunsOf cs (at ∷ ats) rs
