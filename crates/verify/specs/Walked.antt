-- The progress of a walk from the root.
use Rattle.std.specs.Prelude.{◌≡◌, ℕ, List, map, flat_map, length}
use Rattle.keys.specs.declared.settings.Settings.{Settings}
use Rattle.index_page.specs.Children.{Place}
use Rattle.mapping.specs.Tree.{Tree}
use Rattle.mapping.specs.Levels.{Placed, levels_below, levels_of, pids}
use Rattle.mapping.specs.Finding.{finding_below, finding}

-- the walk has reached these places, with n levels of index pages below: the first finding from there is the tree's, the levels from there are the
-- tree's, and each page above has been visited
pub record HasComeTo (s : Settings) (t : Tree) (n least : ℕ) (met : List ℕ) (ats : List Place) : Type 0 where
  pub found : finding_below s t.pages n least met ats ≡ finding s t
  pub levels : (above : List (List (Placed ℕ))) × (levels_below t.pages n (map (λ at. at.pid) ats) above ≡ levels_of t) × (length (flat_map pids above) ≡ length met)
