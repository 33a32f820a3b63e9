-- The descent to a parent, for the proofs of this crate.
use Rattle.std.specs.Prelude.{◌≡◌, ℕ, List, [], ◌∷◌}
use Rattle.mapping.specs.Descent.{HasWay, LeadsTo}
use Rattle.mapping.specs.Levels.{Placed}
use Rattle.mapping.specs.Table.{page_of}
use Rattle.mapping.specs.TreeInMemory.{TreeInMemory}
use Rattle.mapping.proofs.DescentWay.{AreUnder, way_from_root, leads_from_root}
use Rattle.climb_plan.specs.Rewriting.{pids_for, AreParents}

module _ (t : TreeInMemory) (depth : ℕ) (ps : List (Placed ℕ)) (ups : List (List (Placed ℕ))) (h : AreParents t depth ps ups) (k : List ℕ) where
  under : AreUnder (page_of t.table) ps ups
  under = record { home = h.home.1; tiled = h.tiled; first = h.first; stacked = h.stacked }

  pub parent_way : HasWay (page_of t.table) k depth t.root
  parent_way = way_from_root (page_of t.table) k ps ups depth t.root under h.far h.root

  pub parent_found : (to : ℕ) → LeadsTo (page_of t.table) k depth t.root to → pids_for ps k ≡ to ∷ []
  parent_found to l = leads_from_root (page_of t.table) k ps ups depth t.root to under h.far h.root l
