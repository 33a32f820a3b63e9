-- The runs that parents get, in the form that the proofs use.
use Rattle.std.specs.Prelude.{ℕ, List, [], ◌∷◌, Option}
use Rattle.mapping.specs.Levels.{Placed, pids}

-- each parent with its run
abbrev pub runs_by_parent : List ℕ → List (List (List ℕ × Option ℕ)) → List (ℕ × List (List ℕ × Option ℕ))
runs_by_parent [] runs = []
runs_by_parent (pid ∷ pids) [] = []
runs_by_parent (pid ∷ pids) (run ∷ runs) = (pid, run) ∷ runs_by_parent pids runs

-- runs for all pages of a level, where only these pages have one that isn't empty
pub data AreRunsOf {V : Type 0} : List (Placed V) → List (List (List ℕ × Option V)) → List (Placed V) → List (List (List ℕ × Option V)) → Type 0 where
  none : AreRunsOf [] [] [] []
  termed : {ps qs : List (Placed V)} {runs rs : List (List (List ℕ × Option V))} → (p : Placed V) → (run : List (List ℕ × Option V)) → AreRunsOf ps runs qs rs → AreRunsOf (p ∷ ps) (run ∷ runs) (p ∷ qs) (run ∷ rs)
  untermed : {ps qs : List (Placed V)} {runs rs : List (List (List ℕ × Option V))} → (p : Placed V) → AreRunsOf ps runs qs rs → AreRunsOf (p ∷ ps) ([] ∷ runs) qs rs
