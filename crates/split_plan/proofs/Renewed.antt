-- How the pids of a level before and after are alike: some stay in their order, some are left out, and fresh ones are put in,
-- each the next that is unused. A device of proofs: that pids are distinct afterwards is an induction over it.
use Rattle.std.specs.Prelude.{ℕ, suc, List, [], ◌∷◌}
use Rattle.mapping.specs.FreshPids.{unused}

-- a list of pids with some left out, and with the fresh ones from place i up to place j put in
pub data Renewed (used : List ℕ) : ℕ → ℕ → List ℕ → List ℕ → Type 0 where
  done : {i : ℕ} → Renewed used i i [] []
  keep : {i j : ℕ} {before after : List ℕ} → (n : ℕ) → Renewed used i j before after → Renewed used i j (n ∷ before) (n ∷ after)
  drop_one : {i j : ℕ} {before after : List ℕ} → (n : ℕ) → Renewed used i j before after → Renewed used i j (n ∷ before) after
  draw : {i j : ℕ} {before after : List ℕ} → Renewed used (suc i) j before after → Renewed used i j before (unused used i ∷ after)
