-- A violation of the structure of a tree.
use Rattle.std.specs.Prelude.{ℕ}

-- the number of the violated rule, and the page that breaks it
pub record Finding : Type 0 where
  pub rule : ℕ
  pub pid : ℕ
