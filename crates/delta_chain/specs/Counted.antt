-- What a chain records about its page.
use Rattle.std.specs.Prelude.{ℕ, ◌≤◌, ◌-◌, ◌^◌, length, min}
use Rattle.delta_chain.specs.Layers.{Layers, entries_of, IsInOrder}

-- all keys rise, and the number of entries is at least `fewest` and at most `most` (unless `most` is the greatest usize, which means no bound)
pub record IsCounted {V : Type 0} (p : Layers V) (fewest most : ℕ) : Type 0 where
  pub rising : IsInOrder p
  pub entries : fewest ≤ length (entries_of p)
  pub no_more : min (length (entries_of p)) (2 ^ 64 - 1) ≤ most
