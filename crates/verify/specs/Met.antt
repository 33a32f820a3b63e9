-- Visited pids, without their order.
use Rattle.std.specs.Prelude.{◌≡◌, ℕ, List}
use Rattle.mapping.specs.FreshPids.{is_among}

-- the same pids have been visited
abbrev pub HaveMetTheSame : List ℕ → List ℕ → Type 0
HaveMetTheSame met other = (n : ℕ) → is_among n met ≡ is_among n other
