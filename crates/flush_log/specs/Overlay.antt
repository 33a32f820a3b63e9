-- Writing bytes into a file, and files that agree at some of their places.
use Rattle.std.specs.Prelude.{◌≡◌, ◌⊎◌, ℕ, ◌+◌, ◌<◌, ◌≤◌, ◌++◌, length, take, drop, slice_index}
use Rattle.keys.specs.Bytes.{Bytes}

-- the bytes of a file after these are written from a place on
abbrev pub overlay : Bytes → ℕ → Bytes → Bytes
overlay file at bytes = take at file ++ (bytes ++ drop (at + length bytes) file)

-- a place is not one of the n places from `at` on
abbrev pub IsBeside : ℕ → ℕ → ℕ → Type 0
IsBeside at n place = (place < at) ⊎ (at + n ≤ place)

-- the other file has the same length, and the same bytes at such places
pub record AgreeAt (IsSuch : ℕ → Type 0) (file other : Bytes) : Type 0 where
  pub long : length other ≡ length file
  pub same : (place : ℕ) → IsSuch place → slice_index other place ≡ slice_index file place
