-- Bytes that were appended where there was room.
use Rattle.std.specs.Prelude.{◌≡◌, ◌+◌, ◌<◌, ◌≤◌, ℕ, ◌++◌, length, Vec, vec_len, vec_capacity}
use Rattle.std.specs.List.{AllByRecursion}
use Rattle.keys.specs.Bytes.{Bytes, Pairs}
use Rattle.keys.specs.Cells.{Codec}

-- this number of bytes can be appended without allocation
abbrev pub HasRoomFor : {Z : Type 0} → Vec ℕ Z → ℕ → Type 0
HasRoomFor out n = vec_len out + n ≤ vec_capacity out

-- the new bytes are the old ones followed by these, and no room was lost
pub record IsAppended {Z : Type 0} (old : Vec ℕ Z) (new : Vec ℕ Z) (bytes : Bytes) : Type 0 where
  pub items : new.items ≡ old.items ++ bytes
  pub len : vec_len new ≡ vec_len old + length bytes
  pub room : vec_capacity old ≤ vec_capacity new

-- a length that fits in two bytes
abbrev pub IsCount : ℕ → Type 0
IsCount n = n < 65536

-- a length that fits in one byte
abbrev pub IsShortCount : ℕ → Type 0
IsShortCount n = n < 256

-- the key of each entry, and its encoded cell, are short enough for their lengths to be encoded
abbrev pub AreEncodable : {X : Type 0} → Codec X → Pairs X → Type 0
AreEncodable cell es = AllByRecursion (λ e. IsShortCount (length e.0) × IsCount (length (cell.encode e.1))) es
