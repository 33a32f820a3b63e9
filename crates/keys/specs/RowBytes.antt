-- How a list of rows is encoded, row after row: the length of the key, the length of the value, the key, the value.
use Rattle.std.specs.Prelude.{◌≡◌, ⊤, ℕ, zero, suc, ◌≤◌, [], ◌∷◌, ◌++◌, length, take, drop}
use Rattle.std.specs.Int.{from_le_bytes, to_le_bytes, w64}
use Rattle.keys.specs.Bytes.{Bytes, Pairs}

-- the bytes of a row
abbrev pub row_bytes : Bytes → Bytes → Bytes
row_bytes key value = to_le_bytes w64 (length key) ++ (to_le_bytes w64 (length value) ++ (key ++ value))

-- the length that the bytes begin with
abbrev pub first_len : Bytes → ℕ
first_len bytes = from_le_bytes w64 (take 8 bytes)

-- the bytes after the two lengths of the first row
abbrev pub after_lens : Bytes → Bytes
after_lens bytes = drop 8 (drop 8 bytes)

-- the first row's key, and the bytes after it
abbrev pub first_key : Bytes → Bytes
first_key bytes = take (first_len bytes) (after_lens bytes)

abbrev pub after_key : Bytes → Bytes
after_key bytes = drop (first_len bytes) (after_lens bytes)

-- the first row's value, and the bytes after it
abbrev pub first_value : Bytes → Bytes
first_value bytes = take (first_len (drop 8 bytes)) (after_key bytes)

abbrev pub after_row : Bytes → Bytes
after_row bytes = drop (first_len (drop 8 bytes)) (after_key bytes)

-- the bytes begin with a complete row
pub record IsWhole (bytes : Bytes) : Type 0 where
  pub key_len : 8 ≤ length bytes
  pub value_len : 8 ≤ length (drop 8 bytes)
  pub key : first_len bytes ≤ length (after_lens bytes)
  pub value : first_len (drop 8 bytes) ≤ length (after_key bytes)

-- the first n rows
abbrev pub rows_in : ℕ → Bytes → Pairs Bytes
rows_in zero bytes = []
rows_in (suc n) bytes = (first_key bytes, first_value bytes) ∷ rows_in n (after_row bytes)

-- the bytes after the first n rows
abbrev pub after_rows : ℕ → Bytes → Bytes
after_rows zero bytes = bytes
after_rows (suc n) bytes = after_rows n (after_row bytes)

-- the bytes begin with n complete rows
abbrev pub StartWithRows : ℕ → Bytes → Type 0
StartWithRows zero bytes = ⊤
StartWithRows (suc n) bytes = IsWhole bytes × StartWithRows n (after_row bytes)

-- the bytes are exactly n complete rows
abbrev pub AreRows : ℕ → Bytes → Type 0
AreRows zero bytes = bytes ≡ []
AreRows (suc n) bytes = IsWhole bytes × AreRows n (after_row bytes)
