-- The first eight bytes of a byte string as a number, which is compared before the bytes.
use Rattle.std.specs.Prelude.{◌≡◌, ℕ, zero, suc, ◌+◌, ◌*◌, [], ◌∷◌}
use Rattle.keys.specs.Bytes.{Bytes}
use Rattle.keys.specs.Cells.{AreBytes}

-- a number followed by the next k bytes, big-endian; missing bytes count as zeros
abbrev pub word_after : ℕ → ℕ → Bytes → ℕ
word_after zero n bs = n
word_after (suc k) n [] = word_after k (n * 256) []
word_after (suc k) n (b ∷ bs) = word_after k (n * 256 + b) bs

-- the first eight bytes
abbrev pub first_word : Bytes → ℕ
first_word bs = word_after 8 0 bs

-- the number is the first word of these bytes
abbrev pub IsWordOf : ℕ → Bytes → Type 0
IsWordOf n bs = (n ≡ first_word bs) × AreBytes bs
