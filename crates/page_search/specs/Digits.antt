-- The length of a number in base 2, which bounds the comparisons of a binary search.
use Rattle.std.specs.Prelude.{ℕ, zero, suc, ◌/◌}

-- how many halvings reduce the number to 0, counting at most the given number of them
abbrev pub halvings : ℕ → ℕ → ℕ
halvings zero n = 0
halvings (suc most) zero = 0
halvings (suc most) (suc n) = suc (halvings most (suc n / 2))

-- the number of binary digits, which is zero for 0; n halvings are always enough
unfoldable pub binary_digits : ℕ → ℕ
binary_digits n = halvings n n
