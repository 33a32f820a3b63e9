-- Decimal numbers in words.
use Rattle.std.specs.Prelude.{ℕ, Bool, not, ◌&&◌, nat_eq, nat_le, if◌then◌else◌, length, Option, Some, None}
use Rattle.std.specs.Char.{is_ascii_digit}
use Rattle.std.specs.List.{list_all}
use Rattle.std.specs.Str.Parse.{digits_value}
use Rattle.keys.specs.Bytes.{Bytes}

-- whether the word consists of decimal digits, and has at least one
abbrev pub is_decimal : Bytes → Bool
is_decimal word = not (nat_eq (length word) 0) && list_all is_ascii_digit word

-- the number that the decimal digits of a word denote, if it is at most 4294967295; leading zeros are allowed
abbrev pub number_in : Bytes → Option ℕ
number_in word = if is_decimal word && nat_le (digits_value 10 word) 4294967295 then Some (digits_value 10 word) else None
