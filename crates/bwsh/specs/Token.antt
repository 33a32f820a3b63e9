-- Tokens: how the words of a batch file encode byte strings.
use Rattle.std.specs.Prelude.{ℕ, ◌+◌, ◌*◌, ◌/◌, ◌%◌, Bool, not, ◌&&◌, ◌==◌, nat_lt, if◌then◌else◌, [], ◌∷◌, ◌++◌, length, Option, Some, None}
use Rattle.std.specs.List.{flat_map}
use Rattle.std.specs.Str.{bytes_eq}
use Rattle.std.specs.Option.{option_map, option_zip}
use Rattle.std.specs.Char.{digit_value, is_digit, is_ascii_graphic}
use Rattle.keys.specs.Bytes.{Bytes}

-- the character before two hexadecimal digits, which alone encodes the empty string
abbrev pub percent : ℕ
percent = 37

-- the value of a hexadecimal digit, in either case
abbrev pub hex_value : ℕ → Option ℕ
hex_value c = if is_digit c 16 then Some (digit_value c) else None

-- a character from 0x21 to 0x7E that is not the percent sign
abbrev pub stands_for_itself : ℕ → Bool
stands_for_itself c = is_ascii_graphic c && not (c == percent)

-- the byte that a single character encodes
abbrev pub own_byte : ℕ → Option ℕ
own_byte c = if stands_for_itself c then Some c else None

-- the byte that two hexadecimal digits encode
abbrev pub hex_byte : ℕ → ℕ → Option ℕ
hex_byte high low = option_map (λ (h, l). 16 * h + l) (option_zip (hex_value high) (hex_value low))

-- the byte followed by the bytes, if there are both
abbrev pub byte_in_front : Option ℕ → Option Bytes → Option Bytes
byte_in_front b bs = option_map (λ (x, xs). x ∷ xs) (option_zip b bs)

-- the first bytes followed by the others, if there are both
abbrev pub with_front : Bytes → Option Bytes → Option Bytes
with_front front bs = option_map (λ xs. front ++ xs) bs

-- the bytes that characters encode: a percent sign and the two characters after it encode one byte, any other character encodes itself
abbrev pub unescaped : Bytes → Option Bytes
unescaped [] = Some []
unescaped (c ∷ []) = byte_in_front (own_byte c) (Some [])
unescaped (c ∷ d ∷ []) = byte_in_front (own_byte c) (unescaped (d ∷ []))
unescaped (c ∷ d ∷ e ∷ cs) = if c == percent then byte_in_front (hex_byte d e) (unescaped cs) else byte_in_front (own_byte c) (unescaped (d ∷ e ∷ cs))

-- the bytes that a token encodes, if it is valid: a single percent sign encodes the empty string
abbrev pub token_bytes : Bytes → Option Bytes
token_bytes t = if bytes_eq t (percent ∷ []) then Some [] else (if length t == 0 then None else unescaped t)

-- the upper case digit of a number below 16
abbrev pub hex_digit : ℕ → ℕ
hex_digit n = if nat_lt n 10 then 48 + n else 55 + n

-- a byte as it is printed: escaped unless its character encodes it
abbrev pub shown_byte : ℕ → Bytes
shown_byte b = if stands_for_itself b then b ∷ [] else percent ∷ hex_digit (b / 16) ∷ hex_digit (b % 16) ∷ []

-- a byte string as it is printed
abbrev pub shown_token : Bytes → Bytes
shown_token [] = percent ∷ []
shown_token (b ∷ bs) = flat_map shown_byte (b ∷ bs)
