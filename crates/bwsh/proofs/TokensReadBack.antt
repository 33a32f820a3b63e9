-- Printed tokens are parsed to the same bytes.
use Rattle.std.proofs.Common.{◌≡◌, ℕ, ◌+◌, ◌*◌, ◌/◌, ◌%◌, ◌<◌, ◌≤◌, Bool, true, false, eqb, List, [], ◌∷◌, ◌++◌, Some, refl, ap, ◌∙◌, arith}
use Rattle.std.specs.List.{All, AllByRecursion, flat_map, list_all, slice_split}
use Rattle.std.specs.Str.{bytes_eq}
use Rattle.std.specs.Char.{digit_value}
use Rattle.std.proofs.Math.Dec.{eqb-suc-zero}
use Rattle.std.proofs.lemmas.Bool.{and_parts}
use Rattle.std.proofs.lemmas.Bool.Decides.{nat_tests}
use Rattle.std.proofs.lemmas.List.Elements.{recursion_from_All, All-from_recursion}
use Rattle.std.proofs.lemmas.List.Splits.{slice_split_none}
use Rattle.bwsh.specs.Token.{hex_value, stands_for_itself, hex_byte, byte_in_front, unescaped, token_bytes, hex_digit, shown_byte, shown_token}
use Rattle.bwsh.specs.Words.{is_blank, words_of}

digit_of_digit : (n : ℕ) → n < 16 → digit_value (hex_digit n) ≡ n
digit_of_digit n h = grind (arith, nat_tests)

digit_is_read : (n : ℕ) → n < 16 → hex_value (hex_digit n) ≡ Some n
digit_is_read n h = rw (digit_of_digit n h) (grind (arith, nat_tests))

-- the printed form of a byte, depending on whether it encodes itself
self_is : (b : ℕ) → stands_for_itself b ≡ true → (eqb b 37 ≡ false) × (33 ≤ b) × (b ≤ 126)
self_is b h = grind (arith, nat_tests)

front_self : (b : ℕ) (cs : List ℕ) → stands_for_itself b ≡ true → unescaped (b ∷ cs) ≡ byte_in_front (Some b) (unescaped cs)
front_self b [] h = rw h refl
front_self b (d ∷ []) h = rw h refl
front_self b (d ∷ e ∷ cs) h = rw (h, (self_is b h).0) refl

-- characters that all encode themselves
pub unescaped-plain : (cs : List ℕ) → list_all stands_for_itself cs ≡ true → unescaped cs ≡ Some cs
unescaped-plain [] h = refl
unescaped-plain (c ∷ cs) h =
    let (own, others) = and_parts (stands_for_itself c) (list_all stands_for_itself cs) h in
    front_self c cs own ∙ ap (byte_in_front (Some c)) (unescaped-plain cs others)

hex_is_read : (b : ℕ) → b < 256 → hex_byte (hex_digit (b / 16)) (hex_digit (b % 16)) ≡ Some b
hex_is_read b h =
    let high : b / 16 < 16 = omega arith in
    let low : b % 16 < 16 = omega arith in
    let whole : 16 * (b / 16) + b % 16 ≡ b = omega arith in
    rw (digit_is_read (b / 16) high, digit_is_read (b % 16) low) (ap Some whole)

front_by : (t : Bool) (b : ℕ) (cs : List ℕ) → stands_for_itself b ≡ t → b < 256 → unescaped (shown_byte b ++ cs) ≡ byte_in_front (Some b) (unescaped cs)
front_by true b cs h l = rw h (front_self b cs h)
front_by false b cs h l = rw (h, hex_is_read b l) refl

unescaped-shown : (bs : List ℕ) → AllByRecursion (λ b. b < 256) bs → unescaped (flat_map shown_byte bs) ≡ Some bs
unescaped-shown [] a = refl
unescaped-shown (b ∷ bs) a = front_by (stands_for_itself b) b (flat_map shown_byte bs) refl a.0 ∙ ap (byte_in_front (Some b)) (unescaped-shown bs a.1)

-- the text of some bytes is neither empty nor the percent sign alone
token_by : (t : Bool) (b : ℕ) (cs : List ℕ) → stands_for_itself b ≡ t → token_bytes (shown_byte b ++ cs) ≡ unescaped (shown_byte b ++ cs)
token_by true b cs h = rw h (rw ((self_is b h).0, eqb-suc-zero) refl)
token_by false b cs h = rw h (rw eqb-suc-zero refl)

shown_is_read : (bs : List ℕ) → AllByRecursion (λ b. b < 256) bs → token_bytes (shown_token bs) ≡ Some bs
shown_is_read [] a = refl
shown_is_read (b ∷ bs) a = token_by (stands_for_itself b) b (flat_map shown_byte bs) refl ∙ unescaped-shown (b ∷ bs) a

pub token_bytes-shown_token : (bs : List ℕ) → All (λ b. b < 256) bs → token_bytes (shown_token bs) ≡ Some bs
token_bytes-shown_token bs a = shown_is_read bs (recursion_from_All (λ b. b < 256) bs a)

abbrev IsPrintable : ℕ → Type 0
IsPrintable c = (0x21 ≤ c) × (c ≤ 0x7E)

digit_printable : (n : ℕ) → n < 16 → IsPrintable (hex_digit n)
digit_printable n h = grind (arith, nat_tests)

printable_by : (t : Bool) (b : ℕ) (cs : List ℕ) → stands_for_itself b ≡ t → b < 256 → AllByRecursion IsPrintable cs → AllByRecursion IsPrintable (shown_byte b ++ cs)
printable_by true b cs h l a = rw h ((let s = self_is b h in (s.1, s.2)), a)
printable_by false b cs h l a =
    rw h ((omega arith, omega arith), (digit_printable (b / 16) (omega arith), (digit_printable (b % 16) (omega arith), a)))

bytes_printable : (bs : List ℕ) → AllByRecursion (λ b. b < 256) bs → AllByRecursion IsPrintable (flat_map shown_byte bs)
bytes_printable [] a = tt
bytes_printable (b ∷ bs) a = printable_by (stands_for_itself b) b (flat_map shown_byte bs) refl a.0 (bytes_printable bs a.1)

token_printable : (bs : List ℕ) → AllByRecursion (λ b. b < 256) bs → AllByRecursion IsPrintable (shown_token bs)
token_printable [] a = ((omega arith, omega arith), tt)
token_printable (b ∷ bs) a = bytes_printable (b ∷ bs) a

pub shown_token-printable : (bs : List ℕ) → All (λ b. b < 256) bs → All (λ c. (0x21 ≤ c) × (c ≤ 0x7E)) (shown_token bs)
shown_token-printable bs a = All-from_recursion IsPrintable (shown_token bs) (token_printable bs (recursion_from_All (λ b. b < 256) bs a))

not_blank : (c : ℕ) → IsPrintable c → is_blank c ≡ false
not_blank c h = grind (arith, nat_tests)

-- printable characters with no blank among them are one word
one_word : (c : ℕ) (cs : List ℕ) → All IsPrintable (c ∷ cs) → words_of (c ∷ cs) ≡ (c ∷ cs) ∷ []
one_word c cs a = ap (λ (parts : List (List ℕ)). Rattle.std.specs.List.filter Rattle.bwsh.specs.Words.is_word parts) (slice_split_none is_blank (c ∷ cs) (λ k d l. not_blank _ (a k d l)))

word_by : (t : Bool) (b : ℕ) (bs : List ℕ) → stands_for_itself b ≡ t → All IsPrintable (shown_byte b ++ flat_map shown_byte bs) → words_of (shown_byte b ++ flat_map shown_byte bs) ≡ (shown_byte b ++ flat_map shown_byte bs) ∷ []
word_by true b bs h a = rw h (one_word b (flat_map shown_byte bs) (rw h at a))
word_by false b bs h a = rw h (one_word 37 (hex_digit (b / 16) ∷ hex_digit (b % 16) ∷ flat_map shown_byte bs) (rw h at a))

pub words_of-shown_token : (bs : List ℕ) → All (λ b. b < 256) bs → words_of (shown_token bs) ≡ shown_token bs ∷ []
words_of-shown_token [] a = refl
words_of-shown_token (b ∷ bs) a = word_by (stands_for_itself b) b bs refl (shown_token-printable (b ∷ bs) a)
