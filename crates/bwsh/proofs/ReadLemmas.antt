-- The number that is parsed from a text.
use Rattle.std.proofs.Common.{◌≡◌, ◌∙◌, ◌<◌, ◌^◌, ◌==◌, ap, refl, sym, subst, arith, ℕ, Bool, true, false, cond, drop, [], ◌∷◌, Option, Some, None}
use Rattle.std.specs.Prelude.{pos, unwrap_or, Ok, Err, Result}
use Rattle.std.specs.Option.{UnwrapsOrElse}
use Rattle.std.specs.Str.Parse.{IsNumeral, ParsesUnsigned, digits_value, starts_with_minus, without_leading_plus}
use Rattle.std.proofs.lemmas.Bool.{ne_eqb}
use Rattle.std.proofs.lemmas.Str.Parse.{digit_from_value}
use Rattle.std.proofs.lemmas.Int.{ints}
use Rattle.clap.specs.Lexer.{without_minus}
use Rattle.clap.specs.Matches.{ReadsOne}
use Rattle.clap.specs.Values.{IsSignedIn}
use Rattle.clap.specs.declared.builder.value_parser.ValueParser.TheVariants as vp
use Rattle.clap.proofs.ValueTestLemmas.{accepts-Accepts}
use Rattle.bwsh.specs.Options.{Text, is_number, number_of}

without_minus-cond : (t : Text) → without_minus t ≡ cond (starts_with_minus t) (drop 1 t) t
without_minus-cond [] = refl
without_minus-cond (x ∷ xs) = go (x == 45)
  where
    go : (b : Bool) → unwrap_or (cond b (Some xs) None) (x ∷ xs) ≡ cond b xs (x ∷ xs)
    go true = refl
    go false = refl

no_plus : (ds : Text) → IsNumeral 10 ds → without_leading_plus ds ≡ ds
no_plus [] h = refl
no_plus (d ∷ ds) h =
    let plus : (d == 43) ≡ false = ne_eqb _ _ (λ e. omega (arith, digit_from_value d h.1.0)) in
    ap (λ (b : Bool). drop (cond b 1 0) (d ∷ ds)) plus

-- `u32` parses a text that passes the test to the number that the specification gives
pub number_read : (E : Type 0) (G : Text → Result ℕ E → Type 0) (t : Text) (r : Option ℕ) → ((u : Text) (x : Result ℕ E) → G u x → ParsesUnsigned 32 10 u x)
    → is_number t ≡ true → ReadsOne G (without_minus t) r → r ≡ Some (number_of t)
number_read E G t r only passes read =
    go (starts_with_minus t) refl r (subst (λ (u : Text). ReadsOne G u r) (without_minus-cond t) read)
  where
    passed : IsSignedIn (pos 0) (pos 4294967295) t
    passed = accepts-Accepts false (vp.Signed (pos 0) (pos 4294967295)) t passes

    go : (b : Bool) → starts_with_minus t ≡ b → (o : Option ℕ) → ReadsOne G (cond b (drop 1 t) t) o
        → o ≡ Some (number_of t)
    go true minus (Some v) h =
        let numeral : IsNumeral 10 (drop 1 t) = rw minus at passed.0 in
        let parsed = only (drop 1 t) (Ok v) h in
        let is : v ≡ digits_value 10 (drop 1 t) = parsed.1 ∙ ap (digits_value 10) (no_plus (drop 1 t) numeral) in
        ap (λ (n : ℕ). Some n) is ∙ ap (λ (b : Bool). Some (digits_value 10 (cond b (drop 1 t) (without_leading_plus t)))) (sym minus)
    go true minus None h =
        let low_ok = rw minus at passed.2 in
        let numeral : IsNumeral 10 (drop 1 t) = rw minus at passed.0 in
        let same = no_plus (drop 1 t) numeral in
        let small : digits_value 10 (drop 1 t) < 2 ^ 32 = omega (arith, ints) in
        absurd (only (drop 1 t) (Err h.0) h.1 (rw same numeral, rw same small))
    go false minus (Some v) h =
        let parsed = only t (Ok v) h in
        ap (λ (n : ℕ). Some n) parsed.1 ∙ ap (λ (b : Bool). Some (digits_value 10 (cond b (drop 1 t) (without_leading_plus t)))) (sym minus)
    go false minus None h =
        let low_ok = rw minus at passed.2 in
        let high_ok = rw minus at passed.3 in
        let numeral = rw minus at passed.0 in
        absurd (only t (Err h.0) h.1 (numeral, omega (arith, ints)))

pub unwrapped : (o : Option ℕ) (D : ℕ → Type 0) (n r : ℕ) → o ≡ Some n → UnwrapsOrElse o D r → r ≡ n
unwrapped None D n r e h = cc
unwrapped (Some m) D n r e h = h ∙ ap (λ (x : Option ℕ). unwrap_or x n) e
