-- A number that the library decodes from bytes is the one that the definitions decode.
use Rattle.std.proofs.Common.{◌≡◌, ℕ, zero, suc, ◌+◌, ◌*◌, ◌^◌, ◌≤◌, [], ◌∷◌, length, length-drop, take, drop, Option, Some, refl, sym, ap, ◌∙◌, arith}
use Rattle.byteorder.specs.Endian.{big_from}
use Rattle.byteorder.specs.Numbers.{big_from-cons, big_from-take}
use Rattle.keys.specs.Bytes.{Bytes}
use Rattle.keys.specs.Cells.{read_as, read_number}
use Rattle.flush_log.specs.SettingsBlock.{number_or_0, number_at}

-- the first number of w bytes
number-read : (w : ℕ) (bs : Bytes) → w ≤ length bs → read_number w bs ≡ Some (big_from 0 w bs, drop w bs)
number-read zero bs h = refl
number-read (suc w) [] h = absurd (omega arith)
number-read (suc w) (b ∷ bs) h =
    let gave : ℕ → Option (ℕ × Bytes) = λ n. Some (n, drop w bs) in
    ap (read_as (λ n. b * 256 ^ w + n)) (number-read w bs (omega arith))
    ∙ ap (λ (n : ℕ). gave (b * 256 ^ w + n)) (sym (big_from-cons 0 w b bs))

-- a number of w bytes that is read of a part of bytes
pub number_at-is : (w place : ℕ) (bs : Bytes) → place + w ≤ length bs → big_from 0 w (take w (drop place bs)) ≡ number_at w place bs
number_at-is w place bs h =
    let room : w ≤ length (drop place bs) = simp length-drop (omega arith) in
    big_from-take 0 w w (drop place bs) (let same : 0 + w ≤ w = omega arith in same) ∙ sym (ap number_or_0 (number-read w (drop place bs) room))
