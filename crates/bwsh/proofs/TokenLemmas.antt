-- Lemmas on tokens.
use Rattle.std.proofs.Common.{◌≡◌, ℕ, true, false, List, [], ◌∷◌, ◌++◌, length, nat_eq, Option, Some, None, refl, ap, append_assoc}
use Rattle.std.specs.List.{list_all, flat_map}
use Rattle.std.proofs.lemmas.Bool.{and_parts}
use Rattle.std.specs.Str.{bytes_eq}
use Rattle.bwsh.specs.Token.{percent, byte_in_front, with_front, unescaped, token_bytes, stands_for_itself, shown_byte, shown_token}

-- one more byte in front
pub with_front_more : (front : List ℕ) (b : ℕ) (bs : Option (List ℕ)) → with_front (front ++ b ∷ []) bs ≡ with_front front (byte_in_front (Some b) bs)
with_front_more front b None = refl
with_front_more front b (Some xs) = ap Some (append_assoc front (b ∷ []) xs)

-- nothing in front
pub with_front_nothing : (bs : Option (List ℕ)) → with_front [] bs ≡ bs
with_front_nothing None = refl
with_front_nothing (Some xs) = refl

-- a token that is neither the percent sign alone nor empty
pub token_bytes-unescaped : (t : List ℕ) → bytes_eq t (percent ∷ []) ≡ false → nat_eq (length t) 0 ≡ false → token_bytes t ≡ unescaped t
token_bytes-unescaped t not_percent not_empty = rw (not_percent, not_empty) refl

-- bytes that encode themselves are printed as they are
shown-plain : (bs : List ℕ) → list_all stands_for_itself bs ≡ true → flat_map shown_byte bs ≡ bs
shown-plain [] h = refl
shown-plain (b ∷ bs) h =
    let (own, others) = and_parts (stands_for_itself b) (list_all stands_for_itself bs) h in
    rw (own, shown-plain bs others) refl

pub shown_token-plain : (bs : List ℕ) → nat_eq (length bs) 0 ≡ false → list_all stands_for_itself bs ≡ true → shown_token bs ≡ bs
shown_token-plain [] not_empty h = absurd (cc)
shown_token-plain (b ∷ bs) not_empty h = shown-plain (b ∷ bs) h

pub shown_token-some : (bs : List ℕ) → nat_eq (length bs) 0 ≡ false → shown_token bs ≡ flat_map shown_byte bs
shown_token-some [] not_empty = absurd (cc)
shown_token-some (b ∷ bs) not_empty = refl
