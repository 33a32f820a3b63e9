-- Whether a disk has only zeros, or hides a settings block, and whether a store was complete there.
use Rattle.std.proofs.Common.{◌≡◌, ◌<◌, ◌≤◌, ◌+◌, ◌&&◌, ◌||◌, ◌==◌, nat_le, ℕ, Bool, true, false, List, [], ◌∷◌, ◌++◌, length, get_or, take, drop, slice_set, is_some, refl, sym, ap, ap₂, ◌∙◌, arith}
use Rattle.std.proofs.lemmas.Bool.Decides.{nat_tests}
use Rattle.std.proofs.lemmas.List.{drop-take, length-take, take-append-drop, take-take}
use Rattle.std.proofs.lemmas.List.Folds.{list_all-append}
use Rattle.flush_log.proofs.BlockReading.{no_block}
use Rattle.engine.specs.Hidden.{are_zeros, exchanged, exchanged_byte, hides_block, is_later_slot, was_complete}
use Rattle.engine.proofs.HiddenLemmas.{length-exchanged}

-- ---- zeros

-- bytes are zeros if both of their parts are
parts : (k : ℕ) (xs : List ℕ) → are_zeros xs ≡ (are_zeros (take k xs) && are_zeros (drop k xs))
parts k xs = ap are_zeros (sym (take-append-drop k xs)) ∙ list_all-append (λ b. b == 0) (take k xs) (drop k xs)

and_false : (a : Bool) → (a && false) ≡ false
and_false true = refl
and_false false = refl

-- not if a piece has another byte
pub piece_other : (xs : List ℕ) (at k : ℕ) → false ≡ are_zeros (take k (drop at xs)) → false ≡ are_zeros xs
piece_other xs at k other =
    let rest : are_zeros (drop at xs) ≡ false = parts k (drop at xs) ∙ ap (λ (b : Bool). b && are_zeros (drop k (drop at xs))) (sym other) in
    sym (parts at xs ∙ ap (λ (b : Bool). are_zeros (take at xs) && b) rest ∙ and_false (are_zeros (take at xs)))

further : (at k : ℕ) (xs : List ℕ) → take (at + k) xs ≡ take at xs ++ take k (drop at xs)
further at k xs = sym (take-append-drop at (take (at + k) xs)) ∙ ap₂ (λ (ys zs : List ℕ). ys ++ zs) (take-take at (at + k) xs (omega arith)) (drop-take at k xs)

-- a piece more
pub piece_more : (xs : List ℕ) (at k : ℕ) → are_zeros (take at xs) ≡ true → true ≡ are_zeros (take k (drop at xs)) → are_zeros (take (at + k) xs) ≡ true
piece_more xs at k before piece =
    ap are_zeros (further at k xs) ∙ list_all-append (λ b. b == 0) (take at xs) (take k (drop at xs)) ∙ ap₂ (λ (a b : Bool). a && b) before (sym piece)

-- ---- a settings block

-- a disk that is shorter than the block
pub hides_none : (file : List ℕ) → length file < 64 → false ≡ hides_block file
hides_none file short =
    ap is_some (no_block (take 64 (exchanged file)) (λ e. let l = length-take 64 (exchanged file) in let x = length-exchanged file in omega (arith, e, l, x, short)))

-- the block as it was read, with its first byte exchanged
pub block_is : (file buf : List ℕ) (b : ℕ) → 64 ≤ length file → buf ≡ take 64 (drop 0 file) → b ≡ exchanged_byte (get_or buf 0 0) → slice_set buf 0 b ≡ take 64 (exchanged file)
block_is [] buf b room is byte = absurd (omega (arith, room))
block_is (x ∷ file) buf b room is byte = rw is (ap (λ (y : ℕ). y ∷ take 63 file) (byte ∙ ap (λ (bytes : List ℕ). exchanged_byte (get_or bytes 0 0)) is))

-- ---- the slots

-- a disk that is too short for them
pub none_complete : (file : List ℕ) → length file < 256 → false ≡ was_complete file
none_complete file short =
    let test : nat_le 256 (length file) ≡ false = grind (arith, short, nat_tests) in
    sym (ap (λ (b : Bool). b && (is_later_slot (take 64 (drop 128 file)) || is_later_slot (take 64 (drop 192 file)))) test)

-- what was read of them
pub later_slots : (file : List ℕ) (a b : Bool) → 256 ≤ length file → a ≡ is_later_slot (take 64 (drop 128 file)) → b ≡ is_later_slot (take 64 (drop 192 file)) → (a || b) ≡ was_complete file
later_slots file a b room first second =
    let test : nat_le 256 (length file) ≡ true = grind (arith, room, nat_tests) in
    ap₂ (λ (x y : Bool). x || y) first second
    ∙ sym (ap (λ (t : Bool). t && (is_later_slot (take 64 (drop 128 file)) || is_later_slot (take 64 (drop 192 file)))) test)

-- ---- of a disk that was only read

pub other_read : (seen mid : List ℕ) (at k : ℕ) (answer : Bool) → mid ≡ seen → answer ≡ false → answer ≡ are_zeros (take k (drop at mid)) → false ≡ are_zeros seen
other_read seen mid at k answer same other is = piece_other seen at k (sym other ∙ is ∙ ap (λ (xs : List ℕ). are_zeros (take k (drop at xs))) same)

pub more_read : (seen mid : List ℕ) (at k size : ℕ) (answer : Bool) → mid ≡ seen → size ≡ k → are_zeros (take at seen) ≡ true → answer ≡ true → answer ≡ are_zeros (take size (drop at mid)) → are_zeros (take (at + k) seen) ≡ true
more_read seen mid at k size answer same long before zeros is =
    piece_more seen at k before (sym zeros ∙ is ∙ ap₂ (λ (xs : List ℕ) (n : ℕ). are_zeros (take n (drop at xs))) same long)
