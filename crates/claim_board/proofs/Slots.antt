-- The slots of a new board.
use Rattle.std.proofs.Common.{◌≡◌, ℕ, zero, suc, ◌<◌, List, [], ◌∷◌, ◌++◌, map, length, get_or, drop, reverse, refl, sym, ap, subst, ◌∙◌, append_assoc, arith}
use mathlib.Core.Option.{some, some-injective, some-ne-none}
use Rattle.std.proofs.lemmas.List.{reverse-append}
use Rattle.std.specs.Prelude.{Some, slice_get}
use lib.ListN.{get_elem?}
use Rattle.claim_board.specs.declared.rule.Slot.{Slot}
use Rattle.claim_board.specs.declared.rule.Slot.TheVariants.{Piece}
use Rattle.claim_board.specs.Rule.{slots_of}

pub at_below : {A : Type 0} (l : List A) (i : ℕ) → i < length l → (a : A) × (get_elem? l i ≡ some a)
at_below [] i h = absurd (omega arith)
at_below (x ∷ xs) zero h = (x, refl)
at_below (x ∷ xs) (suc i) h = at_below xs i (omega arith)

-- each piece lies in the slot of its number
pub piece_at : {P : Type 0} (all : List P) (last : Slot P) (k : ℕ) (x : P) → get_elem? all k ≡ some x → get_elem? (slots_of all last) k ≡ some (Piece x)
piece_at [] last k x e = absurd (some-ne-none x (sym e))
piece_at (y ∷ ys) last zero x e = ap (λ p. some (Piece p)) (some-injective y x e)
piece_at (y ∷ ys) last (suc k) x e = piece_at ys last k x e

-- after the pieces comes the last slot
pub last_at : {P : Type 0} (all : List P) (last : Slot P) → get_elem? (slots_of all last) (length all) ≡ some last
last_at [] last = refl
last_at (y ∷ ys) last = last_at ys last

-- the two ways to read an element agree
pub slice_get_at : {A : Type 0} (l : List A) (i : ℕ) (a : A) → get_elem? l i ≡ some a → slice_get l i ≡ Some a
slice_get_at [] i a e = absurd (some-ne-none a (sym e))
slice_get_at (x ∷ xs) zero a e = ap Some (some-injective x a e)
slice_get_at (x ∷ xs) (suc i) a e = slice_get_at xs i a e

-- a seat's slot that was taken last has one value
pub same_taken : {S : Type 0} (l : List (ℕ × S)) (n : ℕ) (x y : S) (ks ms : List (ℕ × S)) → l ≡ (n, x) ∷ ks → l ≡ (n, y) ∷ ms → x ≡ y
same_taken {S} l n x y ks ms e d = ap (λ k. (get_or {A = ℕ × S} k 0 (n, x)).1) (sym e ∙ d)

-- if all slots hold pieces, so does this one
piece_of : {P : Type 0} (xs ys : List (Slot P)) (s : Slot P) (all : List P) → xs ++ s ∷ ys ≡ map Piece all → (p : P) × (s ≡ Piece p)
piece_of [] ys s [] e = let lengths = ap length e in absurd (omega arith)
piece_of [] ys s (a ∷ all) e = (a, ap (λ l. get_or l 0 s) e)
piece_of (x ∷ xs) ys s [] e = let lengths = ap length e in absurd (omega arith)
piece_of (x ∷ xs) ys s (a ∷ all) e = piece_of xs ys s all (ap (drop 1) e)

-- what was popped was a piece
pub popped : {P : Type 0} (slots rest : List (Slot P)) (s : Slot P) (following all : List P) → slots ++ map Piece following ≡ map Piece all → slots ≡ rest ++ s ∷ [] → (p : P) × (s ≡ Piece p)
popped slots rest s following all e cut = piece_of rest (map Piece following) s all (sym (append_assoc rest (s ∷ []) (map Piece following)) ∙ subst (λ l. l ++ map Piece following ≡ map Piece all) cut e)

-- what was popped goes to the other list
pub one_back : {P : Type 0} (slots rest all : List (Slot P)) (s : Slot P) (pieces : List P) (piece : P) → slots ≡ rest ++ s ∷ [] → s ≡ Piece piece → slots ++ map Piece (reverse pieces) ≡ all → rest ++ map Piece (reverse (pieces ++ piece ∷ [])) ≡ all
one_back slots rest all s pieces piece cut is was =
    ap (λ ps. rest ++ map Piece ps) (reverse-append pieces (piece ∷ [])) ∙ ap (λ x. rest ++ x ∷ map Piece (reverse pieces)) (sym is)
    ∙ sym (append_assoc rest (s ∷ []) (map Piece (reverse pieces))) ∙ ap (λ l. l ++ map Piece (reverse pieces)) (sym cut) ∙ was

same_pieces : {P : Type 0} (xs ys : List P) → map Piece xs ≡ map Piece ys → xs ≡ ys
same_pieces [] [] e = refl
same_pieces [] (y ∷ ys) e = let lengths = ap length e in absurd (omega arith)
same_pieces (x ∷ xs) [] e = let lengths = ap length e in absurd (omega arith)
same_pieces {P} (x ∷ xs) (y ∷ ys) e =
    let same : x ≡ y = cc e in
    let rest = same_pieces xs ys (ap (drop 1) e) in cc

-- after the last slot, all pieces are back in the list
pub all_back : {P : Type 0} (slots : List (Slot P)) (pieces all given : List P) → slots ≡ [] → slots ++ map Piece pieces ≡ map Piece all → given ≡ pieces → given ≡ all
all_back slots pieces all given none e g = subst (λ l. l ≡ all) (sym g) (same_pieces pieces all (subst (λ l. l ++ map Piece pieces ≡ map Piece all) none e))

-- after the last slot is added, the slots are complete
pub laid : {P : Type 0} (all old : List P) (last given : Slot P) (pieces pushed : List (Slot P)) → all ≡ old → pieces ≡ map Piece old → pushed ≡ pieces ++ given ∷ [] → last ≡ given → pushed ≡ slots_of all last
laid all old last given pieces pushed a e p s =
    subst (λ x. pushed ≡ slots_of all x) (sym s) (subst (λ l. pushed ≡ slots_of l given) (sym a) (subst (λ l. pushed ≡ l ++ given ∷ []) e p))
