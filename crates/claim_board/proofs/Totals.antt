-- Sums over lists in which one element changes, and how often a number occurs in a list.
use Rattle.std.proofs.Common.{◌≡◌, ℕ, zero, suc, ◌+◌, ◌≤◌, List, [], ◌∷◌, ◌++◌, set, length, length-append, ap, sym, refl, arith}
use Rattle.std.specs.List.{flat_map}
use mathlib.Core.Option.{some, some-injective, some-ne-none}
use lib.ListN.{get_elem?}
use Rattle.claim_board.specs.Counting.{total, times}

-- the total after a change of one
pub total-set : {V : Type 0} (f : V → ℕ) (vs : List V) (i : ℕ) (v w : V) → get_elem? vs i ≡ some v → total f (set vs i w) + f v ≡ total f vs + f w
total-set f [] i v w e = absurd (some-ne-none v (sym e))
total-set f (x ∷ xs) zero v w e = let same = ap f (some-injective x v e) in omega arith
total-set f (x ∷ xs) (suc i) v w e = let rest = total-set f xs i v w e in omega arith

pub total-append : {V : Type 0} (f : V → ℕ) (vs ws : List V) → total f (vs ++ ws) ≡ total f vs + total f ws
total-append f [] ws = omega arith
total-append f (x ∷ xs) ws = let rest = total-append f xs ws in omega arith

-- one is at most the total
pub one-le-total : {V : Type 0} (f : V → ℕ) (vs : List V) (i : ℕ) (v : V) → get_elem? vs i ≡ some v → f v ≤ total f vs
one-le-total f [] i v e = absurd (some-ne-none v (sym e))
one-le-total f (x ∷ xs) zero v e = let same = ap f (some-injective x v e) in omega arith
one-le-total f (x ∷ xs) (suc i) v e = let rest = one-le-total f xs i v e in omega arith

-- if f is at most h of each, so are the totals
pub total-le : {V : Type 0} (f h : V → ℕ) (vs : List V) → ((i : ℕ) (v : V) → get_elem? vs i ≡ some v → f v ≤ h v) → total f vs ≤ total h vs
total-le f h [] le = omega arith
total-le f h (x ∷ xs) le = let here = le zero x refl in let rest = total-le f h xs (λ i v e. le (suc i) v e) in omega arith

pub times-append : (x : ℕ) (ys zs : List ℕ) → times x (ys ++ zs) ≡ times x ys + times x zs
times-append x [] zs = omega arith
times-append x (y ∷ ys) zs = let rest = times-append x ys zs in omega arith

-- how often x occurs in a concatenation of lists
pub times-flat_map : {V : Type 0} (f : V → List ℕ) (x : ℕ) (vs : List V) → times x (flat_map f vs) ≡ total (λ v. times x (f v)) vs
times-flat_map f x [] = refl
times-flat_map f x (v ∷ vs) = let here = times-append x (f v) (flat_map f vs) in let rest = times-flat_map f x vs in omega arith

pub length-flat_map : {V : Type 0} (f : V → List ℕ) (vs : List V) → length (flat_map f vs) ≡ total (λ v. length (f v)) vs
length-flat_map f [] = refl
length-flat_map f (v ∷ vs) = let here = length-append (f v) (flat_map f vs) in let rest = length-flat_map f vs in omega arith
