-- Visited pids, and lists of distinct pids.
use Rattle.std.specs.Prelude.{◌≡◌, ◌≢◌, ℕ, Bool, true, false, ◌||◌, nat_eq, ◌↔◌, List, [], ◌∷◌, ◌++◌}
use Rattle.std.proofs.Common.{refl, sym, eqb-true}
use Rattle.std.proofs.lemmas.Bool.{eqb-false, or_parts}
use Rattle.std.specs.List.{AllByRecursion}
use Rattle.mapping.specs.FreshPids.{is_among}
use Rattle.mapping.specs.Proper.{Distinct}

neither : (b c : Bool) → ((b || c) ≡ false) ↔ ((b ≡ false) × (c ≡ false))
neither b c = (or_parts b c, λ h. rw h.0 h.1)

unequal : (b : Bool) (n m : ℕ) → nat_eq n m ≡ b → (b ≡ false) ↔ (m ≢ n)
unequal true n m h = (λ f. absurd (cc), λ d. absurd (d (sym (eqb-true n m h))))
unequal false n m h = (λ f e. eqb-false n m h (sym e), λ d. refl)

-- a number isn't among others exactly if each of them is another number
pub not_among : (n : ℕ) (ms : List ℕ) → (is_among n ms ≡ false) ↔ AllByRecursion (λ m. m ≢ n) ms
not_among n [] = (λ h. tt, λ a. refl)
not_among n (m ∷ ms) =
    let both = neither (nat_eq n m) (is_among n ms) in
    let first = unequal (nat_eq n m) n m refl in
    let rest = not_among n ms in
    (λ h. let b = both.0 h in (first.0 b.0, rest.0 b.1), λ a. both.1 (first.1 a.0, rest.1 a.1))

module _ (P : ℕ → Type 0) where
  all_ahead : (xs : List ℕ) (n : ℕ) (ys : List ℕ) → AllByRecursion P (xs ++ n ∷ ys) ↔ AllByRecursion P (n ∷ (xs ++ ys))
  all_ahead [] n ys = (λ a. a, λ a. a)
  all_ahead (x ∷ xs) n ys =
      let rest = all_ahead xs n ys in
      (λ a. let r = rest.0 a.1 in (r.0, (a.0, r.1)), λ a. ((a.1).0, rest.1 (a.0, (a.1).1)))

-- moving one of the numbers to the front does not change whether they are distinct
pub distinct_ahead : (xs : List ℕ) (n : ℕ) (ys : List ℕ) → Distinct (xs ++ n ∷ ys) ↔ Distinct (n ∷ (xs ++ ys))
distinct_ahead [] n ys = (λ d. d, λ d. d)
distinct_ahead (x ∷ xs) n ys =
    let rest = distinct_ahead xs n ys in
    let move = all_ahead (λ m. m ≢ x) xs n ys in (
      λ d. let r = rest.0 d.1 in let a = move.0 d.0 in (((λ e. a.0 (sym e)), r.0), (a.1, r.1)),
      λ d. (move.1 ((λ e. (d.0).0 (sym e)), (d.1).0), rest.1 ((d.0).1, (d.1).1)),
    )

pub distinct_last : (xs ys : List ℕ) → Distinct (xs ++ ys) → Distinct ys
distinct_last [] ys d = d
distinct_last (x ∷ xs) ys d = distinct_last xs ys d.1
