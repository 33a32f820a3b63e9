-- Lemmas on binary digits, for the proofs of this crate and of those above it.
use Rattle.std.specs.Prelude.{◌≡◌, ℕ, zero, suc, ◌+◌, ◌*◌, ◌/◌, ◌^◌, ◌<◌, ◌≤◌}
use Rattle.std.proofs.Common.{refl, ap, arith, add-one}
use Rattle.std.proofs.Math.Nat.{pow-succ'}
use Rattle.page_search.specs.Digits.{halvings, binary_digits}

halvings-rise : (most m n : ℕ) → m ≤ n → halvings most m ≤ halvings most n
halvings-rise zero m n h = omega arith
halvings-rise (suc most) zero n h = omega arith
halvings-rise (suc most) (suc m) zero h = absurd (omega arith)
halvings-rise (suc most) (suc m) (suc n) h =
    let half : halvings most (suc m / 2) ≤ halvings most (suc n / 2) = halvings-rise most (suc m / 2) (suc n / 2) (omega arith) in
    omega arith

-- as many halvings as the number are enough
halvings-enough : (most more n : ℕ) → n ≤ most → most ≤ more → halvings more n ≡ halvings most n
halvings-enough zero zero n h l = refl
halvings-enough zero (suc more) zero h l = refl
halvings-enough zero (suc more) (suc n) h l = absurd (omega arith)
halvings-enough (suc most) zero n h l = absurd (omega arith)
halvings-enough (suc most) (suc more) zero h l = refl
halvings-enough (suc most) (suc more) (suc n) h l = ap suc (halvings-enough most more (suc n / 2) (omega arith) (omega arith))

pub binary_digits-zero : binary_digits 0 ≡ 0
unfolding binary_digits
binary_digits-zero = refl

-- what is at most half of a number has a digit less
pub binary_digits-half : (m n : ℕ) → 0 < n → m + m ≤ n → binary_digits m + 1 ≤ binary_digits n
unfolding binary_digits
binary_digits-half m zero p h = absurd (omega arith)
binary_digits-half m (suc n) p h =
    let same : halvings n m ≡ halvings m m = halvings-enough m n m (omega arith) (omega arith) in
    let rise : halvings n m ≤ halvings n (suc n / 2) = halvings-rise n m (suc n / 2) (omega arith) in
    omega arith

-- what is at least the half of a number has no more than a digit less
pub binary_digits-twice : (m n : ℕ) → n ≤ m + m + 1 → binary_digits n ≤ binary_digits m + 1
unfolding binary_digits
binary_digits-twice m zero h = omega arith
binary_digits-twice m (suc n) h =
    let same : halvings n (suc n / 2) ≡ halvings (suc n / 2) (suc n / 2) = halvings-enough (suc n / 2) n (suc n / 2) (omega arith) (omega arith) in
    let rise : halvings m (suc n / 2) ≤ halvings m m = halvings-rise m (suc n / 2) m (omega arith) in
    let enough : halvings m (suc n / 2) ≡ halvings (suc n / 2) (suc n / 2) = halvings-enough (suc n / 2) m (suc n / 2) (omega arith) (omega arith) in
    omega arith

halvings-zero : (most : ℕ) → halvings most 0 ≡ 0
halvings-zero zero = refl
halvings-zero (suc most) = refl

below_power : (most n : ℕ) → n ≤ most → n < 2 ^ halvings most n
below_power zero n h = omega arith
below_power (suc most) zero h = omega arith
below_power (suc most) (suc n) h =
    let half : suc n / 2 < 2 ^ halvings most (suc n / 2) = below_power most (suc n / 2) (omega arith) in
    rw pow-succ' (omega arith)

power_to_twice : (most n : ℕ) → n ≤ most → 0 < n → 2 ^ halvings most n ≤ 2 * n
power_to_twice zero n h p = absurd (omega arith)
power_to_twice (suc most) zero h p = absurd (omega arith)
power_to_twice (suc most) (suc zero) h p =
    let one : halvings (suc most) 1 ≡ 1 = ap suc (halvings-zero most) in
    rw one (omega arith)
power_to_twice (suc most) (suc (suc n)) h p =
    let half : 2 ^ halvings most (suc (suc n) / 2) ≤ 2 * (suc (suc n) / 2) = power_to_twice most (suc (suc n) / 2) (omega arith) (omega arith) in
    rw pow-succ' (omega arith)

pub below-power-binary_digits : (n : ℕ) → n < 2 ^ binary_digits n
unfolding binary_digits
below-power-binary_digits n = below_power n n (omega arith)

pub power-binary_digits-to_twice : (n : ℕ) → 0 < n → 2 ^ binary_digits n ≤ 2 * n
unfolding binary_digits
power-binary_digits-to_twice n p = power_to_twice n n (omega arith) p

-- the digits of the half of n + 1 are those of n + 1 less one
pub power-digits-of_half : (n : ℕ) → 2 ^ binary_digits ((n + 1) / 2) ≤ n + 1
power-digits-of_half zero = rw binary_digits-zero (omega arith)
power-digits-of_half (suc n) = omega (arith, power-binary_digits-to_twice ((suc n + 1) / 2) (omega arith))

power-next : (d : ℕ) → 2 ^ (d + 1) ≡ 2 * 2 ^ d
power-next d = rw (add-one, pow-succ') refl

pub below-power-digits-of_half : (n : ℕ) → n + 1 < 2 ^ (binary_digits ((n + 1) / 2) + 1)
below-power-digits-of_half n =
    let half : (n + 1) / 2 < 2 ^ binary_digits ((n + 1) / 2) = below-power-binary_digits ((n + 1) / 2) in
    omega (arith, power-next (binary_digits ((n + 1) / 2)))
