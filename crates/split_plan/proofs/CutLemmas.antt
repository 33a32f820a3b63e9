-- Lemmas on the pieces of a split, for the proofs of this crate and of those above it.
use Rattle.std.specs.Prelude.{◌≡◌, ℕ, zero, suc, ◌+◌, ◌-◌, ◌*◌, ◌/◌, ◌<◌, ◌≤◌, List, [], ◌∷◌, ◌++◌, take, drop, length, slice_range}
use Rattle.std.proofs.Common.{refl, sym, ap, ◌∙◌, arith, length-drop, length-take, take-append-drop, drop-drop, drop_of_length-le, div-mul-le_self, le-div_iff_mul-le, div-lt_iff_lt-mul}
use Rattle.std.proofs.Math.Nat.{div-le_of_le-mul, mul-le-mul_right}
use Rattle.keys.specs.Lists.{flat}
use Rattle.split_plan.specs.Cut.{pieces, piece_count, cut, AllAtMost, AllAtLeast}
use Rattle.split_plan.proofs.Full.{AllFull}

-- ---- where pieces begin and end

begins_rise : (n p i : ℕ) → 0 < p → i * n / p ≤ suc i * n / p
begins_rise n p i h =
    let a : i * n / p * p ≤ i * n = div-mul-le_self (i * n) p in
    let b : i * n / p * p ≤ suc i * n = omega arith in
    (le-div_iff_mul-le h).1 b

last_ends : (n p : ℕ) → 0 < p → n ≤ p * n / p
last_ends n p h =
    let a : n * p ≤ p * n = omega arith in
    (le-div_iff_mul-le h).1 a

zero_begins : (n p : ℕ) → 0 * n / p ≡ 0
zero_begins n p = let a : 0 * n ≡ 0 = omega arith in rw a (omega arith)

ends_within : (n p i : ℕ) → suc i ≤ p → suc i * n / p ≤ n
ends_within n p i h = div-le_of_le-mul p (mul-le-mul_right n h)

sum_by : (a l p m n : ℕ) → a * p ≤ m → l * p ≤ n → (a + l) * p ≤ m + n
sum_by a l p m n h k = omega arith

-- if each piece could have l entries, the end is at least l greater than the beginning
at_least : (n p i l : ℕ) → 0 < p → l * p ≤ n → i * n / p + l ≤ suc i * n / p
at_least n p i l h k =
    let e : suc i * n ≡ i * n + n = omega arith in
    let b : (i * n / p + l) * p ≤ suc i * n = rw e (sum_by (i * n / p) l p (i * n) n (div-mul-le_self (i * n) p) k) in
    (le-div_iff_mul-le h).1 b

most_by : (a p m n fan : ℕ) → m < suc a * p → n ≤ p * fan → m + n < suc (a + fan) * p
most_by a p m n fan h k = omega arith

-- if p pieces of this size take all entries, the end is greater by at most that size
at_most : (n p i fan : ℕ) → 0 < p → n ≤ p * fan → suc i * n / p ≤ i * n / p + fan
at_most n p i fan h k =
    let a : ℕ = i * n / p in
    let b : a < suc a = omega arith in
    let c : i * n < suc a * p = (div-lt_iff_lt-mul h).0 b in
    let d : i * n + n < suc (a + fan) * p = most_by a p (i * n) n fan c k in
    let e : suc i * n ≡ i * n + n = omega arith in
    let f : suc i * n < suc (a + fan) * p = rw e d in
    let g : suc i * n / p < suc (a + fan) = (div-lt_iff_lt-mul h).1 f in
    omega arith

-- ---- how many pieces

enough_by : (q n fan : ℕ) → 0 < fan → n + (fan - 1) < suc q * fan → n ≤ q * fan
enough_by q n fan h l = omega arith

-- that number of pieces of fan entries takes all of them
count_is_enough : (fan n : ℕ) → 0 < fan → n ≤ piece_count fan n * fan
count_is_enough fan n h =
    let q : ℕ = (n + (fan - 1)) / fan in
    let a : q < suc q = omega arith in
    let b : n + (fan - 1) < suc q * fan = (div-lt_iff_lt-mul h).0 a in
    let c : n ≤ q * fan = enough_by q n fan h b in
    let d : q ≤ piece_count fan n = omega arith in
    let e : q * fan ≤ piece_count fan n * fan = mul-le-mul_right fan d in
    omega arith

count_by : (fan n : ℕ) → 0 < fan → 0 < n → n + (fan - 1) ≤ fan * n
count_by zero n h k = absurd (omega arith)
count_by (suc f) zero h k = absurd (omega arith)
count_by (suc f) (suc n) h k = omega arith

count_le_length : (fan n : ℕ) → 0 < fan → 0 < n → piece_count fan n ≤ n
count_le_length fan n h k =
    let a : (n + (fan - 1)) / fan ≤ n = div-le_of_le-mul fan (count_by fan n h k) in
    omega arith

fewer_by : (fan n : ℕ) → 1 < fan → 1 < n → n + (fan - 1) < n * fan
fewer_by zero n h k = absurd (omega arith)
fewer_by (suc zero) n h k = absurd (omega arith)
fewer_by (suc (suc f)) zero h k = absurd (omega arith)
fewer_by (suc (suc f)) (suc zero) h k = absurd (omega arith)
fewer_by (suc (suc f)) (suc (suc n)) h k = omega arith

-- several entries have fewer pieces
pub fewer_pieces : (fan n : ℕ) → 1 < fan → 1 < n → piece_count fan n < n
fewer_pieces fan n h k =
    let z : 0 < fan = omega arith in
    let a : (n + (fan - 1)) / fan < n = (div-lt_iff_lt-mul z).1 (fewer_by fan n h k) in
    omega arith

one_piece_of_none : (fan : ℕ) → 0 < fan → piece_count fan 0 ≡ 1
one_piece_of_none fan h =
    let b : 0 + (fan - 1) ≤ fan * 1 = omega arith in
    let a : (0 + (fan - 1)) / fan ≤ 1 = div-le_of_le-mul fan b in
    omega arith

half_by : (half fan p n : ℕ) → half + half ≤ fan → p * fan ≤ n + (fan - 1) → fan < n → half * p ≤ n
half_by half fan p n h k l =
    let a : (half + half) * p ≤ fan * p = mul-le-mul_right p h in
    omega arith

-- more than fan entries are enough for pieces of half of fan
half_fills : (fan n : ℕ) → 0 < fan → fan < n → fan / 2 * piece_count fan n ≤ n
half_fills fan n h k =
    let q : ℕ = (n + (fan - 1)) / fan in
    let a : q * fan ≤ n + (fan - 1) = div-mul-le_self (n + (fan - 1)) fan in
    let one : 1 ≤ q = (le-div_iff_mul-le h).1 (let b : 1 * fan ≤ n + (fan - 1) = omega arith in b) in
    let p : piece_count fan n ≡ q = omega arith in
    let twice : fan / 2 + fan / 2 ≤ fan = omega arith in
    rw p (half_by (fan / 2) fan q n twice a k)

-- ---- the pieces

module _ {X : Type 0} where
  next_slice : (es : List X) (a b : ℕ) → a ≤ b → slice_range es a b ++ drop b es ≡ drop a es
  next_slice es a b h =
      let e : b ≡ a + (b - a) = omega arith in
      let d : drop b es ≡ drop (b - a) (drop a es) = ap (λ (n : ℕ). drop n es) e ∙ sym (drop-drop (b - a) a es) in
      ap (λ (rest : List X). slice_range es a b ++ rest) d ∙ take-append-drop (b - a) (drop a es)

  pieces-joined : (es : List X) (p i more : ℕ) → 0 < p → i + more ≡ p → flat (pieces es p i more) ≡ drop (i * length es / p) es
  pieces-joined es p i zero h e =
      let j : i ≡ p = omega arith in
      let a : length es ≤ p * length es / p = last_ends (length es) p h in
      let b : length es ≤ i * length es / p = rw j a in
      sym (drop_of_length-le es b)
  pieces-joined es p i (suc more) h e =
      let f : suc i + more ≡ p = omega arith in
      ap (λ (rest : List X). slice_range es (i * length es / p) (suc i * length es / p) ++ rest) (pieces-joined es p (suc i) more h f)
      ∙ next_slice es (i * length es / p) (suc i * length es / p) (begins_rise (length es) p i h)

  -- the pieces joined are the entries
  pub cut-joined : (fan : ℕ) (es : List X) → flat (cut fan es) ≡ es
  cut-joined fan es =
      let p : ℕ = piece_count fan (length es) in
      let h : 0 < p = omega arith in
      let e : 0 + p ≡ p = omega arith in
      pieces-joined es p 0 p h e ∙ ap (λ (n : ℕ). drop n es) (zero_begins (length es) p)

  pub length-pieces : (es : List X) (p i more : ℕ) → length (pieces es p i more) ≡ more
  length-pieces es p i zero = refl
  length-pieces es p i (suc more) = ap (λ n. suc n) (length-pieces es p (suc i) more)

  pub length-cut : (fan : ℕ) (es : List X) → length (cut fan es) ≡ piece_count fan (length es)
  length-cut fan es = length-pieces es (piece_count fan (length es)) 0 (piece_count fan (length es))

  pub cut_some : (fan : ℕ) (es : List X) → 0 < length (cut fan es)
  cut_some fan es =
      let h : 0 < piece_count fan (length es) = omega arith in
      rw (length-cut fan es) h

  piece_at_least : (es : List X) (a b least : ℕ) → a + least ≤ b → b ≤ length es → least ≤ length (slice_range es a b)
  piece_at_least es a b least h k = omega (arith, length-take (b - a) (drop a es), length-drop a es)

  pieces_at_least : (es : List X) (p least i more : ℕ) → 0 < p → least * p ≤ length es → i + more ≡ p → AllAtLeast least (pieces es p i more)
  pieces_at_least es p least i zero h k e = tt
  pieces_at_least es p least i (suc more) h k e =
      let f : suc i + more ≡ p = omega arith in
      let g : suc i ≤ p = omega arith in
      (piece_at_least es (i * length es / p) (suc i * length es / p) least (at_least (length es) p i least h k) (ends_within (length es) p i g), pieces_at_least es p least (suc i) more h k f)

  -- pieces of some entries have some each
  pub cut_full : (fan : ℕ) (es : List X) → 0 < fan → 0 < length es → AllFull (cut fan es)
  cut_full fan es h k =
      let p : ℕ = piece_count fan (length es) in
      let a : 0 < p = omega arith in
      let b : p ≤ length es = count_le_length fan (length es) h k in
      let c : 1 * p ≤ length es = omega arith in
      let e : 0 + p ≡ p = omega arith in
      pieces_at_least es p 1 0 p a c e

  -- of more than fan entries each piece has half of fan
  pub cut_at_least : (fan : ℕ) (es : List X) → 0 < fan → fan < length es → AllAtLeast (fan / 2) (cut fan es)
  cut_at_least fan es h k =
      let p : ℕ = piece_count fan (length es) in
      let a : 0 < p = omega arith in
      let e : 0 + p ≡ p = omega arith in
      pieces_at_least es p (fan / 2) 0 p a (half_fills fan (length es) h k) e

  pieces_at_most : (fan : ℕ) (es : List X) (p i more : ℕ) → 0 < p → length es ≤ p * fan → AllAtMost fan (pieces es p i more)
  pieces_at_most fan es p i zero h k = tt
  pieces_at_most fan es p i (suc more) h k =
      let a : ℕ = i * length es / p in
      let b : ℕ = suc i * length es / p in
      let s : b ≤ a + fan = at_most (length es) p i fan h k in
      let l : length (slice_range es a b) ≤ fan = omega (arith, length-take (b - a) (drop a es)) in
      (l, pieces_at_most fan es p (suc i) more h k)

  -- no piece has more than fan
  pub cut_at_most : (fan : ℕ) (es : List X) → 0 < fan → AllAtMost fan (cut fan es)
  cut_at_most fan es h =
      let p : ℕ = piece_count fan (length es) in
      let a : 0 < p = omega arith in
      pieces_at_most fan es p 0 p a (count_is_enough fan (length es) h)

  take_nothing : (n : ℕ) → ◌≡◌ {A = List X} (take n []) []
  take_nothing zero = refl
  take_nothing (suc n) = refl

  drop_nothing : (n : ℕ) → ◌≡◌ {A = List X} (drop n []) []
  drop_nothing zero = refl
  drop_nothing (suc n) = refl

  slice_nothing : (a b : ℕ) → slice_range {X = X} [] a b ≡ []
  slice_nothing a b = ap (λ (es : List X). take (b - a) es) (drop_nothing a) ∙ take_nothing (b - a)

  -- no entries are one empty piece
  pub cut_nothing : (fan : ℕ) → 0 < fan → ◌≡◌ {A = List (List X)} (cut fan []) ([] ∷ [])
  cut_nothing fan h =
      ap (λ (p : ℕ). pieces {X = X} [] p 0 p) (one_piece_of_none fan h) ∙ ap (λ (b : List X). b ∷ []) (slice_nothing (0 * 0 / 1) (1 * 0 / 1))
