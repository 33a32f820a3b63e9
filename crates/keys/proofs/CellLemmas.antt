-- Encoded cells are decoded again, and decoded cells are encoded in the bytes: for the proofs of the crates above.
use Rattle.std.proofs.Common.{◌≡◌, ℕ, zero, suc, ◌+◌, ◌*◌, ◌^◌, ◌/◌, ◌%◌, ◌<◌, ◌≤◌, Bool, true, false, nat_le, if◌then◌else◌, List, [], ◌∷◌, ◌++◌, length, take, drop, Option, Some, None, refl, sym, ap, ◌∙◌, arith, append_assoc, length-append, le-leb, leb-true}
use Rattle.std.proofs.Math.Nat.{add-mul, add_assoc, div-add-mod', mod-eq_of_lt, mod-lt, div-one, div-eq_of_lt, mul-add-mod_self_right, mul-add-div_right, mul-le-mul_right, mul_assoc, one-le-pow, pow-succ'}
use Rattle.std.proofs.Math.Seq.{take-append_seam, drop-append_seam}
use Rattle.std.proofs.lemmas.List.{take-append-drop, length-take-le}
use Rattle.std.specs.Int.{byte_at, bytes_high_first}
use Rattle.keys.specs.Cells.{Codec, AreBytes, IsReadBack, ReadsEncodings, read_on, read_as, read_where, read_number, number, read_bytes, counted, pid_cell}

-- ---- what was read, if the whole is known

-- something and the bytes after it were read
abbrev pub gave : {X : Type 0} → X → List ℕ → Option (X × List ℕ)
gave x rest = Some (x, rest)

pub same_reading : {X : Type 0} (x y : X) (u v : List ℕ) → gave x u ≡ gave y v → (x ≡ y) × (u ≡ v)
same_reading {X = X} x y u v h =
    let pair : X → List ℕ → X × List ℕ = λ z w. (z, w) in
    let some : Some (pair x u) ≡ Some (pair y v) = h in
    let e : pair x u ≡ pair y v = cc in
    (ap (λ (p : X × List ℕ). p.0) e, ap (λ (p : X × List ℕ). p.1) e)

pub nothing_read : {X : Type 0} (p : X) → None ≡ Some p → ⊥
nothing_read p h = absurd (cc)

pub read_as-gave : {X Y : Type 0} (f : X → Y) (o : Option (X × List ℕ)) (y : Y) (rest : List ℕ) → read_as f o ≡ Some (y, rest) →
    (x : X) × (o ≡ Some (x, rest)) × (f x ≡ y)
read_as-gave f None y rest h = absurd (nothing_read _ h)
read_as-gave f (Some p) y rest h =
    let e = same_reading (f p.0) y p.1 rest h in
    (p.0, ap (λ (u : List ℕ). gave p.0 u) e.1, e.0)

where_passed : {X : Type 0} (b : Bool) (x y : X) (u v : List ℕ) → (if b then gave x u else None) ≡ gave y v → (gave x u ≡ gave y v) × (x ≡ y) × (b ≡ true)
where_passed true x y u v h = (h, (same_reading x y u v h).0, refl)
where_passed false x y u v h = absurd (nothing_read _ h)

pub read_where-gave : {X : Type 0} (test : X → Bool) (o : Option (X × List ℕ)) (x : X) (rest : List ℕ) → read_where test o ≡ Some (x, rest) →
    (o ≡ Some (x, rest)) × (test x ≡ true)
read_where-gave test None x rest h = absurd (nothing_read _ h)
read_where-gave test (Some p) x rest h =
    let e = where_passed (test p.0) p.0 x p.1 rest h in
    (e.0, ap test (sym e.1) ∙ e.2)

-- ---- a reader that continues after a codec's

pub bytes_after : (us vs : List ℕ) → AreBytes (us ++ vs) → AreBytes vs
bytes_after [] vs h = h
bytes_after (u ∷ us) vs h = bytes_after us vs h.1

-- the value that was decoded first, whose encoding the bytes begin with, and the result of the next decoder on the remaining bytes
pub record Went {X Y : Type 0} (c : Codec X) (bs : List ℕ) (next : X → List ℕ → Option (Y × List ℕ)) (y : Y) (rest : List ℕ) : Type 0 where
  pub first : X
  pub following : List ℕ
  pub encoded : bs ≡ c.encode first ++ following
  pub bytes : AreBytes following
  pub went : next first following ≡ Some (y, rest)

pub goes_on : {X Y : Type 0} (c : Codec X) → ReadsEncodings c → (bs : List ℕ) (next : X → List ℕ → Option (Y × List ℕ)) (y : Y) (rest : List ℕ) → AreBytes bs
    → read_on (c.read bs) next ≡ Some (y, rest) → Went c bs next y rest
goes_on {X = X} {Y = Y} c exact bs next y rest bytes = of (c.read bs) refl
  where
    of : (o : Option (X × List ℕ)) → c.read bs ≡ o → read_on o next ≡ Some (y, rest) → Went c bs next y rest
    of None is h = absurd (nothing_read _ h)
    of (Some p) is h =
        let encoded : bs ≡ c.encode p.0 ++ p.1 = exact bs p.0 p.1 bytes is in
        record { first = p.0; following = p.1; encoded = encoded; bytes = bytes_after (c.encode p.0) p.1 (rw encoded at bytes); went = h }

-- ---- numbers

-- a number below a * c as its part above c and its part below
split_at : (n : ℕ) {a c : ℕ} → zero < a → zero < c → n % (a * c) ≡ (n / c % a) * c + n % c
split_at n {a} {c} ha hc =
    let high = mod-lt (n / c) ha in
    let low = mod-lt n hc in
    let top : (n / c % a + 1) * c ≤ a * c = mul-le-mul_right c (omega arith) in
    let one_more : (n / c % a + 1) * c ≡ n / c % a * c + 1 * c = add-mul (n / c % a) 1 c in
    let parts : n ≡ n / c / a * (a * c) + (n / c % a * c + n % c) =
    sym (div-add-mod' n c)
    ∙ ap (λ (q : ℕ). q * c + n % c) (sym (div-add-mod' (n / c) a))
    ∙ ap (λ (q : ℕ). q + n % c) (add-mul (n / c / a * a) (n / c % a) c ∙ ap (λ (q : ℕ). q + n / c % a * c) (mul_assoc (n / c / a) a c))
    ∙ add_assoc (n / c / a * (a * c)) (n / c % a * c) (n % c) in
    ap (λ (q : ℕ). q % (a * c)) parts ∙ mul-add-mod_self_right (n / c / a) (a * c) (n / c % a * c + n % c) ∙ mod-eq_of_lt (omega arith)

byte_at-is : (w n : ℕ) → byte_at w n ≡ n / 256 ^ w % 256
byte_at-is zero n = ap (λ (q : ℕ). q % 256) (sym (div-one n))
byte_at-is (suc w) n = refl

power_above : (w : ℕ) → zero < 256 ^ w
power_above w = let h = one-le-pow w 256 (omega arith) in omega arith

first_byte : (w n : ℕ) → byte_at w n * 256 ^ w + n % 256 ^ w ≡ n % 256 ^ suc w
first_byte w n =
    let parts = split_at n {a = 256} {c = 256 ^ w} (omega arith) (power_above w) in
    rw (byte_at-is w n, pow-succ' 256 w, parts) refl

read_number-of : (w n : ℕ) (rest : List ℕ) → read_number w (bytes_high_first w n ++ rest) ≡ gave (n % 256 ^ w) rest
read_number-of zero n rest = let e : 0 ≡ n % 1 = omega arith in ap (λ (m : ℕ). gave m rest) e
read_number-of (suc w) n rest =
    ap (read_as (λ m. byte_at w n * 256 ^ w + m)) (read_number-of w n rest) ∙ ap (λ (m : ℕ). gave m rest) (first_byte w n)

pub number-back : (w n : ℕ) → n < 256 ^ w → IsReadBack (number w) n
number-back w n h rest = read_number-of w n rest ∙ ap (λ (m : ℕ). gave m rest) (mod-eq_of_lt h)

above : (w q : ℕ) → q * 256 ^ suc w ≡ q * 256 * 256 ^ w
above w q = rw (pow-succ' 256 w) (sym (mul_assoc q 256 (256 ^ w)))

same_low_byte : (w q n : ℕ) → byte_at w (q * 256 ^ suc w + n) ≡ byte_at w n
same_low_byte w q n =
    rw (byte_at-is w (q * 256 ^ suc w + n), byte_at-is w n, above w q, mul-add-div_right (power_above w) (q * 256) n) (mul-add-mod_self_right q 256 (n / 256 ^ w))

same_low_bytes : (w q n : ℕ) → bytes_high_first w (q * 256 ^ w + n) ≡ bytes_high_first w n
same_low_bytes zero q n = refl
same_low_bytes (suc w) q n =
    let lower : bytes_high_first w (q * 256 ^ suc w + n) ≡ bytes_high_first w n = rw (above w q) (same_low_bytes w (q * 256) n) in
    ap (λ (b : ℕ). b ∷ bytes_high_first w (q * 256 ^ suc w + n)) (same_low_byte w q n) ∙ ap (λ (bs : List ℕ). byte_at w n ∷ bs) lower

top_byte : (w b n : ℕ) → b < 256 → n < 256 ^ w → byte_at w (b * 256 ^ w + n) ≡ b
top_byte w b n hb hn =
    rw (byte_at-is w (b * 256 ^ w + n), mul-add-div_right (power_above w) b n, div-eq_of_lt hn) (let e : b + 0 ≡ b = omega arith in rw e (mod-eq_of_lt hb))

pub read_number-gave : (w : ℕ) (bs : List ℕ) (n : ℕ) (rest : List ℕ) → AreBytes bs → read_number w bs ≡ Some (n, rest) → (n < 256 ^ w) × (bs ≡ bytes_high_first w n ++ rest)
read_number-gave zero bs n rest bytes h =
    let e = same_reading 0 n bs rest h in
    (let zero_is = e.0 in omega arith, e.1)
read_number-gave (suc w) [] n rest bytes h = absurd (nothing_read _ h)
read_number-gave (suc w) (b ∷ bs) n rest bytes h =
    let (m, read, is) = read_as-gave (λ m. b * 256 ^ w + m) (read_number w bs) n rest h in
    let (small, encoded) = read_number-gave w bs m rest bytes.1 read in
    let byte : b < 256 = bytes.0 in
    let top : (b + 1) * 256 ^ w ≤ 256 * 256 ^ w = mul-le-mul_right (256 ^ w) (omega arith) in
    let all : bytes_high_first (suc w) n ≡ b ∷ bytes_high_first w m =
    ap (bytes_high_first (suc w)) (sym is)
    ∙ ap (λ (a : ℕ). a ∷ bytes_high_first w (b * 256 ^ w + m)) (top_byte w b m byte small)
    ∙ ap (λ (cs : List ℕ). b ∷ cs) (same_low_bytes w b m) in
    (rw (pow-succ' 256 w) (omega arith), ap (λ (cs : List ℕ). b ∷ cs) encoded ∙ ap (λ (cs : List ℕ). cs ++ rest) (sym all))

pub number-encoded : (w : ℕ) → ReadsEncodings (number w)
number-encoded w bs n rest bytes h = (read_number-gave w bs n rest bytes h).1

-- ---- keys and cells

pub length-counted : (bs : List ℕ) → length (counted.encode bs) ≡ 2 + length bs
length-counted bs = omega arith

pub read_bytes-of : (bs rest : List ℕ) → read_bytes (length bs) (bs ++ rest) ≡ gave bs rest
read_bytes-of bs rest =
    let all = length-append bs rest in
    let fits : nat_le (length bs) (length (bs ++ rest)) ≡ true = le-leb _ _ (omega arith) in
    rw (fits, take-append_seam bs rest, drop-append_seam bs rest) refl

pub counted-back : (bs : List ℕ) → length bs < 65536 → IsReadBack counted bs
counted-back bs few rest =
    ap counted.read (append_assoc ((number 2).encode (length bs)) bs rest)
    ∙ ap (λ o. read_on o read_bytes) (number-back 2 (length bs) few (bs ++ rest))
    ∙ read_bytes-of bs rest

pub read_bytes-gave : (n : ℕ) (bs xs rest : List ℕ) → read_bytes n bs ≡ Some (xs, rest) → (length xs ≡ n) × (bs ≡ xs ++ rest)
read_bytes-gave n bs xs rest = of (nat_le n (length bs)) refl
  where
    of : (b : Bool) → nat_le n (length bs) ≡ b → (if b then gave (take n bs) (drop n bs) else None) ≡ gave xs rest → (length xs ≡ n) × (bs ≡ xs ++ rest)
    of true fits h =
        let e = same_reading (take n bs) xs (drop n bs) rest h in
        let few = leb-true n (length bs) fits in
        (ap (λ (ys : List ℕ). length ys) (sym e.0) ∙ length-take-le n bs few, sym (take-append-drop n bs) ∙ ap (λ (ys : List ℕ). ys ++ drop n bs) e.0 ∙ ap (λ (ys : List ℕ). xs ++ ys) e.1)
    of false fits h = absurd (nothing_read _ h)

pub counted-encoded : ReadsEncodings counted
counted-encoded bs xs rest bytes h =
    let on = goes_on (number 2) (number-encoded 2) bs read_bytes xs rest bytes h in
    let (long, is) = read_bytes-gave on.first on.following xs rest on.went in
    on.encoded
    ∙ ap (λ (ys : List ℕ). (number 2).encode on.first ++ ys) is
    ∙ ap (λ (n : ℕ). (number 2).encode n ++ (xs ++ rest)) (sym long)
    ∙ sym (append_assoc ((number 2).encode (length xs)) xs rest)

pub pid-back : (p : ℕ) → p < 2 ^ 64 → IsReadBack pid_cell p
pid-back p small rest = number-back 8 p small rest

pub pid-encoded : ReadsEncodings pid_cell
pid-encoded bs p rest bytes h = number-encoded 8 bs p rest bytes h

-- ---- no encoding is a prefix of another

pub one_encoding : {X : Type 0} (c : Codec X) (x y : X) → IsReadBack c x → IsReadBack c y → (u v : List ℕ) → c.encode x ++ u ≡ c.encode y ++ v → (x ≡ y) × (u ≡ v)
one_encoding c x y bx by u v e = same_reading x y u v (sym (bx u) ∙ ap c.read e ∙ by v)
