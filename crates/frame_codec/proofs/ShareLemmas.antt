-- Prefix compression: the longest common prefix of two keys, and the encoding of a key after the key before it.
use Rattle.std.proofs.Common.{◌≡◌, ℕ, zero, suc, ◌⊎◌, inl, inr, ◌+◌, ◌*◌, ◌^◌, ◌-◌, ◌<◌, ◌≤◌, Bool, true, false, cond, nat_eq, ◌==◌, if◌then◌else◌, List, [], ◌∷◌, ◌++◌, length, take, drop, Option, Some, None, MatchOption, refl, sym, ap, ◌∙◌, arith, append_assoc, length-append, eq-eqb, leb-true}
use Rattle.std.proofs.lemmas.Bool.{eqb-true}
use Rattle.std.proofs.lemmas.List.{take-append-drop, length-take-le, length-drop, drop_at, take_all}
use Rattle.std.proofs.lemmas.List.Sums.{common_prefix_len-le}
use Rattle.std.specs.declared.cmp.Ordering.{Ordering}
use Rattle.std.specs.declared.cmp.Ordering.TheVariants.{Equal}
use Rattle.std.specs.Cmp.{nat_cmp_is}
use Rattle.std.specs.Ordering.{ordering_then, nat_cmp}
use Rattle.keys.specs.Cells.{Codec, AreBytes, IsReadBack, ReadsEncodings, read_on, read_as, read_where, number, read_bytes}
use Rattle.keys.specs.Order.{order}
use Rattle.keys.specs.declared.settings.Settings.{Settings}
use Rattle.keys.proofs.CellLemmas.{gave, nothing_read, read_as-gave, read_where-gave, goes_on, number-back, number-encoded, read_bytes-of, read_bytes-gave}
use Rattle.frame_codec.specs.Codecs.{counted_short, shared_and_rest, common, rejoined, sharing}
use Rattle.frame_codec.specs.Frame.{is_key}
use Rattle.frame_codec.proofs.EachLemmas.{not_true}
use Rattle.frame_codec.proofs.CodecLemmas.{both-back, both-encoded}

one_more : (n : ℕ) → 1 + n ≡ suc n
one_more n = omega arith

-- ---- how far two keys go together

pub common-le : (j k : List ℕ) → (common j k ≤ length j) × (common j k ≤ length k)
common-le j k = common_prefix_len-le nat_eq j k

-- so far they have the same bytes
common-same : (j k : List ℕ) → take (common j k) j ≡ take (common j k) k
common-same [] k = refl
common-same (a ∷ xs) [] = refl
common-same (a ∷ xs) (b ∷ bs) = by (nat_eq a b) refl (common-same xs bs)
  where
    by : (t : Bool) → nat_eq a b ≡ t → take (common xs bs) xs ≡ take (common xs bs) bs → take (cond t (1 + common xs bs) 0) (a ∷ xs) ≡ take (cond t (1 + common xs bs) 0) (b ∷ bs)
    by true e h = rw (one_more (common xs bs)) (ap (λ (c : ℕ). c ∷ take (common xs bs) xs) (eqb-true a b e) ∙ ap (λ (cs : List ℕ). b ∷ cs) h)
    by false e h = refl

-- a key consists of the prefix that it shares with another key, and its rest
pub rejoined-same : (j k : List ℕ) → rejoined j (common j k, drop (common j k) k) ≡ k
rejoined-same j k = ap (λ (cs : List ℕ). cs ++ drop (common j k) k) (common-same j k) ∙ take-append-drop (common j k) k

-- bytes that begin like a key continue it if their rest continues as the key's rest does
pub common-cut : (n : ℕ) (j rest : List ℕ) → n ≤ length j → common j (take n j ++ rest) ≡ n + common (drop n j) rest
common-cut zero j rest h = omega arith
common-cut (suc n) [] rest h = absurd (omega arith)
common-cut (suc n) (a ∷ xs) rest h =
    let more = common-cut n xs rest (omega arith) in
    ap (λ (t : Bool). cond t (1 + common xs (take n xs ++ rest)) 0) (eq-eqb a a refl) ∙ ap (λ (m : ℕ). 1 + m) more ∙ omega arith

same_byte : (a : ℕ) (o : Ordering) → ordering_then (nat_cmp a a) o ≡ o
same_byte a o = ap (λ (r : Ordering). ordering_then r o) (sym (nat_cmp_is a a Equal refl))

pub order-cut : (n : ℕ) (j rest : List ℕ) → n ≤ length j → order j (take n j ++ rest) ≡ order (drop n j) rest
order-cut zero j rest h = refl
order-cut (suc n) [] rest h = absurd (omega arith)
order-cut (suc n) (a ∷ xs) rest h = same_byte a (order xs (take n xs ++ rest)) ∙ order-cut n xs rest (omega arith)

-- no more is shared than there is
pub common-beyond : (n : ℕ) (j k : List ℕ) → length j < n → common j k ≡ n → ⊥
common-beyond n j k h e = let most = (common-le j k).0 in absurd (omega arith)

-- two keys, the one beginning with n bytes of the other, part there if and only if the rests have no first byte in common
pub parts-there : (n : ℕ) (j rest : List ℕ) → n ≤ length j → common (drop n j) rest ≡ 0 → common j (rejoined j (n, rest)) ≡ n
parts-there n j rest h e = let goes = common-cut n j rest h in omega arith

pub parts-elsewhere : (n : ℕ) (j rest : List ℕ) → n ≤ length j → (common (drop n j) rest ≡ 0 → ⊥) → common j (rejoined j (n, rest)) ≡ n → ⊥
parts-elsewhere n j rest h more e = let goes = common-cut n j rest h in more (omega arith)

-- all bytes after the first n
pub all_after : (n : ℕ) (j : List ℕ) → take (length j - n) (drop n j) ≡ drop n j
all_after n j = let left = length-drop n j in take_all (length j - n) (drop n j) (omega arith)

-- comparing a key to one that begins with n bytes of it, by the bytes after these
pub parted-by : (o : Option Ordering) (n : ℕ) (j left rest : List ℕ) → n ≤ length j → left ≡ drop n j
    → MatchOption o (common left rest ≡ 0 → ⊥) (λ r. (common left rest ≡ 0) × (r ≡ order left rest))
    → MatchOption o (common j (rejoined j (n, rest)) ≡ n → ⊥) (λ r. (common j (rejoined j (n, rest)) ≡ n) × (r ≡ order j (rejoined j (n, rest))))
parted-by None n j left rest h e reported = parts-elsewhere n j rest h (rw e at reported)
parted-by (Some r) n j left rest h e reported =
    let (apart, is) = (rw e at reported) in
    (parts-there n j rest h apart, is ∙ sym (order-cut n j rest h))

-- ---- the encoding of a key

short-back : (bs : List ℕ) → length bs < 256 → IsReadBack counted_short bs
short-back bs few rest =
    ap counted_short.read (append_assoc ((number 1).encode (length bs)) bs rest)
    ∙ ap (λ o. read_on o read_bytes) (number-back 1 (length bs) few (bs ++ rest))
    ∙ read_bytes-of bs rest

short-encoded : ReadsEncodings counted_short
short-encoded bs xs rest bytes h =
    let on = goes_on (number 1) (number-encoded 1) bs read_bytes xs rest bytes h in
    let (long, is) = read_bytes-gave on.first on.following xs rest on.went in
    on.encoded
    ∙ ap (λ (ys : List ℕ). (number 1).encode on.first ++ ys) is
    ∙ ap (λ (n : ℕ). (number 1).encode n ++ (xs ++ rest)) (sym long)
    ∙ sym (append_assoc ((number 1).encode (length xs)) xs rest)

-- whether that number is exactly the length of the prefix that the key before and the rejoined key share
abbrev pub is_exact : List ℕ → ℕ × List ℕ → Bool
is_exact before p = common before (rejoined before p) == p.0

pub sharing-back : (before k : List ℕ) → length k < 256 → IsReadBack (sharing before) k
sharing-back before k few rest =
    let n : ℕ = common before k in
    let p : ℕ × List ℕ = (n, drop n k) in
    let within = (common-le before k).1 in
    let left = length-drop n k in
    let back = both-back (number 1) counted_short p (number-back 1 n (omega arith)) (short-back (drop n k) (omega arith)) rest in
    let same = rejoined-same before k in
    let exact : is_exact before p ≡ true = eq-eqb (common before (rejoined before p)) n (ap (common before) same) in
    ap (λ (o : Option ((ℕ × List ℕ) × List ℕ)). read_as (rejoined before) (read_where (is_exact before) o)) back
    ∙ rw exact (ap (λ (j : List ℕ). gave j rest) same)

-- what is after the bytes that were taken of a key
rest_of : (n : ℕ) (j rest : List ℕ) → n ≤ length j → drop n (take n j ++ rest) ≡ rest
rest_of n j rest h = drop_at (take n j) rest n (length-take-le n j h)

pub sharing-encoded : (before : List ℕ) → ReadsEncodings (sharing before)
sharing-encoded before bs k rest bytes h =
    let pair : Codec (ℕ × List ℕ) = shared_and_rest in
    let (p, read, is) = read_as-gave (rejoined before) (read_where (is_exact before) (pair.read bs)) k rest h in
    let (first, exact) = read_where-gave (is_exact before) (pair.read bs) p rest read in
    let shares : common before k ≡ p.0 = ap (common before) (sym is) ∙ eqb-true (common before (rejoined before p)) p.0 exact in
    let within = (common-le before k).0 in
    let ends : drop p.0 k ≡ p.1 = ap (drop p.0) (sym is) ∙ rest_of p.0 before p.1 (omega arith) in
    both-encoded (number 1) counted_short (number-encoded 1) short-encoded bs p rest bytes first
    ∙ ap (λ (cs : List ℕ). pair.encode (p.0, cs) ++ rest) (sym ends)
    ∙ ap (λ (n : ℕ). pair.encode (n, drop n k) ++ rest) (sym shares)

-- what is read of a key, after its parts are read
pub sharing-read : (before bs : List ℕ) (n : ℕ) (following rest end : List ℕ) → (number 1).read bs ≡ gave n following → counted_short.read following ≡ gave rest end
    → common before (rejoined before (n, rest)) ≡ n → (sharing before).read bs ≡ gave (rejoined before (n, rest)) end
sharing-read before bs n following rest end first second exact =
    let pair : ℕ → List ℕ → ℕ × List ℕ = λ m cs. (m, cs) in
    ap (λ (o : Option (ℕ × List ℕ)). read_as (rejoined before) (read_where (is_exact before) (read_on o (λ m more. read_as (pair m) (counted_short.read more))))) first
    ∙ ap (λ (o : Option (List ℕ × List ℕ)). read_as (rejoined before) (read_where (is_exact before) (read_as (pair n) o))) second
    ∙ rw (eq-eqb (common before (rejoined before (n, rest))) n exact) refl

-- how long the key is then
pub rejoined-long : (before : List ℕ) (n : ℕ) (rest : List ℕ) → n ≤ length before → length (rejoined before (n, rest)) ≡ n + length rest
rejoined-long before n rest h =
    let joined = length-append (take n before) rest in
    let first = length-take-le n before h in
    omega arith

-- and no more is taken of the key before than there is
pub shared-within : (before : List ℕ) (n : ℕ) (rest : List ℕ) → common before (rejoined before (n, rest)) ≡ n → n ≤ length before
shared-within before n rest e = let most = (common-le before (rejoined before (n, rest))).0 in omega arith

-- a key that is too long is none
pub sharing-refused : (s : Settings) (before bs : List ℕ) (n : ℕ) (following rest end : List ℕ) → (number 1).read bs ≡ gave n following → counted_short.read following ≡ gave rest end
    → common before (rejoined before (n, rest)) ≡ n → s.max_key < n + length rest → read_where (is_key s) ((sharing before).read bs) ≡ None
sharing-refused s before bs n following rest end first second exact long =
    let k : List ℕ = rejoined before (n, rest) in
    let all = rejoined-long before n rest (shared-within before n rest exact) in
    let over : is_key s k ≡ false = not_true (is_key s k) (λ h. let few = leb-true (length k) s.max_key h in absurd (omega arith)) in
    ap (read_where (is_key s)) (sharing-read before bs n following rest end first second exact) ∙ rw over refl

-- in how many bytes
pub sharing-size : (before k : List ℕ) → length ((sharing before).encode k) ≡ 2 + length (drop (common before k) k)
sharing-size before k = omega arith

-- ---- only the first bytes of the key before matter, as many as a byte can count

taken : (n m : ℕ) (j : List ℕ) → m ≤ n → take m (take n j) ≡ take m j
taken n zero j h = refl
taken zero (suc m) j h = absurd (omega arith)
taken (suc n) (suc m) [] h = refl
taken (suc n) (suc m) (a ∷ xs) h = ap (λ (cs : List ℕ). a ∷ cs) (taken n m xs (omega arith))

-- a beginning goes with a key xs far xs the whole does, or to its own end
common-taken : (n : ℕ) (j k : List ℕ) → (common (take n j) k ≡ common j k) ⊎ ((common (take n j) k ≡ n) × (n ≤ common j k))
common-taken zero j k = inr (refl, omega arith)
common-taken (suc n) [] k = inl refl
common-taken (suc n) (a ∷ xs) [] = inl refl
common-taken (suc n) (a ∷ xs) (b ∷ bs) = by (nat_eq a b) (common-taken n xs bs)
  where
    by : (t : Bool) → (common (take n xs) bs ≡ common xs bs) ⊎ ((common (take n xs) bs ≡ n) × (n ≤ common xs bs))
        → (cond t (1 + common (take n xs) bs) 0 ≡ cond t (1 + common xs bs) 0) ⊎ ((cond t (1 + common (take n xs) bs) 0 ≡ suc n) × (suc n ≤ cond t (1 + common xs bs) 0))
    by false h = inl refl
    by true (inl h) = inl (ap (λ (m : ℕ). 1 + m) h)
    by true (inr h) = let same = h.0 in let most = h.1 in inr (omega arith, omega arith)

same_test : (a b n : ℕ) → (a ≡ n → b ≡ n) → (b ≡ n → a ≡ n) → (a == n) ≡ (b == n)
same_test a b n f g = by (a == n) (b == n) refl refl
  where
    by : (s t : Bool) → (a == n) ≡ s → (b == n) ≡ t → s ≡ t
    by true true h k = refl
    by false false h k = refl
    by true false h k = sym (eq-eqb b n (f (eqb-true a n h))) ∙ k
    by false true h k = sym h ∙ eq-eqb a n (g (eqb-true b n k))

exact-taken : (n : ℕ) (j : List ℕ) (p : ℕ × List ℕ) → p.0 < n → is_exact (take n j) p ≡ is_exact j p
exact-taken n j p h =
    let same : rejoined (take n j) p ≡ rejoined j p = ap (λ (cs : List ℕ). cs ++ p.1) (taken n p.0 j (omega arith)) in
    let k : List ℕ = rejoined j p in
    ap (λ (i : List ℕ). common (take n j) i == p.0) same ∙ of (common-taken n j k)
  where
    of : (common (take n j) (rejoined j p) ≡ common j (rejoined j p)) ⊎ ((common (take n j) (rejoined j p) ≡ n) × (n ≤ common j (rejoined j p)))
        → (common (take n j) (rejoined j p) == p.0) ≡ (common j (rejoined j p) == p.0)
    of (inl e) = ap (λ (m : ℕ). m == p.0) e
    of (inr e) =
        let all = e.0 in
        let most = e.1 in
        same_test (common (take n j) (rejoined j p)) (common j (rejoined j p)) p.0 (λ k. absurd (omega arith)) (λ k. absurd (omega arith))

-- the first byte is a byte
first_byte : (bs : List ℕ) (p : ℕ × List ℕ) (rest : List ℕ) → AreBytes bs → shared_and_rest.read bs ≡ gave p rest → p.0 < 256
first_byte [] p rest bytes h = absurd (nothing_read _ h)
first_byte (b ∷ bs) p rest bytes h =
    let n : ℕ = b * 256 ^ 0 + 0 in
    let pair : List ℕ → ℕ × List ℕ = λ cs. (n, cs) in
    let (cs, read, is) = read_as-gave pair (counted_short.read bs) p rest h in
    let small = bytes.0 in
    let same : n ≡ p.0 = ap (λ (q : ℕ × List ℕ). q.0) is in
    omega arith

pub sharing-taken : (n : ℕ) (j : List ℕ) (bs : List ℕ) → 256 ≤ n → AreBytes bs → (sharing (take n j)).read bs ≡ (sharing j).read bs
sharing-taken n j bs most bytes = of (shared_and_rest.read bs) refl
  where
    of : (o : Option ((ℕ × List ℕ) × List ℕ)) → shared_and_rest.read bs ≡ o
        → read_as (rejoined (take n j)) (read_where (is_exact (take n j)) o) ≡ read_as (rejoined j) (read_where (is_exact j) o)
    of None is = refl
    of (Some p) is =
        let small : p.0.0 < 256 = first_byte bs p.0 p.1 bytes is in
        let exact = exact-taken n j p.0 (omega arith) in
        let same : rejoined (take n j) p.0 ≡ rejoined j p.0 = ap (λ (cs : List ℕ). cs ++ p.0.1) (taken n p.0.0 j (omega arith)) in
        ap (λ (t : Bool). read_as (rejoined (take n j)) (if t then gave p.0 p.1 else None)) exact ∙ by (is_exact j p.0) p.0 p.1 same
      where
        by : (t : Bool) (q : ℕ × List ℕ) (rest : List ℕ) → rejoined (take n j) q ≡ rejoined j q
            → read_as (rejoined (take n j)) (if t then gave q rest else None) ≡ read_as (rejoined j) (if t then gave q rest else None)
        by true q rest e = ap (λ (k : List ℕ). gave k rest) e
        by false q rest e = refl
