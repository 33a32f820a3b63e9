-- Lemmas on the bytes of rows.
use Rattle.std.specs.Prelude.{◌≡◌, Bool, ◌&&◌, nat_eq, ℕ, zero, suc, ◌+◌, ◌-◌, ◌*◌, ◌<◌, ◌≤◌, ◌^◌, [], ◌∷◌, ◌++◌, length, take, drop, slice_index_or}
use Rattle.std.proofs.Common.{refl, sym, ap, ◌∙◌, arith, subst, length-append, length-drop}
use Rattle.std.proofs.lemmas.List.{append_assoc, take-append-drop, length-take-le}
use Rattle.std.proofs.Math.Seq.{take-append_seam, drop-append_seam}
use Rattle.std.proofs.lemmas.Nat.{from_le_bytes-to_le_bytes_8, le_bytes_8}
use Rattle.std.specs.Bool.{Decides, one_answer}
use Rattle.std.specs.Cmp.{first_so, second_so, unsigned_Decides}
use Rattle.std.specs.Cmp.Lexicographic.{pointwise, pointwise_decides, bytes_decides, texts_ties}
use Rattle.std.specs.Int.{from_le_bytes, to_le_bytes, w64}
use Rattle.std.specs.Ordering.{eq_by_cmp}
use native.Mathlib.Numerals.{unary_clauses}
use Rattle.keys.specs.Bytes.{Bytes, Pairs}
use Rattle.keys.specs.Order.{order, same_pair, same_pairs}
use Rattle.keys.specs.RowBytes.{row_bytes, first_len, after_lens, first_key, after_key, first_value, after_row, IsWhole, rows_in, after_rows, StartWithRows, AreRows}

-- ---- a row and its parts

front : (n : ℕ) (xs ys : Bytes) → length xs ≡ n → take n (xs ++ ys) ≡ xs
front n xs ys h = rw (← h) (take-append_seam xs ys)

rest : (n : ℕ) (xs ys : Bytes) → length xs ≡ n → drop n (xs ++ ys) ≡ ys
rest n xs ys h = rw (← h) (drop-append_seam xs ys)

-- two lengths, a key and a value, and the bytes after them
abbrev parted : Bytes → Bytes → Bytes → Bytes → Bytes → Bytes
parted l m key value x = l ++ (m ++ (key ++ (value ++ x)))

-- the lengths are those of the key and the value
record AreParts (l m key value : Bytes) : Type 0 where
  key_len : length l ≡ 8
  value_len : length m ≡ 8
  of_key : from_le_bytes w64 l ≡ length key
  of_value : from_le_bytes w64 m ≡ length value

-- the bytes begin with a row, which is decoded
record IsRead (bytes k v x : Bytes) : Type 0 where
  whole : IsWhole bytes
  key : first_key bytes ≡ k
  value : first_value bytes ≡ v
  after : after_row bytes ≡ x

parts_are_read : (l m key value x : Bytes) → AreParts l m key value → IsRead (parted l m key value x) key value x
parts_are_read l m key value x h =
    let e : drop 8 (l ++ (m ++ (key ++ (value ++ x)))) ≡ m ++ (key ++ (value ++ x)) = rest 8 l (m ++ (key ++ (value ++ x))) h.key_len in
    let f : drop 8 (m ++ (key ++ (value ++ x))) ≡ key ++ (value ++ x) = rest 8 m (key ++ (value ++ x)) h.value_len in
    let k : first_len (l ++ (m ++ (key ++ (value ++ x)))) ≡ length key = rw (front 8 l (m ++ (key ++ (value ++ x))) h.key_len) h.of_key in
    let v : first_len (m ++ (key ++ (value ++ x))) ≡ length value = rw (front 8 m (key ++ (value ++ x)) h.value_len) h.of_value in
    let d : drop (length key) (key ++ (value ++ x)) ≡ value ++ x = drop-append_seam key (value ++ x) in
    record {
      whole = record {
        key_len = omega (arith, h.key_len, length-append l (m ++ (key ++ (value ++ x))));
        value_len = rw e (omega (arith, h.value_len, length-append m (key ++ (value ++ x))));
        key = rw (k, e, f) (omega (arith, length-append key (value ++ x)));
        value = rw (k, e, f, v, d) (omega (arith, length-append value x));
      };
      key = rw (k, e, f) (take-append_seam key (value ++ x));
      value = rw (k, e, f, v, d) (take-append_seam value x);
      after = rw (k, e, f, v, d) (drop-append_seam value x);
    }

parts_of : (bytes : Bytes) → IsWhole bytes → AreParts (take 8 bytes) (take 8 (drop 8 bytes)) (first_key bytes) (first_value bytes)
parts_of bytes h = record {
  key_len = length-take-le 8 bytes h.key_len;
  value_len = length-take-le 8 (drop 8 bytes) h.value_len;
  of_key = sym (length-take-le (first_len bytes) (after_lens bytes) h.key);
  of_value = sym (length-take-le (first_len (drop 8 bytes)) (after_key bytes) h.value);
}

all_parts : (bytes : Bytes) → parted (take 8 bytes) (take 8 (drop 8 bytes)) (first_key bytes) (first_value bytes) (after_row bytes) ≡ bytes
all_parts bytes = rw (take-append-drop (first_len (drop 8 bytes)) (after_key bytes), take-append-drop (first_len bytes) (after_lens bytes), take-append-drop 8 (drop 8 bytes)) (take-append-drop 8 bytes)

parted-append : (l m key value x b : Bytes) → parted l m key value x ++ b ≡ parted l m key value (x ++ b)
parted-append l m key value x b = rw (append_assoc l (m ++ (key ++ (value ++ x))) b, append_assoc m (key ++ (value ++ x)) b, append_assoc key (value ++ x) b, append_assoc value x b) refl

-- a row is read as before where more follows
read-append : (bytes b : Bytes) → IsWhole bytes → IsRead (bytes ++ b) (first_key bytes) (first_value bytes) (after_row bytes ++ b)
read-append bytes b h =
    let joined = sym (parted-append (take 8 bytes) (take 8 (drop 8 bytes)) (first_key bytes) (first_value bytes) (after_row bytes) b) ∙ ap (λ (y : Bytes). y ++ b) (all_parts bytes) in
    subst (λ (y : Bytes). IsRead y (first_key bytes) (first_value bytes) (after_row bytes ++ b)) joined
    (parts_are_read (take 8 bytes) (take 8 (drop 8 bytes)) (first_key bytes) (first_value bytes) (after_row bytes ++ b) (parts_of bytes h))

-- ---- rows, and others after them

pub AreRows-append : (n m : ℕ) (a b : Bytes) → AreRows n a → AreRows m b → AreRows (n + m) (a ++ b)
AreRows-append zero m a b h k = let e : 0 + m ≡ m = omega arith in rw (e, h) k
AreRows-append (suc n) m a b h k =
    let r = read-append a b h.0 in
    let e : suc n + m ≡ suc (n + m) = omega arith in
    rw e (r.whole, rw r.after (AreRows-append n m (after_row a) b h.1 k))

pub rows-append : (n m : ℕ) (a b : Bytes) → AreRows n a → rows_in (n + m) (a ++ b) ≡ rows_in n a ++ rows_in m b
rows-append zero m a b h = let e : 0 + m ≡ m = omega arith in rw (e, h) refl
rows-append (suc n) m a b h =
    let r = read-append a b h.0 in
    let e : suc n + m ≡ suc (n + m) = omega arith in
    rw (e, r.key, r.value, r.after, rows-append n m (after_row a) b h.1) refl

pub length-rows : (n : ℕ) (bytes : Bytes) → length (rows_in n bytes) ≡ n
length-rows zero bytes = refl
length-rows (suc n) bytes = ap suc (length-rows n (after_row bytes))

-- each row has sixteen bytes at least
pub count_within : (n : ℕ) (bytes : Bytes) → AreRows n bytes → 16 * n ≤ length bytes
count_within zero bytes h = omega arith
count_within (suc n) bytes h = omega (
  arith,
  h.0.key_len,
  h.0.value_len,
  length-drop 8 bytes,
  length-drop 8 (drop 8 bytes),
  length-drop (first_len bytes) (after_lens bytes),
  length-drop (first_len (drop 8 bytes)) (after_key bytes),
  h.0.key,
  h.0.value,
  count_within n (after_row bytes) h.1,
)

-- two lists of rows that are encoded in one byte string have together no more rows than it has bytes
pub counts_fit : (n m : ℕ) (a b all : Bytes) → AreRows n a → AreRows m b → all ≡ a ++ b → length all < 2 ^ 64 → n + m < 2 ^ 64
counts_fit n m a b all h k e l =
    let s : length all ≡ length a + length b = rw e (length-append a b) in
    omega (arith, l, s, count_within n a h, count_within m b k)

-- ---- one row more

nothing_after : (xs : Bytes) → xs ++ [] ≡ xs
nothing_after [] = refl
nothing_after (x ∷ xs) = ap (λ (ys : Bytes). x ∷ ys) (nothing_after xs)

row_is_read : (key value : Bytes) → length key < 2 ^ 64 → length value < 2 ^ 64 → IsRead (row_bytes key value) key value []
row_is_read key value k v =
    let parts : AreParts (to_le_bytes w64 (length key)) (to_le_bytes w64 (length value)) key value = record {
      key_len = refl;
      value_len = refl;
      of_key = from_le_bytes-to_le_bytes_8 (length key) k;
      of_value = from_le_bytes-to_le_bytes_8 (length value) v;
    } in
    rw (nothing_after value) at (parts_are_read (to_le_bytes w64 (length key)) (to_le_bytes w64 (length value)) key value [] parts)

pub AreRows-push : (n : ℕ) (bytes key value : Bytes) → AreRows n bytes → length key < 2 ^ 64 → length value < 2 ^ 64 → AreRows (n + 1) (bytes ++ row_bytes key value)
AreRows-push n bytes key value h k v =
    let r = row_is_read key value k v in
    AreRows-append n 1 bytes (row_bytes key value) h (r.whole, r.after)

pub rows-push : (n : ℕ) (bytes key value : Bytes) → AreRows n bytes → length key < 2 ^ 64 → length value < 2 ^ 64
    → rows_in (n + 1) (bytes ++ row_bytes key value) ≡ rows_in n bytes ++ (key, value) ∷ []
rows-push n bytes key value h k v =
    let r = row_is_read key value k v in
    rw (rows-append n 1 bytes (row_bytes key value) h, r.key, r.value) refl

-- ---- the first rows

pub StartWithRows-fewer : (n m : ℕ) (bytes : Bytes) → AreRows m bytes → n ≤ m → StartWithRows n bytes
StartWithRows-fewer zero m bytes h l = tt
StartWithRows-fewer (suc n) zero bytes h l = absurd (omega (arith, l))
StartWithRows-fewer (suc n) (suc m) bytes h l = (h.0, StartWithRows-fewer n m (after_row bytes) h.1 (omega (arith, l)))

-- the bytes of the first rows, and the bytes after them
record IsCut (n m : ℕ) (bytes first : Bytes) : Type 0 where
  all : first ++ after_rows n bytes ≡ bytes
  are : AreRows n first
  rows : rows_in n first ≡ take n (rows_in m bytes)

cut : (n m : ℕ) (bytes : Bytes) → AreRows m bytes → n ≤ m → (first : Bytes) × IsCut n m bytes first
cut zero m bytes h l = ([], record { all = refl; are = refl; rows = refl })
cut (suc n) zero bytes h l = absurd (omega (arith, l))
cut (suc n) (suc m) bytes h l =
    let s = cut n m (after_row bytes) h.1 (omega (arith, l)) in
    let r = parts_are_read (take 8 bytes) (take 8 (drop 8 bytes)) (first_key bytes) (first_value bytes) s.0 (parts_of bytes h.0) in (
      parted (take 8 bytes) (take 8 (drop 8 bytes)) (first_key bytes) (first_value bytes) s.0,
      record {
        all = rw (parted-append (take 8 bytes) (take 8 (drop 8 bytes)) (first_key bytes) (first_value bytes) s.0 (after_rows n (after_row bytes)), s.1.all) (all_parts bytes);
        are = (r.whole, rw r.after s.1.are);
        rows = rw (r.key, r.value, r.after, s.1.rows) refl;
      },
    )

cut_at : (first x bytes : Bytes) → first ++ x ≡ bytes → take (length bytes - length x) bytes ≡ first
cut_at first x bytes h =
    let n : length (first ++ x) - length x ≡ length first = omega (arith, length-append first x) in
    rw (← h, n) (take-append_seam first x)

-- the bytes before the suffix that follows the first n rows are the bytes of the first n rows
pub AreRows-take : (n m : ℕ) (bytes : Bytes) → AreRows m bytes → n ≤ m → AreRows n (take (length bytes - length (after_rows n bytes)) bytes)
AreRows-take n m bytes h l =
    let s = cut n m bytes h l in
    rw (cut_at s.0 (after_rows n bytes) bytes s.1.all) s.1.are

pub rows-take : (n m : ℕ) (bytes : Bytes) → AreRows m bytes → n ≤ m → rows_in n (take (length bytes - length (after_rows n bytes)) bytes) ≡ take n (rows_in m bytes)
rows-take n m bytes h l =
    let s = cut n m bytes h l in
    rw (cut_at s.0 (after_rows n bytes) bytes s.1.all) s.1.rows

pub after_rows-upto : (n m : ℕ) (bytes : Bytes) → AreRows m bytes → n ≤ m → length (after_rows n bytes) ≤ length bytes
after_rows-upto n m bytes h l =
    let s = cut n m bytes h l in
    omega (arith, ap (λ (x : Bytes). length x) s.1.all, length-append s.0 (after_rows n bytes))

-- ---- the first row, if there is one

pub first_is_whole : (n : ℕ) (bytes : Bytes) → StartWithRows n bytes → (n ≡ 0 → ⊥) → IsWhole bytes
first_is_whole zero bytes h l = absurd (l refl)
first_is_whole (suc n) bytes h l = h.0

pub StartWithRows-next : (n : ℕ) (bytes : Bytes) → StartWithRows n bytes → (n ≡ 0 → ⊥) → StartWithRows (n - 1) (after_row bytes)
StartWithRows-next zero bytes h l = absurd (l refl)
StartWithRows-next (suc n) bytes h l = simp unary_clauses h.1

pub after_rows-next : (n : ℕ) (bytes : Bytes) → (n ≡ 0 → ⊥) → after_rows (n - 1) (after_row bytes) ≡ after_rows n bytes
after_rows-next zero bytes l = absurd (l refl)
after_rows-next (suc n) bytes l = simp unary_clauses refl

pub AreRows-next : (n : ℕ) (bytes : Bytes) → AreRows n bytes → (n ≡ 0 → ⊥) → AreRows (n - 1) (after_row bytes)
AreRows-next zero bytes h l = absurd (l refl)
AreRows-next (suc n) bytes h l = simp unary_clauses h.1

pub rows-next : (n : ℕ) (bytes : Bytes) → (n ≡ 0 → ⊥) → rows_in n bytes ≡ (first_key bytes, first_value bytes) ∷ rows_in (n - 1) (after_row bytes)
rows-next zero bytes l = absurd (l refl)
rows-next (suc n) bytes l = simp unary_clauses refl

pub first_of_rows : (n : ℕ) (bytes : Bytes) → AreRows n bytes → (n ≡ 0 → ⊥) → IsWhole bytes
first_of_rows zero bytes h l = absurd (l refl)
first_of_rows (suc n) bytes h l = h.0

-- ---- four pieces, one after the other

pub four_more : (old l m key value a b d e : Bytes) → a ≡ old ++ l → b ≡ a ++ m → d ≡ b ++ key → e ≡ d ++ value → e ≡ old ++ (l ++ (m ++ (key ++ value)))
four_more old l m key value a b d e h i j k =
    k ∙ rw (j, i, h, append_assoc (old ++ l ++ m) key value, append_assoc (old ++ l) m (key ++ value), append_assoc old l (m ++ (key ++ value))) refl

-- ---- equal rows take equal bytes

-- each byte fits in eight bits
abbrev Fit : Bytes → Type 0
Fit xs = (i : ℕ) → slice_index_or xs i 0 < 256

Fit-take : (n : ℕ) (xs : Bytes) → Fit xs → Fit (take n xs)
Fit-take zero xs h i = omega arith
Fit-take (suc n) [] h i = h i
Fit-take (suc n) (x ∷ xs) h zero = h 0
Fit-take (suc n) (x ∷ xs) h (suc i) = Fit-take n xs (λ k. h (suc k)) i

Fit-drop : (n : ℕ) (xs : Bytes) → Fit xs → Fit (drop n xs)
Fit-drop zero xs h = h
Fit-drop (suc n) [] h = h
Fit-drop (suc n) (x ∷ xs) h = Fit-drop n xs (λ k. h (suc k))

Fit-after : (bytes : Bytes) → Fit bytes → Fit (after_row bytes)
Fit-after bytes h =
    Fit-drop (first_len (drop 8 bytes)) (after_key bytes)
    (Fit-drop (first_len bytes) (after_lens bytes) (Fit-drop 8 (drop 8 bytes) (Fit-drop 8 bytes h)))

-- a row's bytes as they are appended, and the bytes after them
abbrev encoded : Bytes → Bytes → Bytes → Bytes
encoded key value x = parted (to_le_bytes w64 (length key)) (to_le_bytes w64 (length value)) key value x

first_encoded : (bytes : Bytes) → Fit bytes → IsWhole bytes → encoded (first_key bytes) (first_value bytes) (after_row bytes) ≡ bytes
first_encoded bytes f h =
    let p = parts_of bytes h in
    let k : to_le_bytes w64 (length (first_key bytes)) ≡ take 8 bytes =
    le_bytes_8 (take 8 bytes) (length (first_key bytes)) p.key_len (Fit-take 8 bytes f) (sym p.of_key) in
    let v : to_le_bytes w64 (length (first_value bytes)) ≡ take 8 (drop 8 bytes) =
    le_bytes_8 (take 8 (drop 8 bytes)) (length (first_value bytes)) p.value_len (Fit-take 8 (drop 8 bytes) (Fit-drop 8 bytes f)) (sym p.of_value) in
    ap (λ (l : Bytes). parted l (to_le_bytes w64 (length (first_value bytes))) (first_key bytes) (first_value bytes) (after_row bytes)) k
    ∙ ap (λ (m : Bytes). parted (take 8 bytes) m (first_key bytes) (first_value bytes) (after_row bytes)) v
    ∙ all_parts bytes

abbrev first_pair : Pairs Bytes → Bytes × Bytes
first_pair [] = ([], [])
first_pair (p ∷ ps) = p

abbrev later_pairs : Pairs Bytes → Pairs Bytes
later_pairs [] = []
later_pairs (p ∷ ps) = ps

same_bytes : (n : ℕ) (b c : Bytes) → Fit b → Fit c → AreRows n b → AreRows n c → rows_in n b ≡ rows_in n c → b ≡ c
same_bytes zero b c f g h k e = h ∙ sym k
same_bytes (suc n) b c f g h k e =
    let first : (first_key b, first_value b) ≡ (first_key c, first_value c) = ap first_pair e in
    let later : after_row b ≡ after_row c = same_bytes n (after_row b) (after_row c) (Fit-after b f) (Fit-after c g) h.1 k.1 (ap later_pairs e) in
    sym (first_encoded b f h.0)
    ∙ ap (λ (p : Bytes × Bytes). encoded p.0 p.1 (after_row b)) first
    ∙ ap (λ (x : Bytes). encoded (first_key c) (first_value c) x) later
    ∙ first_encoded c g k.0

order_decides : (j k : Bytes) → Decides (eq_by_cmp order j k) (j ≡ k)
order_decides j k = subst (λ (t : Bool). Decides t (j ≡ k)) (texts_ties j k) (bytes_decides j k)

pair_decides : (p q : Bytes × Bytes) → Decides (same_pair p q) (p ≡ q)
pair_decides p q = (
  (λ e i. ((order_decides p.0 q.0).0 (first_so _ (eq_by_cmp order p.1 q.1) e) i, (order_decides p.1 q.1).0 (second_so (eq_by_cmp order p.0 q.0) _ e) i)),
  λ e i. (order_decides p.0 q.0).1 (ap (λ u. u.0) e) i && (order_decides p.1 q.1).1 (ap (λ u. u.1) e) i,
)

pub same_pairs-decides : (m n : Pairs Bytes) → Decides (same_pairs m n) (m ≡ n)
same_pairs-decides = pointwise_decides pair_decides

-- as many rows are the same pairs if and only if their bytes are equal
pub bytes_decide : (n m : ℕ) (b c : Bytes) → Fit b → Fit c → AreRows n b → AreRows m c → n ≡ m → pointwise nat_eq b c ≡ same_pairs (rows_in n b) (rows_in m c)
bytes_decide n m b c f g h k e =
    let d = bytes_decides b c in
    let same : rows_in n b ≡ rows_in m c → b ≡ c = λ r. same_bytes n b c f g h (subst (λ (x : ℕ). AreRows x c) (sym e) k) (r ∙ ap (λ (x : ℕ). rows_in x c) (sym e)) in
    one_answer (pointwise nat_eq b c) (same_pairs (rows_in n b) (rows_in m c))
    ((λ t. ap (λ (x : Bytes). rows_in n x) (d.0 t) ∙ ap (λ (x : ℕ). rows_in x c) e), λ r. d.1 (same r))
    (same_pairs-decides (rows_in n b) (rows_in m c))

-- more rows, or fewer, are other pairs
pub counts_decide : (n m : ℕ) (b c : Bytes) → (n ≡ m → ⊥) → nat_eq n m ≡ same_pairs (rows_in n b) (rows_in m c)
counts_decide n m b c o =
    let d = unsigned_Decides n m in
    let r : rows_in n b ≡ rows_in m c → n ≡ m = λ e. sym (length-rows n b) ∙ ap (λ (ps : Pairs Bytes). length ps) e ∙ length-rows m c in
    one_answer (nat_eq n m) (same_pairs (rows_in n b) (rows_in m c))
    ((λ t. absurd (o (d.0 t))), λ e. absurd (o (r e)))
    (same_pairs-decides (rows_in n b) (rows_in m c))
