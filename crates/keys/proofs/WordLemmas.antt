-- Big-endian words compare as the bytes that they encode.
use Rattle.std.proofs.Common.{◌≡◌, ℕ, zero, suc, ◌+◌, ◌*◌, ◌<◌, ◌≤◌, List, [], ◌∷◌, length, take, drop, refl, sym, ap, ◌∙◌, arith, slice_index_or, subst}
use Rattle.keys.specs.Words.{word_after, IsWordOf}
use Rattle.keys.proofs.MapLemmas.{flipped_less}
use Rattle.std.specs.Int.{w64}
use Rattle.std.proofs.lemmas.List.{length-take-le}
use Rattle.std.specs.Int.{from_be_bytes}
use Rattle.std.specs.declared.cmp.Ordering.{Ordering}
use Rattle.std.specs.declared.cmp.Ordering.TheVariants.{Less, Equal, Greater}
use Rattle.std.specs.Ordering.{nat_cmp, ordering_then, MatchOrdering}
use Rattle.std.specs.Cmp.{ranks, nat_cmp_is}
use Rattle.std.specs.Slice.Scan.{big_endian}
use Rattle.keys.specs.Cells.{AreBytes}
use Rattle.keys.specs.Order.{order}

-- ---- how numbers compare

below : (x y : ℕ) → x < y → nat_cmp x y ≡ Less
below x y l = sym (nat_cmp_is x y Less l)

level : (x y : ℕ) → x ≡ y → nat_cmp x y ≡ Equal
level x y e = sym (nat_cmp_is x y Equal e)

above : (x y : ℕ) → y < x → nat_cmp x y ≡ Greater
above x y l = sym (nat_cmp_is x y Greater l)

-- ---- digits

-- a smaller beginning keeps the number smaller, whatever bytes follow it
rises : (a b : ℕ) (us vs : List ℕ) → length us ≡ length vs → AreBytes us → a < b → big_endian a us < big_endian b vs
rises a b [] [] e h l = l
rises a b [] (v ∷ vs) e h l = absurd (omega arith)
rises a b (u ∷ us) [] e h l = absurd (omega arith)
rises a b (u ∷ us) (v ∷ vs) e h l = rises (a * 256 + u) (b * 256 + v) us vs (omega arith) h.1 (omega (arith, h.0))

-- bytes after the same beginning, and their numbers
pub stand_as_numbers : (a : ℕ) (us vs : List ℕ) → length us ≡ length vs → AreBytes us → AreBytes vs → nat_cmp (big_endian a us) (big_endian a vs) ≡ order us vs
stand_as_numbers a [] [] e g h = level a a refl
stand_as_numbers a [] (v ∷ vs) e g h = absurd (omega arith)
stand_as_numbers a (u ∷ us) [] e g h = absurd (omega arith)
stand_as_numbers a (u ∷ us) (v ∷ vs) e g h = by (stand_as_numbers (a * 256 + u) us vs (omega arith) g.1 h.1) (nat_cmp u v) refl (ranks u v)
  where
    by : nat_cmp (big_endian (a * 256 + u) us) (big_endian (a * 256 + u) vs) ≡ order us vs
        → (o : Ordering) → nat_cmp u v ≡ o → MatchOrdering o (u < v) (u ≡ v) (v < u) → nat_cmp (big_endian (a * 256 + u) us) (big_endian (a * 256 + v) vs) ≡ ordering_then (nat_cmp u v) (order us vs)
    by following Less p l =
        let under : u < v = l in
        below _ _ (rises (a * 256 + u) (a * 256 + v) us vs (omega arith) g.1 (omega arith)) ∙ sym (ap (λ o. ordering_then o (order us vs)) p)
    by following Greater p l =
        let over : v < u = l in
        above _ _ (rises (a * 256 + v) (a * 256 + u) vs us (omega arith) h.1 (omega arith)) ∙ sym (ap (λ o. ordering_then o (order us vs)) p)
    by following Equal p l =
        let same : u ≡ v = l in
        ap (λ w. nat_cmp (big_endian (a * 256 + u) us) (big_endian (a * 256 + w) vs)) (sym same)
        ∙ following
        ∙ sym (ap (λ o. ordering_then o (order us vs)) p)

-- ---- a word, and what is after it

then_again : (o p q : Ordering) → ordering_then (ordering_then o p) q ≡ ordering_then o (ordering_then p q)
then_again Less p q = refl
then_again Equal p q = refl
then_again Greater p q = refl

-- the first word decides, and else the bytes after it
parted : (n : ℕ) (xs ys : List ℕ) → n ≤ length xs → n ≤ length ys → ordering_then (order (take n xs) (take n ys)) (order (drop n xs) (drop n ys)) ≡ order xs ys
parted zero xs ys g h = refl
parted (suc n) [] ys g h = absurd (omega arith)
parted (suc n) (x ∷ xs) [] g h = absurd (omega arith)
parted (suc n) (x ∷ xs) (y ∷ ys) g h =
    then_again (nat_cmp x y) (order (take n xs) (take n ys)) (order (drop n xs) (drop n ys))
    ∙ ap (ordering_then (nat_cmp x y)) (parted n xs ys (omega arith) (omega arith))

-- eight bytes as the library reads them
read_as_word : (us : List ℕ) → length us ≡ 8 → from_be_bytes w64 us ≡ big_endian 0 us
read_as_word (a ∷ b ∷ c ∷ d ∷ e ∷ f ∷ g ∷ h ∷ []) l = omega arith
read_as_word [] l = absurd (omega arith)
read_as_word (a ∷ []) l = absurd (omega arith)
read_as_word (a ∷ b ∷ []) l = absurd (omega arith)
read_as_word (a ∷ b ∷ c ∷ []) l = absurd (omega arith)
read_as_word (a ∷ b ∷ c ∷ d ∷ []) l = absurd (omega arith)
read_as_word (a ∷ b ∷ c ∷ d ∷ e ∷ []) l = absurd (omega arith)
read_as_word (a ∷ b ∷ c ∷ d ∷ e ∷ f ∷ []) l = absurd (omega arith)
read_as_word (a ∷ b ∷ c ∷ d ∷ e ∷ f ∷ g ∷ []) l = absurd (omega arith)
read_as_word (a ∷ b ∷ c ∷ d ∷ e ∷ f ∷ g ∷ h ∷ i ∷ us) l = absurd (omega arith)

first_are_bytes : (n : ℕ) (xs : List ℕ) → AreBytes xs → AreBytes (take n xs)
first_are_bytes zero xs h = tt
first_are_bytes (suc n) [] h = tt
first_are_bytes (suc n) (x ∷ xs) h = (h.0, first_are_bytes n xs h.1)

rest_are_bytes : (n : ℕ) (xs : List ℕ) → AreBytes xs → AreBytes (drop n xs)
rest_are_bytes zero xs h = h
rest_are_bytes (suc n) [] h = tt
rest_are_bytes (suc n) (x ∷ xs) h = rest_are_bytes n xs h.1

words_decide : (xs ys : List ℕ) → AreBytes xs → AreBytes ys → 8 ≤ length xs → 8 ≤ length ys →
    ordering_then (nat_cmp (from_be_bytes w64 (take 8 xs)) (from_be_bytes w64 (take 8 ys))) (order (drop 8 xs) (drop 8 ys)) ≡ order xs ys
words_decide xs ys f g p q =
    let one : length (take 8 xs) ≡ 8 = length-take-le 8 xs p in
    let other : length (take 8 ys) ≡ 8 = length-take-le 8 ys q in
    ap (λ o. ordering_then o (order (drop 8 xs) (drop 8 ys)))
    (ap (λ n. nat_cmp n (from_be_bytes w64 (take 8 ys))) (read_as_word (take 8 xs) one)
    ∙ ap (nat_cmp (big_endian 0 (take 8 xs))) (read_as_word (take 8 ys) other)
    ∙ stand_as_numbers 0 (take 8 xs) (take 8 ys) (omega arith) (first_are_bytes 8 xs f) (first_are_bytes 8 ys g))
    ∙ parted 8 xs ys p q

-- a byte string that is cut into a word and what is after it
pub record Cut (xs us ws : List ℕ) : Type 0 where
  pub bytes : AreBytes xs
  pub word : us ≡ take 8 xs
  pub following : ws ≡ drop 8 xs
  pub long : length ws + 8 ≡ length xs

cut_words_decide : (xs us ws ys vs zs : List ℕ) (n m : ℕ) → Cut xs us ws → Cut ys vs zs → n ≡ from_be_bytes w64 us → m ≡ from_be_bytes w64 vs →
    ordering_then (nat_cmp n m) (order ws zs) ≡ order xs ys
cut_words_decide xs us ws ys vs zs n m c d p q =
    let one : n ≡ from_be_bytes w64 (take 8 xs) = p ∙ ap (from_be_bytes w64) c.word in
    let other : m ≡ from_be_bytes w64 (take 8 ys) = q ∙ ap (from_be_bytes w64) d.word in
    ap (λ k. ordering_then (nat_cmp k m) (order ws zs)) one
    ∙ ap (λ k. ordering_then (nat_cmp (from_be_bytes w64 (take 8 xs)) k) (order ws zs)) other
    ∙ ap (λ l. ordering_then (nat_cmp (from_be_bytes w64 (take 8 xs)) (from_be_bytes w64 (take 8 ys))) (order l zs)) c.following
    ∙ ap (λ l. ordering_then (nat_cmp (from_be_bytes w64 (take 8 xs)) (from_be_bytes w64 (take 8 ys))) (order (drop 8 xs) l)) d.following
    ∙ words_decide xs ys c.bytes d.bytes (omega (arith, c.long)) (omega (arith, d.long))

pub rest_of_cut : (xs us ws : List ℕ) → Cut xs us ws → AreBytes ws
rest_of_cut xs us ws c = subst (λ (l : List ℕ). AreBytes l) (sym c.following) (rest_are_bytes 8 xs c.bytes)

pub same_words : (xs us ws ys vs zs : List ℕ) (n m : ℕ) → Cut xs us ws → Cut ys vs zs → n ≡ from_be_bytes w64 us → m ≡ from_be_bytes w64 vs →
    n ≡ m → order ws zs ≡ order xs ys
same_words xs us ws ys vs zs n m c d p q e = ap (λ o. ordering_then o (order ws zs)) (sym (level n m e)) ∙ cut_words_decide xs us ws ys vs zs n m c d p q

pub lesser_word : (xs us ws ys vs zs : List ℕ) (n m : ℕ) → Cut xs us ws → Cut ys vs zs → n ≡ from_be_bytes w64 us → m ≡ from_be_bytes w64 vs →
    n < m → Less ≡ order xs ys
lesser_word xs us ws ys vs zs n m c d p q l = ap (λ o. ordering_then o (order ws zs)) (sym (below n m l)) ∙ cut_words_decide xs us ws ys vs zs n m c d p q

pub greater_word : (xs us ws ys vs zs : List ℕ) (n m : ℕ) → Cut xs us ws → Cut ys vs zs → n ≡ from_be_bytes w64 us → m ≡ from_be_bytes w64 vs →
    m < n → Greater ≡ order xs ys
greater_word xs us ws ys vs zs n m c d p q l = ap (λ o. ordering_then o (order ws zs)) (sym (above n m l)) ∙ cut_words_decide xs us ws ys vs zs n m c d p q

-- ---- first words

-- after a smaller number the number stays smaller, whatever follows it
after_less : (k n m : ℕ) (us vs : List ℕ) → AreBytes us → n < m → word_after k n us < word_after k m vs
after_less zero n m us vs h l = l
after_less (suc k) n m [] [] h l = after_less k (n * 256) (m * 256) [] [] h (omega arith)
after_less (suc k) n m [] (v ∷ vs) h l = after_less k (n * 256) (m * 256 + v) [] vs h (omega arith)
after_less (suc k) n m (u ∷ us) [] h l = after_less k (n * 256 + u) (m * 256) us [] h.1 (omega (arith, h.0))
after_less (suc k) n m (u ∷ us) (v ∷ vs) h l = after_less k (n * 256 + u) (m * 256 + v) us vs h.1 (omega (arith, h.0))

-- a number with nothing after it is the least that begins with it
after_least : (k n m : ℕ) (vs : List ℕ) → n ≤ m → word_after k n [] ≤ word_after k m vs
after_least zero n m vs l = l
after_least (suc k) n m [] l = after_least k (n * 256) (m * 256) [] (omega arith)
after_least (suc k) n m (v ∷ vs) l = after_least k (n * 256) (m * 256 + v) vs (omega arith)

-- a lesser word means lesser bytes
pub words_tell_less : (k n : ℕ) (us vs : List ℕ) → AreBytes us → AreBytes vs → word_after k n us < word_after k n vs → order us vs ≡ Less
words_tell_less zero n us vs g h l = absurd (omega arith)
words_tell_less (suc k) n [] [] g h l = absurd (omega arith)
words_tell_less (suc k) n [] (v ∷ vs) g h l = refl
words_tell_less (suc k) n (u ∷ us) [] g h l = absurd (omega (arith, after_least k (n * 256) (n * 256 + u) us (omega arith)))
words_tell_less (suc k) n (u ∷ us) (v ∷ vs) g h l = by (words_tell_less k (n * 256 + u) us vs g.1 h.1) (nat_cmp u v) refl (ranks u v)
  where
    by : (word_after k (n * 256 + u) us < word_after k (n * 256 + u) vs → order us vs ≡ Less)
        → (o : Ordering) → nat_cmp u v ≡ o → MatchOrdering o (u < v) (u ≡ v) (v < u) → ordering_then (nat_cmp u v) (order us vs) ≡ Less
    by again Less p e = ap (λ o. ordering_then o (order us vs)) p
    by again Equal p e =
        let same : u ≡ v = e in
        let less : word_after k (n * 256 + u) us < word_after k (n * 256 + u) vs = subst (λ w. word_after k (n * 256 + u) us < word_after k (n * 256 + w) vs) (sym same) l in
        ap (λ o. ordering_then o (order us vs)) p ∙ again less
    by again Greater p e =
        let over : v < u = e in
        absurd (omega (arith, after_less k (n * 256 + v) (n * 256 + u) vs us h.1 (omega arith)))

-- each byte of a slice fits in eight bits
abbrev Fit : List ℕ → Type 0
Fit xs = (i : ℕ) → slice_index_or xs i 0 < 256

pub are_bytes : (xs : List ℕ) → Fit xs → AreBytes xs
are_bytes [] h = tt
are_bytes (x ∷ xs) h = (h 0, are_bytes xs (λ i. h (suc i)))

pub less_by_words : (n m : ℕ) (us vs : List ℕ) → IsWordOf n us → IsWordOf m vs → n < m → Less ≡ order us vs
less_by_words n m us vs g h l = sym (words_tell_less 8 0 us vs g.1 h.1 (omega (arith, g.0, h.0)))

pub greater_by_words : (n m : ℕ) (us vs : List ℕ) → IsWordOf n us → IsWordOf m vs → m < n → Greater ≡ order us vs
greater_by_words n m us vs g h l = sym (flipped_less vs us (words_tell_less 8 0 vs us h.1 g.1 (omega (arith, g.0, h.0))))
