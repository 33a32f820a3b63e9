-- The space in a log: bytes of frames, and comparisons of numbers.
use Rattle.std.specs.Prelude.{◌≡◌, ℕ, ◌+◌, ◌-◌, ◌*◌, ◌/◌, ◌^◌, ◌<◌, ◌≤◌, max, min, nat_lt, nat_le, sum_by, true, None, List, [], ◌∷◌, ◌++◌, length, map, Option, Some, IfSome}
use Rattle.std.proofs.Common.{refl, sym, ap, subst, ◌∙◌, ⊎_elim, arith, div-mul-le_self, div-lt_iff_lt-mul, eq-zero-or-pos, mul-le-mul}
use Rattle.std.proofs.lemmas.Bool.{cases_lt, lt-ltb, le-ltb, lt-leb, le-leb}
use Rattle.std.proofs.lemmas.List.Sums.{sum_by-cons, sum_by-append}
use Rattle.keys.specs.Limits.{first_bad_field}
use Rattle.keys.specs.declared.settings.Settings.{Settings}
use Rattle.mapping.specs.Levels.{contents}
use Rattle.mapping.specs.Tree.{Store, Tree}
use Rattle.frame_codec.specs.Frame.{Frame, bytes_of}
use Rattle.flush_log.specs.FlushText.{flush_frames}
use Rattle.flush_log.specs.Images.{frames_in, AreOfText}
use Rattle.flush_log.proofs.FitLemmas.{are_sized}
use Rattle.engine.specs.Room.{flush_bytes, is_bloated, is_overfull, is_two_thirds_full, is_worth, most_live, room_in, room_in_use, segments_in_use}
use Rattle.engine.specs.Tidied.{counted_pages}

-- ---- bytes of frames

-- how long these are together
abbrev pub lengths : List (List ℕ) → ℕ
lengths fs = sum_by (λ (f : List ℕ). length f) fs

-- one frame more
pub next-bytes : (total now : ℕ) (left rest : List (List ℕ)) (f : List ℕ) (whole : ℕ) → left ≡ f ∷ rest → min (total + lengths left) (2 ^ 64 - 1) ≡ whole → now ≡ min (total + length f) (2 ^ 64 - 1)
    → min (now + lengths rest) (2 ^ 64 - 1) ≡ whole
next-bytes total now left rest f whole is same next =
    let first = ap lengths is ∙ sum_by-cons (λ (f : List ℕ). length f) f rest in
    omega (arith, first, same, next)

-- one image more
pub next-image : (total now : ℕ) (left rest image : List (List ℕ)) (whole : ℕ) → left ≡ image ++ rest → min (total + lengths left) (2 ^ 64 - 1) ≡ whole → now ≡ min (total + lengths image) (2 ^ 64 - 1)
    → min (now + lengths rest) (2 ^ 64 - 1) ≡ whole
next-image total now left rest image whole is same next =
    let first = ap lengths is ∙ sum_by-append (λ (f : List ℕ). length f) image rest in
    omega (arith, first, same, next)

-- none is left
pub all-bytes : (total : ℕ) (left : List (List ℕ)) (whole : ℕ) → left ≡ [] → total ≤ 2 ^ 64 - 1 → min (total + lengths left) (2 ^ 64 - 1) ≡ whole → total ≡ whole
all-bytes total left whole none fits same =
    let nothing : lengths left ≡ 0 = ap lengths none in
    omega (arith, nothing, fits, same)

lengths-map : (fs : List Frame) → lengths (map (λ (f : Frame). bytes_of f) fs) ≡ sum_by (λ (f : Frame). length (bytes_of f)) fs
lengths-map [] = refl
lengths-map (f ∷ fs) =
    sum_by-cons (λ (b : List ℕ). length b) (bytes_of f) (map (λ (f : Frame). bytes_of f) fs)
    ∙ ap (λ (n : ℕ). length (bytes_of f) + n) (lengths-map fs)
    ∙ sym (sum_by-cons (λ (f : Frame). length (bytes_of f)) f fs)

-- ---- comparisons of numbers

pub same-test : (a b c d : ℕ) → (a < b → c < d) → (b ≤ a → d ≤ c) → nat_lt a b ≡ nat_lt c d
same-test a b c d up down = ⊎_elim (λ less. lt-ltb a b less ∙ sym (lt-ltb c d (up less))) (λ more. le-ltb a b more ∙ sym (le-ltb c d (down more))) (cases_lt a b)

same-most : (a b c d : ℕ) → (a ≤ b → c ≤ d) → (b < a → d < c) → nat_le a b ≡ nat_le c d
same-most a b c d up down = ⊎_elim (λ more. lt-leb a b more ∙ sym (lt-leb c d (down more))) (λ less. le-leb a b less ∙ sym (le-leb c d (up less))) (cases_lt b a)

-- the room that a log has is a small number
small-room : (s : Settings) (n : ℕ) → first_bad_field s ≡ None → n ≤ 65536 → room_in s n < 2 ^ 64 - 1
small-room s n good few =
    let size = (are_sized s good).most_size in
    let short : s.seg_size - 16 ≤ 1048576 = omega (arith, size) in
    let product : n * (s.seg_size - 16) ≤ 65536 * 1048576 = mul-le-mul few short in
    omega (arith, product)

-- whether the live bytes and the bytes of a flush are too many
pub overfull-by : (s : Settings) (st : Store) (images : List (List (List ℕ))) (live most total : ℕ) → AreOfText images (flush_frames st.version st.tree) → most ≡ most_live s → most < 2 ^ 64 - 1
    → total ≡ min (live + lengths (frames_in images)) (2 ^ 64 - 1) → nat_lt most total ≡ is_overfull s st live
overfull-by s st images live most total of is small sum =
    let bytes : lengths (frames_in images) ≡ flush_bytes st = ap lengths of ∙ lengths-map (flush_frames st.version st.tree) in
    same-test most total (most_live s) (live + flush_bytes st) (λ less. omega (arith, small, bytes, is, sum, less)) (λ more. omega (arith, small, bytes, is, sum, more))

-- whether the dead bytes are worth a row of cleans
pub worth-by : (s : Settings) (st : Store) (live count room least left : ℕ) → count ≡ segments_in_use s st → room ≡ room_in s count → least ≡ max s.seg_size (room / 16) → left ≡ room - live → nat_le least left ≡ is_worth s st live
worth-by s st live count room least left used is most dead =
    let whole : room ≡ room_in_use s st = is ∙ ap (λ (n : ℕ). room_in s n) used in
    ap (λ (n : ℕ). nat_le n left) (most ∙ ap (λ (n : ℕ). max s.seg_size (n / 16)) whole)
    ∙ ap (λ (n : ℕ). nat_le (max s.seg_size (room_in_use s st / 16)) n) (dead ∙ ap (λ (n : ℕ). n - live) whole)

-- ---- a bloated tree

-- fewer pairs than this number are few for the pages
pub few-pairs : (n pages height fan beyond product : ℕ) → beyond ≤ pages - 4 * height → product ≤ beyond * fan → n < product / 4 → 4 * n / fan + 4 * height < pages
few-pairs n pages height fan beyond product below less few =
    let whole = div-mul-le_self product 4 in
    let many : 4 * n < beyond * fan = omega (arith, whole, less, few) in
    let some : 0 < fan = ⊎_elim (λ zero. (let none = ap (λ (f : ℕ). beyond * f) zero in absurd (omega (arith, none, many)))) (λ some. some) (eq-zero-or-pos fan) in
    let quotient : 4 * n / fan < beyond = (div-lt_iff_lt-mul some).1 many in
    omega (arith, quotient, below)

-- a tree with so few pairs is bloated
pub bloated-by : (s : Settings) (t : Tree) (n most pages height : ℕ) → n ≡ length (contents t) → n < most → ((k : ℕ) → k < most → 4 * k / s.fan + 4 * height < pages) → pages ≡ counted_pages t → height ≡ t.height → is_bloated s t ≡ true
bloated-by s t n most pages height whole few bloats counted high =
    let less = bloats n few in
    let same : 4 * n / s.fan + 4 * height ≡ 4 * length (contents t) / s.fan + 4 * t.height = ap (λ (k : ℕ). 4 * k / s.fan + 4 * height) whole ∙ ap (λ (k : ℕ). 4 * length (contents t) / s.fan + 4 * k) high in
    lt-ltb (4 * length (contents t) / s.fan + 4 * t.height) (length t.pages) (omega (arith, same, less, counted))

pub of_some : {X : Type 0} (o : Option X) (x : X) (P : X → Type 0) → o ≡ Some x → IfSome o P → P x
of_some {X} o x P is h = subst (λ (q : Option X). IfSome q P) is h

pub if_same : {X : Type 0} (o : Option X) (x : X) (P : X → Type 0) → IfSome o (λ y. y ≡ x) → P x → IfSome o P
if_same (Some y) x P same p = subst P (sym same) p
if_same None x P same p = tt

pub two-thirds-by : (s : Settings) (st : Store) (used triple : ℕ) → first_bad_field s ≡ None → used ≡ segments_in_use s st → triple ≡ min (used * 3) (2 ^ 64 - 1) → nat_le (2 * s.segments) triple ≡ is_two_thirds_full s st
two-thirds-by s st used triple good is thrice =
    let few = (are_sized s good).most_count in
    same-most (2 * s.segments) triple (2 * s.segments) (3 * segments_in_use s st) (λ less. omega (arith, is, thrice, less, few)) (λ more. omega (arith, is, thrice, more, few))
