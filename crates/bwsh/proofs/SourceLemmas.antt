-- Lemmas on the source of a session's orders: the lines that it reads, and their orders.
use Rattle.std.proofs.Common.{◌≡◌, ◌≢◌, ◌≤◌, ◌<◌, ◌+◌, ◌-◌, ◌==◌, ◌&&◌, ◌||◌, inl, inr, ℕ, suc, length, take, take_all, drop, slice_index, Bool, true, false, cond, List, [], ◌∷◌, ◌++◌, map, filter, All, Option, Some, None, IfSome, option_to_list, Result, Ok, Err, IfOk, is_err, is_ok, nat_eq, refl, sym, ap, ◌∙◌, subst, append_assoc, append-nil, arith, lt-ltb, eqb-true, eq-eqb, le_refl, nat_lt, if◌then◌else◌}
use Rattle.std.specs.Bool.{then_some}
use Rattle.std.specs.Io.{StartsWith, StopsAt, IsEmptyOrEndsWith}
use Rattle.std.specs.Io.BufRead.{DropsConsumable, DropsThrough, drop_through, ends_with_byte, take_through}
use Rattle.std.specs.Io.KnownBytes.{Consumes, Keeps}
use Rattle.std.specs.Option.{option_eq}
use Rattle.std.specs.declared.alloc.Global.{Global}
use Rattle.std.proofs.BufReadLemmas.{Consumes_shown, drop_through-append, take_through-append, take_through-nil, through_part}
use Rattle.std.proofs.Transfers.{StopsAt-append}
use Rattle.std.proofs.lemmas.Bool.{eqb-false}
use Rattle.std.proofs.lemmas.List.Elements.{All-cons, All-nil, All-more}
use Rattle.bstr.specs.Find.{IsFirstByte, is_byte}
use Rattle.bstr.specs.Text.{last_byte_of, line_len, lines_of, without_terminator}
use Rattle.bstr.proofs.lemmas.LineLemmas.{line_len-at, line_len-bounds, line_len-none, lines-nil, lines-step}
use Rattle.keys.specs.declared.command.Command.{Command}
use Rattle.bwsh.specs.declared.line.Line.{Line}
use Rattle.bwsh.specs.declared.line.Line.TheVariants.{Bad, Blank, Go}
use Rattle.bwsh.specs.declared.line.Line.TheVariants as line_variants
use Rattle.bwsh.specs.declared.line.Why.{Why}
use Rattle.bwsh.specs.declared.line.Why.TheVariants.{TooManyRows}
use Rattle.bwsh.specs.declared.order.Bounds.{Bounds}
use Rattle.bwsh.specs.declared.order.Order.{Order}
use Rattle.bwsh.specs.declared.order.Order.TheVariants.{Batch, BadLine, Lost}
use Rattle.bwsh.specs.declared.source.Source.{Source}
use Rattle.bwsh.specs.BatchFile.{AreRead, IsLostAs, IsReadAs, Pending, asked, asks_too_much, is_over, is_too_long, or_over, over_order, parse_text}
use Rattle.bwsh.specs.BatchFile.Pending.{begun, skipped}
use Rattle.bwsh.specs.Line.{parse_line}
use Rattle.bwsh.specs.Source.{IsBatched, IsKept, IsNext, IsParsed, IsPushed, IsRead, IsSkipped, IsToCome, Orders, is_line, pending_of, to_come, unended}

-- ---- the first line of some bytes

-- it ends at the first line feed, or at the end of the bytes
pub line_len-found : (xs : List ℕ) (r : Option ℕ) (at : ℕ) → IsFirstByte (is_byte 10) xs r → r ≡ Some at → at + 1 ≡ line_len xs
line_len-found xs r at first e =
    let h = subst (λ (o : Option ℕ). IsFirstByte (is_byte 10) xs o) e first in
    sym (line_len-at xs at h.0.high (eqb-true (slice_index xs at) 10 h.1) (λ k below hit. h.0.before k (omega arith) below (eq-eqb (slice_index xs k) 10 hit)))

pub line_len-absent : (xs : List ℕ) (r : Option ℕ) → IsFirstByte (is_byte 10) xs r → r ≡ None → length xs ≡ line_len xs
line_len-absent xs r first e =
    let h = subst (λ (o : Option ℕ). IsFirstByte (is_byte 10) xs o) e first in
    sym (line_len-none xs (λ k below hit. h k (omega arith) below (eq-eqb (slice_index xs k) 10 hit)))

pub line_len-within : (xs : List ℕ) → line_len xs ≤ length xs
unfolding line_len
line_len-within [] = le_refl 0
line_len-within (x ∷ xs) = (line_len-bounds (x ∷ xs) (omega arith)).1

pub first_taken : (xs : List ℕ) → take (line_len xs) xs ≡ take_through 10 xs
unfolding line_len
first_taken [] = refl
first_taken (x ∷ xs) = go (x == 10) (first_taken xs)
  where
    go : (b : Bool) → take (line_len xs) xs ≡ take_through 10 xs → take (cond b 1 (suc (line_len xs))) (x ∷ xs) ≡ cond b (x ∷ []) (x ∷ take_through 10 xs)
    go true e = refl
    go false e = ap (λ (l : List ℕ). x ∷ l) e

first_dropped : (xs : List ℕ) → drop (line_len xs) xs ≡ drop_through 10 xs
unfolding line_len
first_dropped [] = refl
first_dropped (x ∷ xs) = go (x == 10) (first_dropped xs)
  where
    go : (b : Bool) → drop (line_len xs) xs ≡ drop_through 10 xs → drop (cond b 1 (suc (line_len xs))) (x ∷ xs) ≡ cond b xs (drop_through 10 xs)
    go true e = refl
    go false e = e

lines_of-first : (x : ℕ) (xs : List ℕ) → lines_of (x ∷ xs) ≡ take_through 10 (x ∷ xs) ∷ lines_of (drop_through 10 (x ∷ xs))
lines_of-first x xs =
    lines-step (x ∷ xs) (omega arith)
    ∙ ap (λ (l : List ℕ). l ∷ lines_of (drop (line_len (x ∷ xs)) (x ∷ xs))) (first_taken (x ∷ xs))
    ∙ ap (λ (l : List ℕ). take_through 10 (x ∷ xs) ∷ lines_of l) (first_dropped (x ∷ xs))

-- it is not empty if they are not
some_taken : (x : ℕ) (xs : List ℕ) → 0 < length (take_through 10 (x ∷ xs))
some_taken x xs = go (x == 10)
  where
    go : (b : Bool) → 0 < length (cond b (x ∷ []) (x ∷ take_through 10 xs))
    go true = omega arith
    go false = omega arith

-- no byte but its last is a line feed
pub StopsAt-first : (xs : List ℕ) → StopsAt (take_through 10 xs) 10
StopsAt-first [] = All-nil (λ x. x ≢ 10)
StopsAt-first (x ∷ xs) = go (x == 10) refl (StopsAt-first xs)
  where
    one : (x == 10) ≡ false → All (λ y. y ≢ 10) (x ∷ [])
    one other = All-cons (λ y. y ≢ 10) x [] (λ e. eqb-false x 10 other e) (All-nil (λ y. y ≢ 10))

    go : (b : Bool) → (x == 10) ≡ b → StopsAt (take_through 10 xs) 10 → StopsAt (cond b (x ∷ []) (x ∷ take_through 10 xs)) 10
    go true e later = All-nil (λ y. y ≢ 10)
    go false e later = StopsAt-append (x ∷ []) (take_through 10 xs) 10 (one e) later

-- ---- the last byte

pub never_some : {X : Type 0} (x : X) → None ≡ Some x → ⊥
never_some x e = cc

some_length : (x : ℕ) (xs : List ℕ) → nat_lt 0 (length (x ∷ xs)) ≡ true
some_length x xs = lt-ltb 0 (length (x ∷ xs)) (omega arith)

last_byte-some : (x : ℕ) (xs : List ℕ) → last_byte_of (x ∷ xs) ≡ Some (slice_index (x ∷ xs) (length (x ∷ xs) - 1))
last_byte-some x xs = ap (λ (b : Bool). cond b (Some (slice_index (x ∷ xs) (length (x ∷ xs) - 1))) None) (some_length x xs)

pub last_byte-none : (xs : List ℕ) → last_byte_of xs ≡ None → xs ≡ []
last_byte-none [] none = refl
last_byte-none (x ∷ xs) none = let bad : Some (slice_index (x ∷ xs) (length (x ∷ xs) - 1)) ≡ None = sym (last_byte-some x xs) ∙ none in absurd (cc)

-- the last byte after an append is the last appended byte
last_place : (x y : ℕ) (ys : List ℕ) → slice_index (x ∷ y ∷ ys) (length (x ∷ y ∷ ys) - 1) ≡ slice_index (y ∷ ys) (length (y ∷ ys) - 1)
last_place x y ys =
    let place : length (x ∷ y ∷ ys) - 1 ≡ suc (length (y ∷ ys) - 1) = omega arith in
    ap (λ (k : ℕ). slice_index (x ∷ y ∷ ys) k) place

last_byte-more : (x y : ℕ) (ys : List ℕ) → last_byte_of (x ∷ y ∷ ys) ≡ last_byte_of (y ∷ ys)
last_byte-more x y ys = last_byte-some x (y ∷ ys) ∙ ap (λ (k : ℕ). Some k) (last_place x y ys) ∙ sym (last_byte-some y ys)

last_byte-after : (x y : ℕ) (xs ys : List ℕ) → last_byte_of (x ∷ xs ++ y ∷ ys) ≡ last_byte_of (xs ++ y ∷ ys)
last_byte-after x y [] ys = last_byte-more x y ys
last_byte-after x y (z ∷ zs) ys = last_byte-more x z (zs ++ y ∷ ys)

pub last_byte-append : (xs ys : List ℕ) (b : ℕ) → Some b ≡ last_byte_of ys → Some b ≡ last_byte_of (xs ++ ys)
last_byte-append xs [] b is = absurd (never_some b (sym is))
last_byte-append [] (y ∷ ys) b is = is
last_byte-append (x ∷ xs) (y ∷ ys) b is = last_byte-append xs (y ∷ ys) b is ∙ sym (last_byte-after x y xs ys)

-- bytes end with a line feed or contain none
pub ends_with : (xs : List ℕ) → last_byte_of xs ≡ Some 10 → IsEmptyOrEndsWith xs 10
ends_with [] is some = absurd (omega arith)
ends_with (x ∷ xs) is some = let e : Some (slice_index (x ∷ xs) (length (x ∷ xs) - 1)) ≡ Some 10 = sym (last_byte-some x xs) ∙ is in cc

pub none_inside : (xs : List ℕ) → StopsAt xs 10 → last_byte_of xs ≢ Some 10 → All (λ x. x ≢ 10) xs
none_inside [] stops other = All-nil (λ x. x ≢ 10)
none_inside (x ∷ xs) stops other =
    let l : List ℕ = x ∷ xs in
    subst (All (λ y. y ≢ 10)) (take_all (length l - 1 + 1) l (omega arith))
    (All-more (λ y. y ≢ 10) l (length l - 1) 0 (omega arith) stops (λ e. other (last_byte-some x xs ∙ ap (λ (k : ℕ). Some k) e)))

-- ---- whether bytes are a line

line_stream : (b : Bool) (x : ℕ) → is_line true (cond b (Some x) None) ≡ (b && (x == 10))
line_stream true x = refl
line_stream false x = refl

line_text : (b : Bool) (x : ℕ) → is_line false (cond b (Some x) None) ≡ b
line_text true x = refl
line_text false x = refl

is_line-stream : (xs : List ℕ) → is_line true (last_byte_of xs) ≡ ends_with_byte 10 xs
is_line-stream xs = line_stream (nat_lt 0 (length xs)) (slice_index xs (length xs - 1))

is_line-text : (x : ℕ) (xs : List ℕ) → is_line false (last_byte_of (take_through 10 (x ∷ xs))) ≡ true
is_line-text x xs =
    let first : List ℕ = take_through 10 (x ∷ xs) in
    line_text (nat_lt 0 (length first)) (slice_index first (length first - 1)) ∙ lt-ltb 0 (length first) (some_taken x xs)

ends_after : (x : ℕ) (xs : List ℕ) → 0 < length xs → ends_with_byte 10 (x ∷ xs) ≡ ends_with_byte 10 xs
ends_after x [] some = absurd (omega arith)
ends_after x (y ∷ ys) some =
    sym (is_line-stream (x ∷ y ∷ ys)) ∙ ap (λ (o : Option ℕ). is_line true o) (last_byte-more x y ys) ∙ is_line-stream (y ∷ ys)

-- all was read if the part that was read doesn't end with a line feed
none_after : (xs : List ℕ) → ends_with_byte 10 (take_through 10 xs) ≡ false → drop_through 10 xs ≡ []
none_after [] open_end = refl
none_after (x ∷ xs) open_end = go (x == 10) refl open_end (none_after xs)
  where
    last : (ys : List ℕ) → ends_with_byte 10 (x ∷ take_through 10 ys) ≡ false → (ends_with_byte 10 (take_through 10 ys) ≡ false → drop_through 10 ys ≡ []) → drop_through 10 ys ≡ []
    last [] e later = refl
    last (y ∷ ys) e later = later (sym (ends_after x (take_through 10 (y ∷ ys)) (some_taken y ys)) ∙ e)

    go : (b : Bool) → (x == 10) ≡ b → ends_with_byte 10 (cond b (x ∷ []) (x ∷ take_through 10 xs)) ≡ false
        → (ends_with_byte 10 (take_through 10 xs) ≡ false → drop_through 10 xs ≡ []) → cond b xs (drop_through 10 xs) ≡ []
    go true e h later =
        let hit : ends_with_byte 10 (x ∷ []) ≡ true = ap (λ (b : Bool). b && (x == 10)) (some_length x []) ∙ e in
        let bad : true ≡ false = sym hit ∙ h in
        absurd (cc)
    go false e h later = last xs h later

-- ---- the lines of a text

-- the line of a part of it
abbrev said : Bool → List ℕ → Line
said stream piece = parse_line stream (without_terminator piece)

parse_text-line : (stream : Bool) (text : List ℕ) → is_line stream (last_byte_of (take_through 10 text)) ≡ true
    → parse_text stream text ≡ parse_line stream (without_terminator (take_through 10 text)) ∷ parse_text stream (drop_through 10 text)
parse_text-line false [] is = absurd (cc)
parse_text-line true [] is = absurd (cc)
parse_text-line false (x ∷ xs) is = ap (λ (ls : List (List ℕ)). map (said false) ls) (lines_of-first x xs)
parse_text-line true (x ∷ xs) is =
    let first : List ℕ = take_through 10 (x ∷ xs) in
    let others : List (List ℕ) = filter (ends_with_byte 10) (lines_of (drop_through 10 (x ∷ xs))) in
    let whole : ends_with_byte 10 first ≡ true = sym (is_line-stream first) ∙ is in
    ap (λ (ls : List (List ℕ)). map (said true) (filter (ends_with_byte 10) ls)) (lines_of-first x xs)
    ∙ ap (λ (b : Bool). map (said true) (cond b (first ∷ others) others)) whole

no_lines : (stream : Bool) → parse_text stream [] ≡ []
no_lines false = ap (λ (ls : List (List ℕ)). map (said false) ls) lines-nil
no_lines true = ap (λ (ls : List (List ℕ)). map (said true) (filter (ends_with_byte 10) ls)) lines-nil

parse_text-none : (stream : Bool) (text : List ℕ) → is_line stream (last_byte_of (take_through 10 text)) ≡ false → parse_text stream text ≡ []
parse_text-none stream [] none = no_lines stream
parse_text-none false (x ∷ xs) none = let bad : true ≡ false = sym (is_line-text x xs) ∙ none in absurd (cc)
parse_text-none true (x ∷ xs) none =
    let first : List ℕ = take_through 10 (x ∷ xs) in
    let others : List (List ℕ) = filter (ends_with_byte 10) (lines_of (drop_through 10 (x ∷ xs))) in
    let open_end : ends_with_byte 10 first ≡ false = sym (is_line-stream first) ∙ none in
    ap (λ (ls : List (List ℕ)). map (said true) (filter (ends_with_byte 10) ls)) (lines_of-first x xs)
    ∙ ap (λ (b : Bool). map (said true) (cond b (first ∷ others) others)) open_end
    ∙ ap (λ (rest : List ℕ). parse_text true rest) (none_after (x ∷ xs) open_end)
    ∙ no_lines true

-- ---- a line that is read

IsRead-known : (stream : Bool) (text : List ℕ) (left : Option (List ℕ)) (line : Option Line) → left ≡ Some (drop_through 10 text)
    → IsParsed stream (take_through 10 text) line → IsRead stream (Some text) left line
IsRead-known stream text left None is none = parse_text-none stream text none
IsRead-known stream text left (Some line) is parsed =
    (parse_line stream (without_terminator (take_through 10 text)), drop_through 10 text, is, parse_text-line stream text parsed.0, parsed.1)

IsRead-unknown : (stream : Bool) (left : Option (List ℕ)) (line : Option Line) → IsRead stream None left line
IsRead-unknown stream left None = tt
IsRead-unknown stream left (Some line) = tt

-- it was read completely, from its first byte
pub IsRead-whole : (stream : Bool) (known left : Option (List ℕ)) (before bytes : List ℕ) (line : Option Line) → before ≡ []
    → IfSome known (λ xs. bytes ≡ before ++ take_through 10 xs) → DropsThrough known left 10 → IsParsed stream bytes line → IsRead stream known left line
IsRead-whole stream None left before bytes line none is rest parsed = IsRead-unknown stream left line
IsRead-whole stream (Some text) left before bytes line none is rest parsed =
    let all : bytes ≡ take_through 10 text = is ∙ ap (λ (l : List ℕ). l ++ take_through 10 text) none in
    IsRead-known stream text left line rest (subst (λ (l : List ℕ). IsParsed stream l line) all parsed)

-- it was lost after some of its bytes were read
IsRead-lost : (stream : Bool) (known mid left : Option (List ℕ)) (bytes : List ℕ) (line : Option Line) → Consumes known mid bytes
    → IfSome mid (λ xs. IsParsed stream (take_through 10 (bytes ++ xs)) line × (left ≡ Some (drop_through 10 (bytes ++ xs)))) → IsRead stream known left line
IsRead-lost stream None mid left bytes line read lost = IsRead-unknown stream left line
IsRead-lost stream (Some text) None left bytes line read lost = absurd read
IsRead-lost stream (Some text) (Some xs) left bytes line read lost =
    subst (λ (l : List ℕ). IsRead stream (Some l) left line) (sym read) (IsRead-known stream (bytes ++ xs) left line lost.1 lost.0)

-- it was parsed
pub IsParsed-some : (stream : Bool) (text bytes : List ℕ) (last : Option ℕ) (b : Bool) (line : Line) → b ≡ is_line stream last → last ≡ last_byte_of text → b ≡ true
    → bytes ≡ without_terminator text → IsReadAs stream (parse_line stream bytes) line → IsParsed stream text (Some line)
IsParsed-some stream text bytes last b line is ends holds inner parsed = (
  sym (is ∙ ap (λ (o : Option ℕ). is_line stream o) ends) ∙ holds,
  subst (λ (l : List ℕ). IsReadAs stream (parse_line stream l) line) inner parsed,
)

pub IsParsed-none : (stream : Bool) (text : List ℕ) (last : Option ℕ) (b : Bool) → b ≡ is_line stream last → last ≡ last_byte_of text → b ≡ false → IsParsed stream text None
IsParsed-none stream text last b is ends fails = sym (is ∙ ap (λ (o : Option ℕ). is_line stream o) ends) ∙ fails

-- ---- the rest of a line

-- the next bytes were buffered, and those of the line were skipped
pub IsSkipped-shown : (known mid left : Option (List ℕ)) (buffered : Option ℕ) (shown : List ℕ) (len : ℕ) (last : Option ℕ) → len ≡ line_len shown
    → IfSome known (λ xs. StartsWith xs shown) → IfSome known (λ xs. length shown ≡ 0 → xs ≡ []) → Keeps known mid
    → IfSome known (λ _. IfSome buffered (λ k. length shown ≤ k)) → DropsConsumable mid left buffered len → last ≡ last_byte_of (take len shown) → IsSkipped known left last
IsSkipped-shown known mid left buffered shown len last is front end kept fits drops ends =
    let within : len ≤ length shown = subst (λ (n : ℕ). n ≤ length shown) (sym is) (line_len-within shown) in
    let first : take len shown ≡ take_through 10 shown = ap (λ (n : ℕ). take n shown) is ∙ first_taken shown in
    let moved = Consumes_shown known mid left buffered shown len within front end kept fits drops in (
      take len shown,
      moved.0,
      subst (λ (l : List ℕ). StopsAt l 10) (sym first) (StopsAt-first shown),
      ends,
      λ none.
          let nothing : take_through 10 shown ≡ [] = sym first ∙ last_byte-none (take len shown) (sym ends ∙ none) in
          let empty : shown ≡ [] = take_through-nil 10 shown (ap (λ (l : List ℕ). length l) nothing) in
          moved.1 (ap (λ (l : List ℕ). length l) empty),
    )

-- a text was extended by this part, unless an allocation failed
pub extended_by : {X E : Type 0} (r : Result X E) (b : Bool) (old part new : List ℕ) → b ≡ is_err r → b ≡ false → new ≡ (if is_ok r then old ++ part else old) → new ≡ old ++ part
extended_by (Ok x) b old part new is fails extended = extended
extended_by (Err e) b old part new is fails extended = let bad : true ≡ false = sym is ∙ fails in absurd (cc)

-- the same bytes were appended to a text
pub IsPushed-shown : (known mid left : Option (List ℕ)) (buffered : Option ℕ) (shown old new : List ℕ) (len : ℕ) (last : Option ℕ) → new ≡ old ++ take len shown → len ≡ line_len shown
    → IfSome known (λ xs. StartsWith xs shown) → IfSome known (λ xs. length shown ≡ 0 → xs ≡ []) → Keeps known mid
    → IfSome known (λ _. IfSome buffered (λ k. length shown ≤ k)) → DropsConsumable mid left buffered len → last ≡ last_byte_of (take len shown) → IsPushed known left old new last
IsPushed-shown known mid left buffered shown old new len last appended is front end kept fits drops ends =
    let within : len ≤ length shown = subst (λ (n : ℕ). n ≤ length shown) (sym is) (line_len-within shown) in
    let first : take len shown ≡ take_through 10 shown = ap (λ (n : ℕ). take n shown) is ∙ first_taken shown in
    let moved = Consumes_shown known mid left buffered shown len within front end kept fits drops in (
      take len shown,
      appended,
      moved.0,
      subst (λ (l : List ℕ). StopsAt l 10) (sym first) (StopsAt-first shown),
      ends,
      λ none.
          let nothing : take_through 10 shown ≡ [] = sym first ∙ last_byte-none (take len shown) (sym ends ∙ none) in
          let empty : shown ≡ [] = take_through-nil 10 shown (ap (λ (l : List ℕ). length l) nothing) in
          moved.1 (ap (λ (l : List ℕ). length l) empty),
    )

-- a byte is a line feed, or isn't
pub is_feed : (byte : Option ℕ) (b : Bool) → b ≡ option_eq nat_eq byte (Some 10) → b ≡ true → byte ≡ Some 10
is_feed None b is holds = let bad : false ≡ true = sym is ∙ holds in absurd (cc)
is_feed (Some x) b is holds = ap (λ (n : ℕ). Some n) (eqb-true x 10 (sym is ∙ holds))

pub no_feed : (byte : Option ℕ) (b : Bool) → b ≡ option_eq nat_eq byte (Some 10) → b ≡ false → byte ≢ Some 10
no_feed byte b is fails feed =
    let hit : b ≡ true = is ∙ ap (λ (o : Option ℕ). option_eq nat_eq o (Some 10)) feed ∙ eq-eqb 10 10 refl in
    let bad : true ≡ false = sym hit ∙ fails in
    cc

-- after these bytes of a line others were skipped, and this is the last byte
abbrev pub Skips : Option (List ℕ) → Option (List ℕ) → List ℕ → Option ℕ → Type 0
Skips known now read last =
    IfSome known (λ left. (part : List ℕ) × (rest : List ℕ) × (now ≡ Some rest) × StopsAt part 10 × (last ≡ last_byte_of part) × (read ++ left ≡ part ++ rest))

pub Skips-none : (known : Option (List ℕ)) (read : List ℕ) (last : Option ℕ) → StopsAt read 10 → last ≡ last_byte_of read → Skips known known read last
Skips-none None read last stops is = tt
Skips-none (Some left) read last stops is = (read, left, refl, stops, is, refl)

pub Skips-more : (known mid left : Option (List ℕ)) (read : List ℕ) (last : Option ℕ) (byte : ℕ) → Skips known mid read last → last ≢ Some 10
    → IsSkipped mid left (Some byte) → Skips known left read (Some byte)
Skips-more None mid left read last byte before open_end more = tt
Skips-more (Some xs) None left read last byte (part, rest, is, stops, ends, whole) open_end more = absurd (cc)
Skips-more (Some xs) (Some ys) None read last byte before open_end (bytes, taken, later_stops, later_ends, end) = absurd taken
Skips-more (Some xs) (Some ys) (Some zs) read last byte (part, rest, is, stops, ends, whole) open_end (bytes, taken, later_stops, later_ends, end) = (
  part ++ bytes,
  zs,
  refl,
  StopsAt-append part bytes 10 (none_inside part stops (λ e. open_end (ends ∙ e))) later_stops,
  last_byte-append part bytes byte later_ends,
  let same : rest ≡ ys = cc in
      whole ∙ ap (λ (l : List ℕ). part ++ l) (same ∙ taken) ∙ sym (append_assoc part bytes zs),
)

-- the line was skipped to its end
abbrev pub IsSkippedWhole : Option (List ℕ) → Option (List ℕ) → List ℕ → Option ℕ → Type 0
IsSkippedWhole known now read last =
    IfSome known (λ left. (last ≡ last_byte_of (take_through 10 (read ++ left))) × (now ≡ Some (drop_through 10 (read ++ left))))

through : (whole part rest : List ℕ) (last : Option ℕ) (now : Option (List ℕ)) → whole ≡ part ++ rest → take_through 10 (part ++ rest) ≡ part → last ≡ last_byte_of part
    → now ≡ Some (drop_through 10 (part ++ rest)) → (last ≡ last_byte_of (take_through 10 whole)) × (now ≡ Some (drop_through 10 whole))
through whole part rest last now is taken ends left = (
  ends ∙ ap last_byte_of (sym (ap (take_through 10) is ∙ taken)),
  left ∙ ap (λ (l : List ℕ). Some (drop_through 10 l)) (sym is),
)

pub Skips-ended : (known now : Option (List ℕ)) (read : List ℕ) (last : Option ℕ) → Skips known now read last → last ≡ Some 10 → IsSkippedWhole known now read last
Skips-ended None now read last before end = tt
Skips-ended (Some xs) now read last (part, rest, is, stops, ends, whole) end =
    let feed : last_byte_of part ≡ Some 10 = sym ends ∙ end in
    let never : length part ≡ 0 → rest ≡ [] = λ none. absurd (empty_ends part none feed) in
    let both = through_part 10 part rest stops (ends_with part feed) never in
    through (read ++ xs) part rest last now whole both.0 ends (is ∙ ap (λ (l : List ℕ). Some l) (sym both.1))
  where
    empty_ends : (bytes : List ℕ) → length bytes ≡ 0 → last_byte_of bytes ≡ Some 10 → ⊥
    empty_ends [] none feed = never_some 10 feed
    empty_ends (b ∷ bs) none feed = omega arith

pub Skips-at_end : (known mid left : Option (List ℕ)) (read : List ℕ) (last : Option ℕ) → Skips known mid read last → last ≢ Some 10
    → IsSkipped mid left None → IsSkippedWhole known left read last
Skips-at_end None mid left read last before open_end more = tt
Skips-at_end (Some xs) None left read last (part, rest, is, stops, ends, whole) open_end more = absurd (cc)
Skips-at_end (Some xs) (Some ys) None read last before open_end (bytes, taken, later_stops, later_ends, end) = absurd taken
Skips-at_end (Some xs) (Some ys) (Some zs) read last (part, rest, is, stops, ends, whole) open_end (bytes, taken, later_stops, later_ends, end) =
    let nothing : bytes ≡ [] = last_byte-none bytes (sym later_ends) in
    let all_read : zs ≡ [] = end refl in
    let none_left : ys ≡ [] = taken ∙ ap (λ (l : List ℕ). l ++ zs) nothing ∙ all_read in
    let same : rest ≡ ys = cc in
    let inside : All (λ x. x ≢ 10) part = none_inside part stops (λ e. open_end (ends ∙ e)) in
    through (read ++ xs) part [] last (Some zs) (whole ∙ ap (λ (l : List ℕ). part ++ l) (same ∙ none_left))
    (take_through-append 10 part [] inside ∙ append-nil part) ends
    (ap (λ (l : List ℕ). Some l) (all_read ∙ sym (drop_through-append 10 part [] inside)))

-- any line of a text can be lost
lost_in_text : (stream : Bool) (said : Line) → stream ≡ false → IsLostAs stream said line_variants.Lost
lost_in_text true said e = absurd (cc)
lost_in_text false said e = refl

-- if there was a line of a text, it was lost
pub IsParsed-lost : (stream : Bool) → stream ≡ false → (known left : Option (List ℕ)) (read : List ℕ) (last : Option ℕ) (b : Bool) (line : Option Line) → IsSkippedWhole known left read last
    → b ≡ is_line stream last → line ≡ then_some b line_variants.Lost
    → IfSome known (λ xs. IsParsed stream (take_through 10 (read ++ xs)) line × (left ≡ Some (drop_through 10 (read ++ xs))))
IsParsed-lost stream no_stream None left read last b line skipped_whole is line_is = tt
IsParsed-lost stream no_stream (Some xs) left read last b line (ends, left_is) is line_is =
    (subst (λ (o : Option Line). IsParsed stream (take_through 10 (read ++ xs)) o) (sym line_is) (by b (is ∙ ap (λ (o : Option ℕ). is_line stream o) ends)), left_is)
  where
    by : (b : Bool) → b ≡ is_line stream (last_byte_of (take_through 10 (read ++ xs))) → IsParsed stream (take_through 10 (read ++ xs)) (then_some b line_variants.Lost)
    by true e = (sym e, inr (lost_in_text stream (parse_line stream (without_terminator (take_through 10 (read ++ xs)))) no_stream))
    by false e = sym e

-- the line that was read is such a line
pub IsRead-skipped : {E : Type 0} (stream : Bool) (known mid left : Option (List ℕ)) (before bytes : List ℕ) (r : Result (Option Line) E) → before ≡ []
    → Consumes known mid (drop (length before) bytes)
    → IfOk r (λ line. IfSome mid (λ xs. IsParsed stream (take_through 10 (bytes ++ xs)) line × (left ≡ Some (drop_through 10 (bytes ++ xs))))) → IfOk r (IsRead stream known left)
IsRead-skipped stream known mid left before bytes (Err e) none read lost = tt
IsRead-skipped stream known mid left before bytes (Ok line) none read lost =
    IsRead-lost stream known mid left bytes line (subst (λ (l : List ℕ). Consumes known mid (drop (length l) bytes)) none read) lost

-- this holds of the value of a call that succeeds
pub ok_has : {X E : Type 0} (r : Result X E) (b : Bool) (P : X → Type 0) → b ≡ is_err r → b ≡ false → IfOk r P → (x : X) × P x
ok_has (Ok x) b P is fails p = (x, p)
ok_has (Err e) b P is fails p = let bad : true ≡ false = sym is ∙ fails in absurd (cc)

-- ---- the orders of a line, before others

line_order : (bounds : Bounds) (n : ℕ) (pending : Pending) (order : Order) (rest : List Line)
    → asked bounds n pending (line_variants.Order order ∷ rest) ≡ unended pending ++ (order ∷ asked bounds (n + 1) (begun []) rest)
line_order bounds n (begun cs) order rest = refl
line_order bounds n skipped order rest = refl

-- a line is answered at once, and discards its batch
abbrev Discards : Bounds → ℕ → Line → Order → Type 0
Discards bounds n line answer =
    (is_discarded : Bool) (cs : List (Command Global)) (rest : List Line) → asked bounds n (if is_discarded then skipped else begun cs) (line ∷ rest)
    ≡ option_to_list (if is_discarded then None else Some answer) ++ asked bounds (n + 1) skipped rest

Discards-bad : (bounds : Bounds) (n : ℕ) (why : Why) → Discards bounds n (Bad why) (BadLine n why)
Discards-bad bounds n why true cs rest = refl
Discards-bad bounds n why false cs rest = refl

Discards-lost : (bounds : Bounds) (n : ℕ) → Discards bounds n line_variants.Lost Lost
Discards-lost bounds n true cs rest = refl
Discards-lost bounds n false cs rest = refl

-- a command can be lost
lost_command : (stream : Bool) (command : Command Global) → IsReadAs stream (line_variants.Command command) line_variants.Lost
lost_command true command = inr refl
lost_command false command = inr refl

module _ {I : Type 0} (old new : Source I) where
  Orders-by : (line got : Line) (order : Option Order) (after : Pending) → IsReadAs old.bounds.is_stream line got → new.queued ≡ None → pending_of new ≡ after
      → ((rest : List Line) → asked old.bounds old.number (pending_of old) (got ∷ rest) ≡ option_to_list order ++ asked old.bounds (old.number + 1) after rest)
      → Orders old new line order
  Orders-by line got order after either none is h = (
    got,
    either,
    λ rest.
        let later : Pending → List Order = λ pending. asked old.bounds (old.number + 1) pending rest in
        h rest
        ∙ ap (λ (pending : Pending). option_to_list order ++ later pending) (sym is)
        ∙ ap (λ (queued : Option Order). option_to_list order ++ (option_to_list queued ++ later (pending_of new))) (sym none),
  )

  pub Orders-order : (asked_for : Order) (order : Option Order) → option_to_list order ++ option_to_list new.queued ≡ unended (pending_of old) ++ (asked_for ∷ [])
      → pending_of new ≡ begun [] → Orders old new (line_variants.Order asked_for) order
  Orders-order asked_for order is after = (
    line_variants.Order asked_for,
    inl refl,
    λ rest.
        let later : List Order = asked old.bounds (old.number + 1) (begun []) rest in
        line_order old.bounds old.number (pending_of old) asked_for rest
        ∙ sym (append_assoc (unended (pending_of old)) (asked_for ∷ []) later)
        ∙ ap (λ (orders : List Order). orders ++ later) (sym is)
        ∙ append_assoc (option_to_list order) (option_to_list new.queued) later
        ∙ ap (λ (pending : Pending). option_to_list order ++ (option_to_list new.queued ++ asked old.bounds (old.number + 1) pending rest)) (sym after),
  )

  Orders-discarded : (line got : Line) (answer : Order) (order : Option Order) → IsReadAs old.bounds.is_stream line got → Discards old.bounds old.number got answer
      → order ≡ (if old.is_discarded then None else Some answer) → pending_of new ≡ skipped → new.queued ≡ None → Orders old new line order
  Orders-discarded line got answer order either discards is after none =
      Orders-by line got order skipped either none after (λ rest.
      discards old.is_discarded old.batch rest
      ∙ ap (λ (o : Option Order). option_to_list o ++ asked old.bounds (old.number + 1) skipped rest) (sym is))

  pub Orders-bad : (why : Why) (order : Option Order) → order ≡ (if old.is_discarded then None else Some (BadLine old.number why)) → pending_of new ≡ skipped
      → new.queued ≡ None → Orders old new (Bad why) order
  Orders-bad why order = Orders-discarded (Bad why) (Bad why) (BadLine old.number why) order (inl refl) (Discards-bad old.bounds old.number why)

  Orders-lost : (line : Line) (order : Option Order) → IsReadAs old.bounds.is_stream line line_variants.Lost → order ≡ (if old.is_discarded then None else Some Lost)
      → pending_of new ≡ skipped → new.queued ≡ None → Orders old new line order
  Orders-lost line order read = Orders-discarded line line_variants.Lost Lost order read (Discards-lost old.bounds old.number)

  -- an allocation fails for a command
  pub Orders-lost_command : (command : Command Global) (order : Option Order) → order ≡ (if old.is_discarded then None else Some Lost) → pending_of new ≡ skipped
      → new.queued ≡ None → Orders old new (line_variants.Command command) order
  Orders-lost_command command order = Orders-lost (line_variants.Command command) order (lost_command old.bounds.is_stream command)

  -- or for a line that may be a command
  pub Orders-lost_line : (order : Option Order) → order ≡ (if old.is_discarded then None else Some Lost) → pending_of new ≡ skipped
      → new.queued ≡ None → Orders old new line_variants.Lost order
  Orders-lost_line order = Orders-lost line_variants.Lost order (inl refl)

  -- a command makes its batch exceed a bound
  Orders-over : (command : Command Global) (batch : List (Command Global)) (order : Option Order) (answer : Order) → old.is_discarded ≡ false → batch ≡ old.batch ++ command ∷ []
      → over_order old.bounds old.number batch ≡ answer → order ≡ Some answer → is_over old.bounds batch ≡ true → pending_of new ≡ skipped → new.queued ≡ None
      → Orders old new (line_variants.Command command) order
  Orders-over command batch order answer not_yet is answers ordered over after none =
      let line : Line = line_variants.Command command in
      Orders-by line line order skipped (inl refl) none after (λ rest.
      let next : Pending → List Order = λ pending. asked old.bounds (old.number + 1) pending rest in
      ap (λ (b : Bool). asked old.bounds old.number (if b then skipped else begun old.batch) (line ∷ rest)) not_yet
      ∙ ap (λ (cs : List (Command Global)). or_over old.bounds old.number cs next) (sym is)
      ∙ ap (λ (b : Bool). if b then over_order old.bounds old.number batch ∷ next skipped else next (begun batch)) over
      ∙ ap (λ (first : Order). first ∷ next skipped) answers
      ∙ ap (λ (o : Option Order). option_to_list o ++ next skipped) (sym ordered))

  -- the line asks for too many rows
  pub Orders-too_many : (command : Command Global) (batch : List (Command Global)) (order : Option Order) → old.is_discarded ≡ false → batch ≡ old.batch ++ command ∷ []
      → order ≡ (if old.is_discarded then None else Some (BadLine old.number TooManyRows)) → asks_too_much old.bounds batch ≡ true → pending_of new ≡ skipped → new.queued ≡ None
      → Orders old new (line_variants.Command command) order
  Orders-too_many command batch order not_yet is answer many =
      let bad : Order = BadLine old.number TooManyRows in
      Orders-over command batch order bad not_yet is (ap (λ (b : Bool). if b then bad else Batch batch) many)
      (answer ∙ ap (λ (b : Bool). if b then None else Some bad) not_yet) (ap (λ (b : Bool). b || is_too_long old.bounds batch) many)

  -- the batch is too long
  pub Orders-too_long : (command : Command Global) (batch : List (Command Global)) (order : Option Order) → old.is_discarded ≡ false → batch ≡ old.batch ++ command ∷ []
      → order ≡ (if old.is_discarded then None else Some (Batch batch)) → asks_too_much old.bounds batch ≡ false → is_too_long old.bounds batch ≡ true → pending_of new ≡ skipped
      → new.queued ≡ None → Orders old new (line_variants.Command command) order
  Orders-too_long command batch order not_yet is answer few long =
      Orders-over command batch order (Batch batch) not_yet is (ap (λ (b : Bool). if b then BadLine old.number TooManyRows else Batch batch) few)
      (answer ∙ ap (λ (b : Bool). if b then None else Some (Batch batch)) not_yet)
      (ap (λ (b : Bool). b || is_too_long old.bounds batch) few ∙ long)

-- a command is one of a batch that is begun
pub Orders-command : {I : Type 0} (old : Source I) (command : Command Global) (batch : List (Command Global)) → old.queued ≡ None → old.is_discarded ≡ false
    → batch ≡ old.batch ++ command ∷ [] → asks_too_much old.bounds batch ≡ false → is_too_long old.bounds batch ≡ false
    → Orders old (record old { batch = batch }) (line_variants.Command command) None
Orders-command old command batch none not_yet is few short =
    let line : Line = line_variants.Command command in
    let within : is_over old.bounds batch ≡ false = ap (λ (b : Bool). b || is_too_long old.bounds batch) few ∙ short in
    Orders-by old (record old { batch = batch }) line line None (begun batch) (inl refl) none (ap (λ (b : Bool). if b then skipped else begun batch) not_yet) (λ rest.
    let next : Pending → List Order = λ pending. asked old.bounds (old.number + 1) pending rest in
    ap (λ (b : Bool). asked old.bounds old.number (if b then skipped else begun old.batch) (line ∷ rest)) not_yet
    ∙ ap (λ (cs : List (Command Global)). or_over old.bounds old.number cs next) (sym is)
    ∙ ap (λ (b : Bool). if b then over_order old.bounds old.number batch ∷ next skipped else next (begun batch)) within)

-- ---- what is still to come

AreRead-same : (stream : Bool) (lines : List Line) → AreRead stream lines lines
AreRead-same stream [] = tt
AreRead-same stream (line ∷ rest) = (inl refl, AreRead-same stream rest)

read_of : (stream : Bool) (known : Option (List ℕ)) → (parsed : List Line) × IfSome known (λ text. AreRead stream (parse_text stream text) parsed)
read_of stream None = ([], tt)
read_of stream (Some text) = (parse_text stream text, AreRead-same stream (parse_text stream text))

stays_lost : (line got : Line) → line ≡ line_variants.Lost → IsLostAs true line got → got ≡ line
stays_lost line got lost again = subst (λ (l : Line). IsLostAs true l got) lost again ∙ sym lost

stays_refused : (line got : Line) → line ≡ line_variants.Order Lost → IsLostAs true line got → got ≡ line
stays_refused line got lost again = subst (λ (l : Line). IsLostAs true l got) lost again ∙ sym lost

-- a lost line that is lost again remains as it is
lost_again : (stream : Bool) (said line got : Line) → IsLostAs stream said line → IsLostAs stream line got → got ≡ line
lost_again false said line got lost again = again ∙ sym lost
lost_again true Blank line got lost again = absurd lost
lost_again true Go line got lost again = absurd lost
lost_again true (line_variants.Command command) line got lost again = stays_lost line got lost again
lost_again true line_variants.Lost line got lost again = stays_lost line got lost again
lost_again true (line_variants.Order order) line got lost again = stays_refused line got lost again
lost_again true (Bad why) line got (inl lost) again = stays_lost line got lost again
lost_again true (Bad why) line got (inr lost) again = stays_refused line got lost again

read_again : (stream : Bool) (said line got : Line) → IsReadAs stream said line → IsReadAs stream line got → IsReadAs stream said got
read_again stream said line got (inl is) again = subst (λ (l : Line). IsReadAs stream l got) is again
read_again stream said line got (inr lost) (inl is) = inr (subst (IsLostAs stream said) (sym is) lost)
read_again stream said line got (inr lost) (inr again) = inr (subst (IsLostAs stream said) (sym (lost_again stream said line got lost again)) lost)

read_first : (stream : Bool) (known mid : Option (List ℕ)) (line got : Line) (parsed : List Line) → IsRead stream known mid (Some line) → IsReadAs stream line got
    → IfSome mid (λ text. AreRead stream (parse_text stream text) parsed) → IfSome known (λ text. AreRead stream (parse_text stream text) (got ∷ parsed))
read_first stream None mid line got parsed read either are = tt
read_first stream (Some text) None line got parsed (said_line, rest, left, is, which) either are = absurd (cc)
read_first stream (Some text) (Some bytes) line got parsed (said_line, rest, left, is, which) either are =
    let same : bytes ≡ rest = cc in
    subst (λ (lines : List Line). AreRead stream lines (got ∷ parsed)) (sym is)
    (read_again stream said_line line got which either, subst (λ (l : List ℕ). AreRead stream (parse_text stream l) parsed) same are)

read_none : (stream : Bool) (known left : Option (List ℕ)) → IsRead stream known left None → IfSome known (λ text. AreRead stream (parse_text stream text) [])
read_none stream None left read = tt
read_none stream (Some text) left read = subst (λ (lines : List Line). AreRead stream lines []) (sym read) tt

-- the orders to come, as a function of the values that determine them
abbrev come : Option Order → Bool → Bounds → ℕ → Pending → Option Order → List Line → List Order
come queued ended bounds n pending last parsed = option_to_list queued ++ (if ended then [] else asked bounds (n + 1) pending parsed ++ option_to_list last)

same_come : (queued queued' : Option Order) (ended ended' : Bool) (bounds bounds' : Bounds) (n n' : ℕ) (pending pending' : Pending) (last last' : Option Order) (parsed : List Line)
    → queued ≡ queued' → ended ≡ ended' → bounds ≡ bounds' → n ≡ n' → pending ≡ pending' → last ≡ last'
    → come queued ended bounds n pending last parsed ≡ come queued' ended' bounds' n' pending' last' parsed
same_come queued queued' ended ended' bounds bounds' n n' pending pending' last last' parsed a b d e f g =
    ap (λ (x : Option Order). come x ended bounds n pending last parsed) a
    ∙ ap (λ (x : Bool). come queued' x bounds n pending last parsed) b
    ∙ ap (λ (x : Bounds). come queued' ended' x n pending last parsed) d
    ∙ ap (λ (x : ℕ). come queued' ended' bounds' x pending last parsed) e
    ∙ ap (λ (x : Pending). come queued' ended' bounds' n' x last parsed) f
    ∙ ap (λ (x : Option Order). come queued' ended' bounds' n' pending' x parsed) g

come_after : (order queued last : Option Order) (bounds : Bounds) (n : ℕ) (before after : Pending) (got : Line) (parsed : List Line)
    → asked bounds n before (got ∷ parsed) ≡ option_to_list order ++ (option_to_list queued ++ asked bounds (n + 1) after parsed)
    → option_to_list order ++ come queued false bounds n after last parsed ≡ asked bounds n before (got ∷ parsed) ++ option_to_list last
come_after order queued last bounds n before after got parsed is =
    let later : List Order = asked bounds (n + 1) after parsed in
    sym (ap (λ (orders : List Order). orders ++ option_to_list last) is
    ∙ append_assoc (option_to_list order) (option_to_list queued ++ later) (option_to_list last)
    ∙ ap (λ (orders : List Order). option_to_list order ++ orders) (append_assoc (option_to_list queued) later (option_to_list last)))

asked-none : (bounds : Bounds) (n : ℕ) (pending : Pending) → asked bounds n pending [] ≡ unended pending
asked-none bounds n (begun cs) = refl
asked-none bounds n skipped = refl

module _ {I : Type 0} (known : I → Option (List ℕ)) where
  -- no order was queued
  pub IsToCome-taken : (s : Source I) (queued : Option Order) → s.queued ≡ None → queued ≡ None → (rest : List Order)
      → IsToCome known (record s { queued = queued }) rest → IsToCome known s rest
  IsToCome-taken s queued none none_left rest (parsed, are, is) =
      let later : List Order = if s.is_at_end then [] else asked s.bounds (s.number + 1) (pending_of s) parsed ++ option_to_list s.last in
      (parsed, are, is ∙ ap (λ (o : Option Order). option_to_list o ++ later) (none_left ∙ sym none))

  -- all was read
  pub IsToCome-ended : (s : Source I) → s.queued ≡ None → s.is_at_end ≡ true → IsToCome known s []
  IsToCome-ended s none ended =
      let (parsed, are) = read_of s.bounds.is_stream (known s.input) in (
        parsed,
        are,
        sym (same_come s.queued None s.is_at_end true s.bounds s.bounds s.number s.number (pending_of s) (pending_of s) s.last s.last parsed none ended refl refl refl refl),
      )

  pub IsNext-from : (first old new : Source I) (order : Option Order) → ((rest : List Order) → IsToCome known old rest → IsToCome known first rest)
      → IsNext known old new order → IsNext known first new order
  IsNext-from first old new None f h = f [] h
  IsNext-from first old new (Some order) f h = λ rest x. f (order ∷ rest) (h rest x)

  module _ (old mid new : Source I) (order : Option Order) (none : old.queued ≡ None) (going : old.is_at_end ≡ false) (kept : IsKept old mid) where
    kept_pending : pending_of old ≡ pending_of mid
    kept_pending =
        ap (λ (b : Bool). if b then skipped else begun old.batch) (sym kept.2) ∙ ap (λ (cs : List (Command Global)). if mid.is_discarded then skipped else begun cs) (sym kept.1)

    old_come : (parsed : List Line) → to_come old parsed ≡ asked mid.bounds (old.number + 1) (pending_of mid) parsed ++ option_to_list mid.last
    old_come parsed =
        same_come old.queued None old.is_at_end false old.bounds mid.bounds old.number old.number (pending_of old) (pending_of mid) old.last mid.last parsed
        none going (sym kept.0) refl kept_pending (sym kept.4)

    -- a line was read, and its orders are next
    pub IsToCome-line : (line : Line) → IsRead old.bounds.is_stream (known old.input) (known mid.input) (Some line) → mid.number ≡ old.number + 1 → Orders mid new line order
        → IsBatched mid new → (rest : List Order) → IsToCome known new rest → IsToCome known old (option_to_list order ++ rest)
    IsToCome-line line read next (got, either, orders) batched rest (parsed, are, is) =
        let there : IfSome (known mid.input) (λ text. AreRead new.bounds.is_stream (parse_text new.bounds.is_stream text) parsed) =
        subst (λ (i : I). IfSome (known i) (λ text. AreRead new.bounds.is_stream (parse_text new.bounds.is_stream text) parsed)) batched.0 are in
        let own : IsReadAs old.bounds.is_stream line got = subst (λ (b : Bounds). IsReadAs b.is_stream line got) kept.0 either in
        let here : IfSome (known mid.input) (λ text. AreRead old.bounds.is_stream (parse_text old.bounds.is_stream text) parsed) =
        subst (λ (b : Bounds). IfSome (known mid.input) (λ text. AreRead b.is_stream (parse_text b.is_stream text) parsed)) (batched.1 ∙ kept.0) there in
        let rest_is : rest ≡ come new.queued false mid.bounds mid.number (pending_of new) mid.last parsed =
        is
        ∙ same_come new.queued new.queued new.is_at_end false new.bounds mid.bounds new.number mid.number (pending_of new) (pending_of new) new.last mid.last parsed
        refl (batched.4 ∙ kept.5 ∙ going) batched.1 batched.2 refl batched.3 in (
          got ∷ parsed,
          read_first old.bounds.is_stream (known old.input) (known mid.input) line got parsed read own here,
          ap (λ (os : List Order). option_to_list order ++ os) rest_is
              ∙ come_after order new.queued mid.last mid.bounds mid.number (pending_of mid) (pending_of new) got parsed (orders parsed)
              ∙ ap (λ (n : ℕ). asked mid.bounds n (pending_of mid) (got ∷ parsed) ++ option_to_list mid.last) next
              ∙ sym (old_come (got ∷ parsed)),
        )

    -- there was no line, and the remaining orders are next
    pub IsNext-ended : IsRead old.bounds.is_stream (known old.input) (known mid.input) None → option_to_list order ++ option_to_list new.queued ≡ unended (pending_of mid) ++ option_to_list mid.last
        → new.is_at_end ≡ true → (order ≡ None → new.queued ≡ None) → IsNext known old new order
    IsNext-ended read orders ended alone =
        next order (
          [],
          read_none old.bounds.is_stream (known old.input) (known mid.input) read,
          orders
              ∙ ap (λ (os : List Order). os ++ option_to_list mid.last) (sym (asked-none mid.bounds (old.number + 1) (pending_of mid)))
              ∙ sym (old_come []),
        ) alone
      where
        next : (o : Option Order) → IsToCome known old (option_to_list o ++ option_to_list new.queued) → (o ≡ None → new.queued ≡ None) → IsNext known old new o
        next None h alone =
            let nothing : option_to_list new.queued ≡ [] = ap (λ (q : Option Order). option_to_list q) (alone refl) in
            subst (λ (os : List Order). IsToCome known old os) nothing h
        next (Some o) h alone = λ rest x.
            let rest_is : rest ≡ option_to_list new.queued =
            x.2
            ∙ same_come new.queued new.queued new.is_at_end true new.bounds new.bounds new.number new.number (pending_of new) (pending_of new) new.last new.last x.0
            refl ended refl refl refl refl
            ∙ append-nil (option_to_list new.queued) in
            subst (λ (os : List Order). IsToCome known old (o ∷ os)) (sym rest_is) h
