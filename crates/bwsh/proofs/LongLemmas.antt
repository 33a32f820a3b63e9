-- Lemmas on lines of a stream, of which only the beginning is kept.
use Rattle.std.proofs.Common.{◌≡◌, ◌≢◌, ◌≤◌, ◌<◌, ◌+◌, ◌-◌, ◌==◌, ◌&&◌, ℕ, length, take, take_all, length-append, slice_index, Bool, true, false, cond, List, [], ◌∷◌, ◌++◌, Option, Some, None, IfSome, refl, sym, ap, ◌∙◌, subst, arith, lt-ltb, le_refl, nat_lt}
use Rattle.std.proofs.lemmas.List.{length-take-le, take-append-le, take-take}
use Rattle.std.proofs.lemmas.List.Elements.{All-nil}
use Rattle.std.specs.Io.{StopsAt}
use Rattle.std.specs.Io.BufRead.{DropsThrough, drop_through, take_through}
use Rattle.std.specs.Io.KnownBytes.{Consumes}
use Rattle.std.proofs.BufReadLemmas.{Consumes_through, take_through-append}
use Rattle.std.proofs.KnownBytes.{Consumes-nil, Consumes-trans}
use Rattle.std.proofs.Transfers.{StopsAt-append}
use Rattle.bstr.specs.Text.{last_byte_of, no_cr, without_terminator}
use Rattle.bwsh.specs.declared.line.Line.{Line}
use Rattle.bwsh.specs.BatchFile.{IsReadAs}
use Rattle.bwsh.specs.Line.{most_in_line, parse_line, parse_long, parse_words}
use Rattle.bwsh.specs.Source.{IsFront, IsLong, IsParsed, IsPushed, is_line}
use Rattle.bwsh.specs.Words.{words_of}
use Rattle.bwsh.proofs.SourceLemmas.{IsSkippedWhole, ends_with, last_byte-append, last_byte-none, never_some, none_inside}

-- ---- a line without its end

-- it is a beginning, with at most one byte less
abbrev IsCut : ℕ → List ℕ → List ℕ → Type 0
IsCut most xs cut = (k : ℕ) × (cut ≡ take k xs) × (k ≤ length xs) × (length xs ≤ k + most)

no_cr-cut : (xs : List ℕ) → IsCut 1 xs (no_cr xs)
no_cr-cut xs = go (nat_lt 0 (length xs) && slice_index xs (length xs - 1) == 13)
  where
    go : (b : Bool) → IsCut 1 xs (cond b (take (length xs - 1) xs) xs)
    go true = (length xs - 1, refl, omega arith, omega arith)
    go false = (length xs, sym (take_all (length xs) xs (le_refl (length xs))), le_refl (length xs), omega arith)

cut_further : (xs cut : List ℕ) → IsCut 1 (take (length xs - 1) xs) cut → IsCut 2 xs cut
cut_further xs cut (k, is, within, near) =
    let long : length (take (length xs - 1) xs) ≡ length xs - 1 = length-take-le (length xs - 1) xs (omega arith) in
    (k, is ∙ take-take k (length xs - 1) xs (omega (arith, within, long)), omega (arith, within, long), omega (arith, near, long))

-- or two
without_terminator-cut : (xs : List ℕ) → IsCut 2 xs (without_terminator xs)
without_terminator-cut xs = go (nat_lt 0 (length xs) && slice_index xs (length xs - 1) == 10)
  where
    go : (b : Bool) → IsCut 2 xs (cond b (no_cr (take (length xs - 1) xs)) xs)
    go true = cut_further xs (no_cr (take (length xs - 1) xs)) (no_cr-cut (take (length xs - 1) xs))
    go false = (length xs, sym (take_all (length xs) xs (le_refl (length xs))), le_refl (length xs), omega arith)

-- ---- a long line

cut_long : (k : ℕ) (xs : List ℕ) → most_in_line < k → k ≤ length xs → parse_line true (take k xs) ≡ parse_long (words_of (take most_in_line xs))
cut_long k xs more within =
    let size : length (take k xs) ≡ k = length-take-le k xs within in
    let long : nat_lt most_in_line (length (take k xs)) ≡ true = lt-ltb most_in_line (length (take k xs)) (omega (arith, more, size)) in
    ap (λ (b : Bool). cond b (parse_long (words_of (take most_in_line (take k xs)))) (parse_words true (words_of (take k xs)))) long
    ∙ ap (λ (l : List ℕ). parse_long (words_of l)) (take-take most_in_line k xs (omega (arith, more)))

by_front : (xs cut : List ℕ) → IsCut 2 xs cut → most_in_line + 3 ≤ length xs → parse_line true cut ≡ parse_long (words_of (take most_in_line xs))
by_front xs cut (k, is, within, near) long = ap (parse_line true) is ∙ cut_long k xs (omega (arith, near, long)) within

-- its first bytes decide how it is parsed
pub front_decides : (text more : List ℕ) → most_in_line + 3 ≤ length text → parse_line true (without_terminator text) ≡ parse_line true (without_terminator (text ++ more))
front_decides text more long =
    by_front text (without_terminator text) (without_terminator-cut text) long
    ∙ ap (λ (l : List ℕ). parse_long (words_of l)) (sym (take-append-le most_in_line text more (omega (arith, long))))
    ∙ sym (by_front (text ++ more) (without_terminator (text ++ more)) (without_terminator-cut (text ++ more)) (omega (arith, long, length-append text more)))

-- the rest of it was skipped, and its beginning was parsed; or it was no line
abbrev IsEnded : Bool → Option (List ℕ) → Option (List ℕ) → List ℕ → Option Line → Type 0
IsEnded stream known left text line =
    IfSome known (λ xs. IsParsed stream (take_through 10 (text ++ xs)) line × (left ≡ Some (drop_through 10 (text ++ xs))))

pub long_parsed : (stream : Bool) → stream ≡ true → (known left : Option (List ℕ)) (text inner : List ℕ) (last : Option ℕ) (b : Bool) (line : Line) → IsSkippedWhole known left text last
    → b ≡ is_line stream last → b ≡ true → IsLong text → inner ≡ without_terminator text → IsReadAs true (parse_line true inner) line → IsEnded stream known left text (Some line)
long_parsed stream streams None left text inner last b line whole is holds long ends parsed = tt
long_parsed stream streams (Some xs) left text inner last b line (last_is, left_is) is holds long ends parsed =
    ((sym (is ∙ ap (λ (o : Option ℕ). is_line stream o) last_is) ∙ holds, whole), left_is)
  where
    all : take_through 10 (text ++ xs) ≡ text ++ take_through 10 xs
    all = take_through-append 10 text xs (none_inside text long.0 long.1)

    same : parse_line true inner ≡ parse_line true (without_terminator (take_through 10 (text ++ xs)))
    same = ap (parse_line true) ends ∙ front_decides text (take_through 10 xs) long.2 ∙ ap (λ (l : List ℕ). parse_line true (without_terminator l)) (sym all)

    whole : IsReadAs stream (parse_line stream (without_terminator (take_through 10 (text ++ xs)))) line
    whole =
        subst (λ (s : Bool). IsReadAs s (parse_line s (without_terminator (take_through 10 (text ++ xs)))) line) (sym streams)
        (subst (λ (said : Line). IsReadAs true said line) same parsed)

pub long_unparsed : (stream : Bool) (known left : Option (List ℕ)) (text : List ℕ) (last : Option ℕ) (b : Bool) → IsSkippedWhole known left text last
    → b ≡ is_line stream last → b ≡ false → IsEnded stream known left text None
long_unparsed stream None left text last b whole is fails = tt
long_unparsed stream (Some xs) left text last b (last_is, left_is) is fails = (sym (is ∙ ap (λ (o : Option ℕ). is_line stream o) last_is) ∙ fails, left_is)

-- ---- the beginning of a line

-- these bytes of it were read, not up to its end
abbrev pub IsBegun : Option (List ℕ) → Option (List ℕ) → List ℕ → Type 0
IsBegun known now text = Consumes known now text × StopsAt text 10 × (last_byte_of text ≢ Some 10)

none_begun : (known : Option (List ℕ)) → IsBegun known known []
none_begun known = (Consumes-nil known, All-nil (λ x. x ≢ 10), λ e. never_some 10 e)

pub begun-none : (known : Option (List ℕ)) (text : List ℕ) → text ≡ [] → IsBegun known known text
begun-none known text empty = subst (IsBegun known known) (sym empty) (none_begun known)

pub begun-more : (known mid left : Option (List ℕ)) (text new : List ℕ) (byte : ℕ) → IsBegun known mid text → IsPushed mid left text new (Some byte) → byte ≢ 10 → IsBegun known left new
begun-more known mid left text new byte (read, stops, open_end) (bytes, is, taken, part_stops, ends, end) other =
    subst (IsBegun known left) (sym is) (
      Consumes-trans known mid left text bytes read taken,
      StopsAt-append text bytes 10 (none_inside text stops open_end) part_stops,
      λ feed.
          let same : Some byte ≡ Some 10 = last_byte-append text bytes byte ends ∙ feed in
          other (cc),
    )

empty_ends : (bytes : List ℕ) → length bytes ≡ 0 → last_byte_of bytes ≡ Some 10 → ⊥
empty_ends [] none feed = never_some 10 feed
empty_ends (b ∷ bs) none feed = omega arith

front_is : (known left : Option (List ℕ)) (text new bytes : List ℕ) → new ≡ text ++ bytes → IfSome known (λ xs. text ++ bytes ≡ take_through 10 xs) × DropsThrough known left 10
    → IsFront known left new true
front_is known left text new bytes is whole = (subst (λ (l : List ℕ). IfSome known (λ xs. l ≡ take_through 10 xs)) (sym is) whole.0, whole.1)

pub front-feed : (known mid left : Option (List ℕ)) (text new : List ℕ) (byte : ℕ) → IsBegun known mid text → IsPushed mid left text new (Some byte) → byte ≡ 10 → IsFront known left new true
front-feed known mid left text new byte (read, stops, open_end) (bytes, is, taken, part_stops, ends, end) feed =
    let last : last_byte_of bytes ≡ Some 10 = sym ends ∙ ap (λ (b : ℕ). Some b) feed in
    front_is known left text new bytes is
    (Consumes_through 10 known mid left text bytes read (none_inside text stops open_end) taken part_stops (ends_with bytes last) (λ none. absurd (empty_ends bytes none last)))

nothing_ends : (bytes : List ℕ) → bytes ≡ [] → 0 < length bytes → slice_index bytes (length bytes - 1) ≡ 10
nothing_ends [] none some = absurd (omega arith)
nothing_ends (b ∷ bs) none some = absurd (cc)

pub front-at_end : (known mid left : Option (List ℕ)) (text new : List ℕ) → IsBegun known mid text → IsPushed mid left text new None → IsFront known left new true
front-at_end known mid left text new (read, stops, open_end) (bytes, is, taken, part_stops, ends, end) =
    let nothing : bytes ≡ [] = last_byte-none bytes (sym ends) in
    front_is known left text new bytes is
    (Consumes_through 10 known mid left text bytes read (none_inside text stops open_end) taken part_stops (nothing_ends bytes nothing) (λ none. end refl))
