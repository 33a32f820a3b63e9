-- Lemmas on the words of a line.
use Rattle.std.proofs.Common.{◌≡◌, ℕ, suc, ◌+◌, ◌<◌, ◌≤◌, Bool, true, false, not, cond, ltb, List, [], ◌∷◌, length, get_or, take, drop, Some, None, refl, sym, ap, ◌∙◌, arith, one-add}
use Rattle.std.specs.Option.{unwrap_or}
use Rattle.std.specs.List.{slice_split, onto_first, filter, position, position_or_len}
use Rattle.std.proofs.lemmas.Bool.{ltb-true, ltb-false, not-true}
use Rattle.std.proofs.lemmas.List.{drop_more, drop_all}
use Rattle.std.proofs.lemmas.List.Sums.{prefix_len-le-length, passes_at_first}
use Rattle.bwsh.specs.Words.{is_blank, is_word, words_of, the_only, the_two, the_three}

found_by : (b : Bool) (n m i : ℕ) → ltb n m ≡ b → cond b (Some n) None ≡ Some i → (i ≡ n) × (n < m)
found_by true n m i h e = (let f : Some n ≡ Some i = e in cc, ltb-true n m h)
found_by false n m i h e = absurd (let f : None ≡ Some i = e in cc)

missed_by : (b : Bool) (n m : ℕ) → ltb n m ≡ b → cond b (Some n) None ≡ None → m ≤ n
missed_by true n m h e = absurd (let f : Some n ≡ None = e in cc)
missed_by false n m h e = ltb-false n m h

bounded_by : (b : Bool) (n m : ℕ) → ltb n m ≡ b → n ≤ m → unwrap_or (cond b (Some n) None) m ≡ n
bounded_by true n m h k = refl
bounded_by false n m h k = let l = ltb-false n m h in omega arith

-- for any test of blanks
module _ (p : ℕ → Bool) where
  abbrev words : List ℕ → List (List ℕ)
  words line = filter is_word (slice_split p line)

  -- where the first word begins, and where it ends
  abbrev start : List ℕ → ℕ
  start xs = position_or_len (λ c. not (p c)) xs

  abbrev end : List ℕ → ℕ
  end xs = position_or_len p xs

  skip_by : (b : Bool) (c : ℕ) (cs : List ℕ) → p c ≡ b → words (drop (start cs) cs) ≡ words cs → words (drop (start (c ∷ cs)) (c ∷ cs)) ≡ words (c ∷ cs)
  skip_by true c cs h ih = rw (h, one-add) ih
  skip_by false c cs h ih = rw h (rw h refl)

  -- the part before the first byte that is not blank has no words
  skip_blanks : (xs : List ℕ) → words (drop (start xs) xs) ≡ words xs
  skip_blanks [] = refl
  skip_blanks (c ∷ cs) = skip_by (p c) c cs refl (skip_blanks cs)

  -- the first part is the part before the first blank
  abbrev IsFirstPart : List ℕ → Type 0
  IsFirstPart xs = (rest : List (List ℕ)) × (slice_split p (drop (end xs) xs) ≡ [] ∷ rest) × (slice_split p xs ≡ take (end xs) xs ∷ rest)

  part_by : (b : Bool) (c : ℕ) (cs : List ℕ) → p c ≡ b → IsFirstPart cs → IsFirstPart (c ∷ cs)
  part_by true c cs h f = (slice_split p cs, rw h (rw h refl), rw h refl)
  part_by false c cs h f = (f.0, rw (h, one-add) f.1, rw (h, one-add) (ap (onto_first c) f.2))

  first_part : (xs : List ℕ) → IsFirstPart xs
  first_part [] = ([], refl, refl)
  first_part (c ∷ cs) = part_by (p c) c cs refl (first_part cs)

  -- a text that begins with no blank begins with a word
  word_in_front : (c : ℕ) (cs : List ℕ) → p c ≡ false → words (c ∷ cs) ≡ take (end (c ∷ cs)) (c ∷ cs) ∷ words (drop (end (c ∷ cs)) (c ∷ cs))
  word_in_front c cs h =
      let f = first_part (c ∷ cs) in
      let e : end (c ∷ cs) ≡ suc (end cs) = rw (h, one-add) refl in
      rw (f.1, f.2) (rw e refl)

  no_word : (xs : List ℕ) → position (λ c. not (p c)) xs ≡ None → words xs ≡ []
  no_word xs h =
      let l : length xs ≤ start xs = missed_by (ltb (start xs) (length xs)) (start xs) (length xs) refl h in
      sym (skip_blanks xs) ∙ ap words (drop_all (start xs) xs l)

  a_word : (xs : List ℕ) (i : ℕ) → position (λ c. not (p c)) xs ≡ Some i → (n : ℕ) → n ≡ unwrap_or (position p (drop i xs)) (length (drop i xs)) → words xs ≡ take n (drop i xs) ∷ words (drop n (drop i xs))
  a_word xs i h n k =
      let f = found_by (ltb (start xs) (length xs)) (start xs) (length xs) i refl h in
      let l : start xs < length xs = f.1 in
      let no : p (get_or xs (start xs) 0) ≡ false = not-true _ (passes_at_first (λ c. not (p c)) xs 0 l) in
      let ys : List ℕ = get_or xs (start xs) 0 ∷ drop (start xs + 1) xs in
      let is : drop i xs ≡ ys = rw f.0 (drop_more xs (start xs) 0 l) in
      let e : n ≡ end ys = k ∙ ap (λ (zs : List ℕ). unwrap_or (position p zs) (length zs)) is ∙ bounded_by (ltb (end ys) (length ys)) (end ys) (length ys) refl (prefix_len-le-length (λ c. not (p c)) ys) in
      sym (skip_blanks xs) ∙ rw (is, e) (ap words (drop_more xs (start xs) 0 l) ∙ word_in_front (get_or xs (start xs) 0) (drop (start xs + 1) xs) no)

pub words_of-no_word : (line : List ℕ) → position (λ c. not (is_blank c)) line ≡ None → words_of line ≡ []
words_of-no_word line h = no_word is_blank line h

pub words_of-a_word : (line : List ℕ) (i : ℕ) → position (λ c. not (is_blank c)) line ≡ Some i → (n : ℕ) → n ≡ unwrap_or (position is_blank (drop i line)) (length (drop i line)) → words_of line ≡ take n (drop i line) ∷ words_of (drop n (drop i line))
words_of-a_word line i h n k = a_word is_blank line i h n k

-- the words, if there is one, and if there are two or three
pub the_only_is : (words : List (List ℕ)) (w : List ℕ) → Some w ≡ the_only words → words ≡ w ∷ []
the_only_is [] w h = absurd (cc)
the_only_is (v ∷ []) w h = let e : w ≡ v = cc in ap (λ (x : List ℕ). x ∷ []) (sym e)
the_only_is (v ∷ u ∷ rest) w h = absurd (cc)

pub the_two_are : (words : List (List ℕ)) (v w : List ℕ) → Some (v, w) ≡ the_two words → words ≡ v ∷ w ∷ []
the_two_are [] v w h = absurd (cc)
the_two_are (x ∷ []) v w h = absurd (cc)
the_two_are (x ∷ y ∷ []) v w h =
    let pair : List ℕ → List ℕ → List ℕ × List ℕ = λ a b. (a, b) in
    let e : pair v w ≡ pair x y = cc in
    ap (λ (p : List ℕ × List ℕ). p.0 ∷ p.1 ∷ []) (sym e)
the_two_are (x ∷ y ∷ z ∷ rest) v w h = absurd (cc)

pub the_three_are : (words : List (List ℕ)) (u v w : List ℕ) → Some (u, v, w) ≡ the_three words → words ≡ u ∷ v ∷ w ∷ []
the_three_are [] u v w h = absurd (cc)
the_three_are (x ∷ []) u v w h = absurd (cc)
the_three_are (x ∷ y ∷ []) u v w h = absurd (cc)
the_three_are (x ∷ y ∷ z ∷ []) u v w h =
    let triple : List ℕ → List ℕ → List ℕ → List ℕ × List ℕ × List ℕ = λ a b c. (a, b, c) in
    let e : triple u v w ≡ triple x y z = cc in
    ap (λ (p : List ℕ × List ℕ × List ℕ). p.0 ∷ p.1 ∷ p.2 ∷ []) (sym e)
the_three_are (x ∷ y ∷ z ∷ t ∷ rest) u v w h = absurd (cc)

-- what holds for all words except two, or except three
pub not_two : {X : Type 0} (said : List (List ℕ) → X) (bad : X) → said [] ≡ bad → ((v : List ℕ) → said (v ∷ []) ≡ bad)
    → ((v w x : List ℕ) (rest : List (List ℕ)) → said (v ∷ w ∷ x ∷ rest) ≡ bad) → (words : List (List ℕ)) → None ≡ the_two words → bad ≡ said words
not_two said bad none one more [] h = sym none
not_two said bad none one more (v ∷ []) h = sym (one v)
not_two said bad none one more (v ∷ w ∷ []) h = absurd (cc)
not_two said bad none one more (v ∷ w ∷ x ∷ rest) h = sym (more v w x rest)

pub not_three : {X : Type 0} (said : List (List ℕ) → X) (bad : X) → said [] ≡ bad → ((v : List ℕ) → said (v ∷ []) ≡ bad) → ((v w : List ℕ) → said (v ∷ w ∷ []) ≡ bad)
    → ((v w x y : List ℕ) (rest : List (List ℕ)) → said (v ∷ w ∷ x ∷ y ∷ rest) ≡ bad) → (words : List (List ℕ)) → None ≡ the_three words → bad ≡ said words
not_three said bad none one two more [] h = sym none
not_three said bad none one two more (v ∷ []) h = sym (one v)
not_three said bad none one two more (v ∷ w ∷ []) h = sym (two v w)
not_three said bad none one two more (v ∷ w ∷ x ∷ []) h = absurd (cc)
not_three said bad none one two more (v ∷ w ∷ x ∷ y ∷ rest) h = sym (more v w x y rest)
