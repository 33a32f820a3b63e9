-- Lemmas on pieces that are added at their places.
use Rattle.std.specs.Prelude.{min}
use Rattle.std.specs.List.{sum_by}
use Rattle.std.proofs.Common.{◌≡◌, ℕ, zero, suc, ◌+◌, ◌<◌, ◌≤◌, ◌==◌, Bool, true, false, cond, List, [], ◌∷◌, ◌++◌, Option, Some, None, length, map, flat_map, set, get_or, slice_get, take, drop, append_assoc, refl, ap, subst, sym, ◌∙◌, inl, inr, arith}
use Rattle.std.specs.List.{All}
use Rattle.std.specs.Option.{option_map}
use Rattle.std.proofs.lemmas.Bool.{eqb-true, eqb-false, eq-eqb, cond-true}
use Rattle.std.proofs.lemmas.Grind.{common_steps}
use Rattle.std.proofs.lemmas.List.{length-append, length-map, length-set, append-nil, map-append, take-append-drop, take_at, drop_more, drop_at}
use Rattle.std.proofs.lemmas.List.Elements.{All-append, All-head, All-tail, All-rest, All-take, All-drop, All-nil, All-cons, All-filter, filter_passes, filter-append}
use Rattle.std.proofs.lemmas.List.Sorted.{All-permutation, IsPermutation-sym}
use Rattle.std.proofs.lemmas.List.Sums.{sum_by-cons}
use Rattle.std.proofs.lemmas.Option.{gets, none-some, same_Some, slice_get_past, slice_get_cases, slice_get-get_or, slice_get-map, slice_get_read, get_or_from_slice_get}
use Rattle.keys.specs.CommandKey.{is_ranged, is_scan, is_wipe}
use Rattle.keys.specs.Footprint.{Joining, Alone, RowsUpTo, Summed, joining_of, is_of_rows, is_of_counts}
use Rattle.keys.specs.Lists.{flat}
use Rattle.keys.specs.PlacedPieces.{by_place}
use Rattle.keys.specs.Places.{is_some_that, is_scan_at, is_wipe_at, is_ranged_at}
use Rattle.keys.specs.Woven.{piece_of_empty_scan, woven}
use Rattle.keys.specs.declared.command.Command.{Command}
use Rattle.keys.specs.declared.command.Command.TheVariants.{Scan, Wipe}
use Rattle.keys.specs.declared.command.Reply.{Reply}
use Rattle.keys.specs.declared.command.Reply.TheVariants.{Missing, Rows, Wiped}
use Rattle.keys.specs.declared.piece.Piece.{Piece}
use Rattle.keys.specs.declared.pieces.EmptyScan.{EmptyScan}
use Rattle.keys.proofs.PlacedPieces.{at-by_place, same-by_place}
use Rattle.keys.proofs.Weaving.{put_in}
use Rattle.replies.specs.ByPlace.{pieces_at, rows_of, is_rows, count_of, is_count, most_counted, lone, joined_by, joined_replies, joined_replies_at, reply_at, IsPlaceOf, AreAnswers, limit_in, limit_of, limit_by, blank_in, blank_of, with_rows, with_count, with_answer, with_pieces}

-- ---- lists

module _ {X : Type 0} where
  -- what a write leaves at a place
  get-set : (b : Bool) (xs : List X) (i j : ℕ) (y : X) → (i == j) ≡ b → j < length xs → slice_get (set xs i y) j ≡ cond b (Some y) (slice_get xs j)
  get-set true xs i j y e h = let same : i ≡ j = eqb-true i j e in grind (arith, common_steps, gets)
  get-set false xs i j y e h = let other : j ≡ i → ⊥ = (λ (s : j ≡ i). eqb-false i j e (sym s)) in grind (arith, common_steps, gets)

  -- two lists that have the same at each place
  pub same_at_each : (xs ys : List X) → ((i : ℕ) → slice_get xs i ≡ slice_get ys i) → xs ≡ ys
  same_at_each [] [] h = refl
  same_at_each [] (y ∷ ys) h = absurd (none-some y (h 0))
  same_at_each (x ∷ xs) [] h = absurd (none-some x (sym (h 0)))
  same_at_each (x ∷ xs) (y ∷ ys) h = let first : x ≡ y = same_Some x y (h 0) in let rest : xs ≡ ys = same_at_each xs ys (λ i. h (suc i)) in cc

  -- the first of none
  nothing_first : (n : ℕ) → ◌≡◌ {A = List X} (take n []) []
  nothing_first zero = refl
  nothing_first (suc n) = refl

  -- the first n elements of a concatenation need only the first n of its first part
  take_front : (n : ℕ) (xs ys : List X) → take n (take n xs ++ ys) ≡ take n (xs ++ ys)
  take_front zero xs ys = refl
  take_front (suc n) [] ys = refl
  take_front (suc n) (x ∷ xs) ys = ap (λ (zs : List X). x ∷ zs) (take_front n xs ys)

no_more : (limit : ℕ) (xs : List (List ℕ × List ℕ)) → take limit (take limit xs ++ []) ≡ take limit xs
no_more limit xs = take_front limit xs [] ∙ ap (take limit) (append-nil xs)

-- a sum that was cut, with more added and cut again
min_twice : (n m most : ℕ) → min (min n most + m) most ≡ min (n + m) most
min_twice n m most = omega arith

-- ---- places of pieces without rows

pub empty_scans-rest : (n : ℕ) (r : EmptyScan) (left rest : List EmptyScan) → left ≡ r ∷ rest → All (λ q. q.place < n) left → All (λ q. q.place < n) rest
empty_scans-rest n r left rest e h = All-rest (λ q. q.place < n) r rest left e h

pub empty_scans-first : (n : ℕ) (r : EmptyScan) (left rest : List EmptyScan) → left ≡ r ∷ rest → All (λ q. q.place < n) left → r.place < n
empty_scans-first n r left rest e h = All-head (λ q. q.place < n) r rest (subst (All (λ q. q.place < n)) e h)

-- ---- one piece more

-- the replies of pieces
abbrev pub replies_of : {A : Type 0} → List (Piece A) → List (Reply A)
replies_of ps = map (λ p. p.reply) ps

module _ {A : Type 0} where
  pub length-with_pieces : (cs : List (Command A)) (ps : List (Piece A)) (rs : List (Reply A)) → length (with_pieces cs ps rs) ≡ length rs
  length-with_pieces cs [] rs = refl
  length-with_pieces cs (p ∷ ps) rs = length-with_pieces cs ps _ ∙ length-set rs p.place _

  pub with_pieces-append : (cs : List (Command A)) (ps qs : List (Piece A)) (rs : List (Reply A)) → with_pieces cs (ps ++ qs) rs ≡ with_pieces cs qs (with_pieces cs ps rs)
  with_pieces-append cs [] qs rs = refl
  with_pieces-append cs (p ∷ ps) qs rs = with_pieces-append cs ps qs _

  pub within-rest : (cs : List (Command A)) (q : Piece A) (left rest : List (Piece A)) → left ≡ q ∷ rest → All (IsPlaceOf cs) left → All (IsPlaceOf cs) rest
  within-rest cs q left rest e h = All-rest (IsPlaceOf cs) q rest left e h

  pub within-first : (cs : List (Command A)) (q : Piece A) (left rest : List (Piece A)) → left ≡ q ∷ rest → All (IsPlaceOf cs) left → q.place < length cs
  within-first cs q left rest e h = All-head (IsPlaceOf cs) q rest (subst (All (IsPlaceOf cs)) e h)

  -- what was made of what stood at the piece's place is put there
  pub with_pieces-rest : (cs : List (Command A)) (q : Piece A) (left rest : List (Piece A)) (rs end : List (Reply A)) (c : Command A) (old new : Reply A) → left ≡ q ∷ rest → with_pieces cs left rs ≡ end
      → q.place < length cs → q.place < length rs → c ≡ get_or cs q.place c → new ≡ with_answer (limit_of c) (get_or rs q.place old) q.reply → with_pieces cs rest (set rs q.place new) ≡ end
  with_pieces-rest cs q left rest rs end c old new e h within room is made =
      let limit : limit_by (slice_get cs q.place) ≡ limit_of c = ap limit_by (slice_get_read cs (length cs) q.place c refl within is) in
      let stood : get_or rs q.place q.reply ≡ get_or rs q.place old = get_or_from_slice_get rs q.place (get_or rs q.place old) q.reply (slice_get-get_or rs q.place old room) in
      let put : new ≡ with_answer (limit_by (slice_get cs q.place)) (get_or rs q.place q.reply) q.reply = made ∙ ap (λ (n : ℕ). with_answer n (get_or rs q.place old) q.reply) (sym limit) ∙ ap (λ (at : Reply A). with_answer (limit_by (slice_get cs q.place)) at q.reply) (sym stood) in
      ap (λ (r : Reply A). with_pieces cs rest (set rs q.place r)) put ∙ subst (λ (ps : List (Piece A)). with_pieces cs ps rs ≡ end) e h

  pub with_pieces-piece_of_empty_scan : (cs : List (Command A)) (r : EmptyScan) (left rest : List EmptyScan) (rs end : List (Reply A)) (c : Command A) (old new : Reply A) (limit : ℕ) → left ≡ r ∷ rest
      → with_pieces cs (map piece_of_empty_scan left) rs ≡ end → r.place < length cs → r.place < length rs → c ≡ get_or cs r.place c → limit ≡ limit_of c → new ≡ with_rows limit (get_or rs r.place old) []
      → with_pieces cs (map piece_of_empty_scan rest) (set rs r.place new) ≡ end
  with_pieces-piece_of_empty_scan cs r left rest rs end c old new limit e h within room is l made =
      with_pieces-rest cs (piece_of_empty_scan r) (map piece_of_empty_scan left) (map piece_of_empty_scan rest) rs end c old new (ap (map piece_of_empty_scan) e) h within room is (made ∙ ap (λ (n : ℕ). with_rows n (get_or rs r.place old) []) l)

  -- ---- the pieces of a page, in two parts

  module _ (cs : List (Command A)) (ps front back : List (Piece A)) (parts : ps ≡ front ++ back) where
    pub within-front : All (IsPlaceOf cs) ps → All (IsPlaceOf cs) front
    within-front h =
        let all : take (length front) ps ≡ front = ap (take (length front)) parts ∙ take_at front back (length front) refl in
        subst (All (IsPlaceOf cs)) all (All-take (IsPlaceOf cs) (length front) ps h)

    pub within-back : All (IsPlaceOf cs) ps → All (IsPlaceOf cs) back
    within-back h =
        let all : drop (length front) ps ≡ back = ap (drop (length front)) parts ∙ drop_at front back (length front) refl in
        subst (All (IsPlaceOf cs)) all (All-drop (IsPlaceOf cs) (length front) ps h)

    pub with_pieces-parts : (rs mid end : List (Reply A)) → mid ≡ with_pieces cs front rs → end ≡ with_pieces cs back mid → end ≡ with_pieces cs ps rs
    with_pieces-parts rs mid end e h =
        h ∙ ap (with_pieces cs back) e ∙ sym (with_pieces-append cs front back rs) ∙ ap (λ (qs : List (Piece A)). with_pieces cs qs rs) (sym parts)

  -- ---- one page more

  pub within-page : (cs : List (Command A)) (page : List (Piece A)) (left rest : List (List (Piece A))) → left ≡ page ∷ rest → All (IsPlaceOf cs) (flat left) → All (IsPlaceOf cs) page
  within-page cs page left rest e h = within-front cs (flat left) page (flat rest) (ap (λ (pages : List (List (Piece A))). flat pages) e) h

  pub within-pages : (cs : List (Command A)) (page : List (Piece A)) (left rest : List (List (Piece A))) → left ≡ page ∷ rest → All (IsPlaceOf cs) (flat left) → All (IsPlaceOf cs) (flat rest)
  within-pages cs page left rest e h = within-back cs (flat left) page (flat rest) (ap (λ (pages : List (List (Piece A))). flat pages) e) h

  pub with_pieces-page : (cs : List (Command A)) (page : List (Piece A)) (left rest : List (List (Piece A))) (rs end : List (Reply A)) → left ≡ page ∷ rest → with_pieces cs (flat left) rs ≡ end → with_pieces cs (flat rest) (with_pieces cs page rs) ≡ end
  with_pieces-page cs page left rest rs end e h = sym (with_pieces-append cs page (flat rest) rs) ∙ subst (λ (pages : List (List (Piece A))). with_pieces cs (flat pages) rs ≡ end) e h

  -- ---- the reply at a place

  -- the reply at a place, if there is one, after more answers
  added : ℕ → Option (Reply A) → List (Reply A) → Option (Reply A)
  added limit o [] = o
  added limit None (r ∷ rs) = None
  added limit (Some at) (r ∷ rs) = added limit (Some (with_answer limit at r)) rs

  added_more : (b : Bool) (cs : List (Command A)) (p : Piece A) (ps : List (Piece A)) (rs : List (Reply A)) (i : ℕ) → (p.place == i) ≡ b → i < length rs
      → added (limit_by (slice_get cs i)) (slice_get (set rs p.place (with_answer (limit_by (slice_get cs p.place)) (get_or rs p.place p.reply) p.reply)) i) (replies_of ps)
      ≡ added (limit_by (slice_get cs i)) (slice_get rs i) (replies_of (cond b (p ∷ ps) ps))
  unfolding added
  added_more true cs p ps rs i e h =
      let same : p.place ≡ i = eqb-true p.place i e in
      rw (get-set true rs p.place i (with_answer (limit_by (slice_get cs p.place)) (get_or rs p.place p.reply) p.reply) e h, same, slice_get-get_or rs i p.reply h) refl
  added_more false cs p ps rs i e h = rw (get-set false rs p.place i (with_answer (limit_by (slice_get cs p.place)) (get_or rs p.place p.reply) p.reply) e h) refl

  with_pieces-get : (cs : List (Command A)) (ps : List (Piece A)) (rs : List (Reply A)) (i : ℕ) → i < length rs
      → slice_get (with_pieces cs ps rs) i ≡ added (limit_by (slice_get cs i)) (slice_get rs i) (replies_of (pieces_at ps i))
  unfolding added
  with_pieces-get cs [] rs i h = refl
  with_pieces-get cs (p ∷ ps) rs i h =
      let now = set rs p.place (with_answer (limit_by (slice_get cs p.place)) (get_or rs p.place p.reply) p.reply) in
      let within : i < length now = rw length-set h in
      with_pieces-get cs ps now i within ∙ added_more (p.place == i) cs p (pieces_at ps i) rs i refl h

  -- ---- answers without rows

  -- no rows may be added after another answer as well as before it
  later_rows : (limit : ℕ) (at : Reply A) (more : List (List ℕ × List ℕ)) → with_rows limit (with_rows limit at []) more ≡ with_rows limit (with_rows limit at more) []
  later_rows limit (Rows rows) more =
      ap (λ (xs : List (List ℕ × List ℕ)). Rows xs)
      (ap (λ (xs : List (List ℕ × List ℕ)). take limit (take limit xs ++ more)) (append-nil rows) ∙ take_front limit rows more ∙ sym (no_more limit (rows ++ more)))
  later_rows limit _ more = refl

  later_count : (limit : ℕ) (at : Reply A) (count : ℕ) → with_count (with_rows limit at []) count ≡ with_rows limit (with_count at count) []
  later_count limit (Rows rows) count = refl
  later_count limit (Wiped n) count = refl
  later_count limit _ count = refl

  later : (limit : ℕ) (at r : Reply A) → with_answer limit (with_rows limit at []) r ≡ with_rows limit (with_answer limit at r) []
  later limit at (Rows more) = later_rows limit at more
  later limit at (Wiped count) = later_count limit at count
  later limit at _ = refl

  last_of : (limit : ℕ) (o : Option (Reply A)) (rs : List (Reply A)) → added limit o (Rows [] ∷ rs) ≡ added limit o (rs ++ Rows [] ∷ [])
  unfolding added
  last_of limit None [] = refl
  last_of limit None (r ∷ rs) = refl
  last_of limit (Some at) [] = refl
  last_of limit (Some at) (r ∷ rs) = ap (λ (x : Reply A). added limit (Some x) rs) (later limit at r) ∙ last_of limit (Some (with_answer limit at r)) rs

  last_by : (b : Bool) (limit : ℕ) (o : Option (Reply A)) (r : EmptyScan) (qs : List (Piece A))
      → added limit o (replies_of (cond b (piece_of_empty_scan r ∷ qs) qs)) ≡ added limit o (replies_of (qs ++ cond b (piece_of_empty_scan r ∷ []) []))
  last_by true limit o r qs = last_of limit o (replies_of qs) ∙ ap (added limit o) (sym (map-append (λ (p : Piece A). p.reply) qs (piece_of_empty_scan {A = A} r ∷ [])))
  last_by false limit o r qs = ap (λ (ps : List (Piece A)). added limit o (replies_of ps)) (sym (append-nil qs))

  last_at : (cs : List (Command A)) (r : EmptyScan) (qs : List (Piece A)) (rs : List (Reply A)) (i : ℕ) → i < length rs
      → slice_get (with_pieces cs (piece_of_empty_scan r ∷ qs) rs) i ≡ slice_get (with_pieces cs (qs ++ piece_of_empty_scan r ∷ []) rs) i
  last_at cs r qs rs i h =
      with_pieces-get cs (piece_of_empty_scan r ∷ qs) rs i h
      ∙ last_by (r.place == i) (limit_by (slice_get cs i)) (slice_get rs i) r (pieces_at qs i)
      ∙ ap (λ (ps : List (Piece A)). added (limit_by (slice_get cs i)) (slice_get rs i) (replies_of ps)) (sym (filter-append (λ (p : Piece A). p.place == i) qs (piece_of_empty_scan {A = A} r ∷ [])))
      ∙ sym (with_pieces-get cs (qs ++ piece_of_empty_scan r ∷ []) rs i h)

  -- an answer without rows may be added after all others
  last : (cs : List (Command A)) (r : EmptyScan) (qs : List (Piece A)) (rs : List (Reply A)) → with_pieces cs (piece_of_empty_scan r ∷ qs) rs ≡ with_pieces cs (piece_of_empty_scan r ∷ []) (with_pieces cs qs rs)
  last cs r qs rs =
      let first = length-with_pieces cs (piece_of_empty_scan r ∷ qs) rs in
      let end = length-with_pieces cs (qs ++ piece_of_empty_scan r ∷ []) rs in
      same_at_each _ _ (λ i. elim ((slice_get_cases rs i).1) [
        | inl w ↦ last_at cs r qs rs i w.1
        | inr w ↦ slice_get_past (with_pieces cs (piece_of_empty_scan r ∷ qs) rs) i (omega (arith, first, w.0)) ∙ sym (slice_get_past (with_pieces cs (qs ++ piece_of_empty_scan r ∷ []) rs) i (omega (arith, end, w.0)))
      ])
      ∙ with_pieces-append cs qs (piece_of_empty_scan r ∷ []) rs

  put_last : (cs : List (Command A)) (ps : List (Piece A)) (r : EmptyScan) (rs : List (Reply A)) → with_pieces cs (put_in ps r) rs ≡ with_pieces cs (piece_of_empty_scan r ∷ []) (with_pieces cs ps rs)
  put_last cs ps r rs =
      let front = take r.before ps in
      let back = drop r.before ps in
      with_pieces-append cs front (piece_of_empty_scan {A = A} r ∷ back) rs
      ∙ last cs r back (with_pieces cs front rs)
      ∙ ap (with_pieces cs (piece_of_empty_scan r ∷ [])) (sym (with_pieces-append cs front back rs) ∙ ap (λ (qs : List (Piece A)). with_pieces cs qs rs) (take-append-drop r.before ps))

  pub with_pieces-woven : (cs : List (Command A)) (ps : List (Piece A)) (ls : List EmptyScan) (rs : List (Reply A)) → with_pieces cs (woven ps ls) rs ≡ with_pieces cs (map piece_of_empty_scan ls) (with_pieces cs ps rs)
  with_pieces-woven cs ps [] rs = refl
  with_pieces-woven cs ps (r ∷ ls) rs = with_pieces-woven cs (put_in ps r) ls rs ∙ ap (with_pieces cs (map piece_of_empty_scan ls)) (put_last cs ps r rs)

  within-put_in : (cs : List (Command A)) (ps : List (Piece A)) (r : EmptyScan) → All (IsPlaceOf cs) (put_in ps r) → All (IsPlaceOf cs) ps × r.place < length cs
  within-put_in cs ps r h =
      let front = take r.before ps in
      let back = drop r.before ps in
      let first = within-front cs (put_in ps r) front (piece_of_empty_scan {A = A} r ∷ back) refl h in
      let rest = within-back cs (put_in ps r) front (piece_of_empty_scan {A = A} r ∷ back) refl h in
      (subst (All (IsPlaceOf cs)) (take-append-drop r.before ps) (All-append (IsPlaceOf cs) front back first (All-tail (IsPlaceOf cs) (piece_of_empty_scan {A = A} r) back rest)), All-head (IsPlaceOf cs) (piece_of_empty_scan {A = A} r) back rest)

  -- the places of both parts are within the batch
  pub within-woven : (cs : List (Command A)) (ps : List (Piece A)) (ls : List EmptyScan) → All (IsPlaceOf cs) (woven ps ls) → All (IsPlaceOf cs) ps × All (λ r. r.place < length cs) ls
  within-woven cs ps [] h = (h, All-nil (λ r. r.place < length cs))
  within-woven cs ps (r ∷ ls) h =
      let rest = within-woven cs (put_in ps r) ls h in
      let one = within-put_in cs ps r rest.0 in
      (one.0, All-cons (λ r. r.place < length cs) r ls one.1 rest.1)

  -- ---- answers in the order of their places

  by_place_at : (cs : List (Command A)) (ps : List (Piece A)) (rs : List (Reply A)) (i : ℕ) → i < length rs → slice_get (with_pieces cs (by_place ps) rs) i ≡ slice_get (with_pieces cs ps rs) i
  by_place_at cs ps rs i h =
      with_pieces-get cs (by_place ps) rs i h
      ∙ ap (λ (qs : List (Piece A)). added (limit_by (slice_get cs i)) (slice_get rs i) (replies_of qs)) (at-by_place i ps)
      ∙ sym (with_pieces-get cs ps rs i h)

  -- the order of pieces at different places does not matter
  with_pieces-by_place : (cs : List (Command A)) (ps : List (Piece A)) (rs : List (Reply A)) → with_pieces cs (by_place ps) rs ≡ with_pieces cs ps rs
  with_pieces-by_place cs ps rs =
      let one = length-with_pieces cs (by_place ps) rs in
      let other = length-with_pieces cs ps rs in
      same_at_each _ _ (λ i. elim ((slice_get_cases rs i).1) [
        | inl w ↦ by_place_at cs ps rs i w.1
        | inr w ↦ slice_get_past (with_pieces cs (by_place ps) rs) i (omega (arith, one, w.0)) ∙ sym (slice_get_past (with_pieces cs ps rs) i (omega (arith, other, w.0)))
      ])

  within-by_place : (cs : List (Command A)) (ps : List (Piece A)) → All (IsPlaceOf cs) (by_place ps) → All (IsPlaceOf cs) ps
  within-by_place cs ps h = All-permutation (IsPlaceOf cs) (by_place ps) ps (IsPermutation-sym ps (by_place ps) (same-by_place ps)) h

  module _ (cs : List (Command A)) (ps front back : List (Piece A)) (ls : List EmptyScan) (parts : ps ≡ by_place (woven (front ++ back) ls)) where
    both_within : All (IsPlaceOf cs) ps → All (IsPlaceOf cs) (front ++ back) × All (λ r. r.place < length cs) ls
    both_within h = within-woven cs (front ++ back) ls (within-by_place cs (woven (front ++ back) ls) (subst (All (IsPlaceOf cs)) parts h))

    pub first_within : All (IsPlaceOf cs) ps → All (IsPlaceOf cs) front
    first_within h = within-front cs (front ++ back) front back refl (both_within h).0

    pub others_within : All (IsPlaceOf cs) ps → All (IsPlaceOf cs) back
    others_within h = within-back cs (front ++ back) front back refl (both_within h).0

    pub rowless_within : All (IsPlaceOf cs) ps → All (λ r. r.place < length cs) ls
    rowless_within h = (both_within h).1

    pub with_pieces-all : (rs one two end : List (Reply A)) → one ≡ with_pieces cs front rs → two ≡ with_pieces cs back one → end ≡ with_pieces cs (map piece_of_empty_scan ls) two → end ≡ with_pieces cs ps rs
    with_pieces-all rs one two end e f h =
        h ∙ ap (with_pieces cs (map piece_of_empty_scan ls)) (with_pieces-parts cs (front ++ back) front back refl rs one two e f)
        ∙ sym (with_pieces-by_place cs (woven (front ++ back) ls) rs ∙ with_pieces-woven cs (front ++ back) ls rs) ∙ ap (λ (qs : List (Piece A)). with_pieces cs qs rs) (sym parts)

    pub count-two : (rs one two : List (Reply A)) → one ≡ with_pieces cs front rs → two ≡ with_pieces cs back one → length two ≡ length rs
    count-two rs one two e f = ap length f ∙ length-with_pieces cs back one ∙ ap length e ∙ length-with_pieces cs front rs

  -- ---- answers of one kind

  -- the answer is one to a scan, or is not
  abbrev IsOfKind : Bool → Reply A → Type 0
  IsOfKind b r = is_rows r ≡ b

  all_rows : (r : Reply A) → is_rows r ≡ true → r ≡ Rows (rows_of r)
  all_rows (Rows rows) h = refl
  all_rows _ h = absurd (cc)

  -- the answer is one to a wipe, or is not
  abbrev IsCounted : Bool → Reply A → Type 0
  IsCounted b r = is_count r ≡ b

  all_counted : (r : Reply A) → is_count r ≡ true → r ≡ Wiped (count_of r)
  all_counted (Wiped count) h = refl
  all_counted _ h = absurd (cc)

  goes_over : (limit : ℕ) (at r : Reply A) → is_rows r ≡ false → is_count r ≡ false → with_answer limit at r ≡ r
  goes_over limit at (Rows rows) h n = absurd (cc)
  goes_over limit at (Wiped count) h n = absurd (cc)
  goes_over limit at _ h n = refl

  -- rows to a scan come to the first `limit` of them all
  added-rows : (limit : ℕ) (xs : List (List ℕ × List ℕ)) (rs : List (Reply A)) → All (IsOfKind true) rs → added limit (Some (Rows (take limit xs))) rs ≡ Some (Rows (take limit (xs ++ flat_map rows_of rs)))
  unfolding added
  added-rows limit xs [] h = rw (append-nil xs) refl
  added-rows limit xs (r ∷ rs) h =
      let first : r ≡ Rows (rows_of r) = all_rows r (All-head (IsOfKind true) r rs h) in
      let now : with_answer limit (Rows (take limit xs)) r ≡ Rows (take limit (xs ++ rows_of r)) = ap (with_answer limit (Rows (take limit xs))) first ∙ ap (λ (ys : List (List ℕ × List ℕ)). Rows ys) (take_front limit xs (rows_of r)) in
      ap (λ (at : Reply A). added limit (Some at) rs) now
      ∙ added-rows limit (xs ++ rows_of r) rs (All-tail (IsOfKind true) r rs h)
      ∙ ap (λ (ys : List (List ℕ × List ℕ)). Some (Rows (take limit ys))) (append_assoc xs (rows_of r) (flat_map rows_of rs))

  -- counts to a wipe come to their sum, as far as there is a number for it
  added-counts : (limit n : ℕ) (rs : List (Reply A)) → All (IsCounted true) rs → added limit (Some (Wiped (min n most_counted))) rs ≡ Some (Wiped (min (n + sum_by count_of rs) most_counted))
  unfolding added
  added-counts limit n [] h = ap (λ (m : ℕ). Some (Wiped (min m most_counted))) (omega arith)
  added-counts limit n (r ∷ rs) h =
      let first : r ≡ Wiped (count_of r) = all_counted r (All-head (IsCounted true) r rs h) in
      let now : with_answer limit (Wiped (min n most_counted)) r ≡ Wiped (min (n + count_of r) most_counted) = ap (with_answer limit (Wiped (min n most_counted))) first ∙ ap (λ (m : ℕ). Wiped m) (min_twice n (count_of r) most_counted) in
      ap (λ (at : Reply A). added limit (Some at) rs) now
      ∙ added-counts limit (n + count_of r) rs (All-tail (IsCounted true) r rs h)
      ∙ ap (λ (m : ℕ). Some (Wiped (min m most_counted))) (let sum = sum_by-cons count_of r rs in omega (arith, sum))

  -- one answer to another command is the reply
  added-one : (limit : ℕ) (at : Reply A) (rs : List (Reply A)) → All (IsOfKind false) rs → All (IsCounted false) rs → length rs ≡ 1 → added limit (Some at) rs ≡ lone rs
  unfolding added
  added-one limit at [] h n one = absurd (omega arith)
  added-one limit at (r ∷ []) h n one = ap (λ (x : Reply A). Some x) (goes_over limit at r (All-head (IsOfKind false) r [] h) (All-head (IsCounted false) r [] n))
  added-one limit at (r ∷ (q ∷ rs)) h n one = absurd (omega arith)

  by_joining : (j : Joining) (rs : List (Reply A)) → All (IsOfKind (is_of_rows j)) rs → All (IsCounted (is_of_counts j)) rs → (is_of_rows j ≡ false → is_of_counts j ≡ false → length rs ≡ 1)
      → added (limit_in j) (Some (blank_in j)) rs ≡ joined_by j rs
  by_joining Alone rs h n one = added-one 0 Missing rs h n (one refl refl)
  by_joining (RowsUpTo limit) rs h n one = ap (λ (xs : List (List ℕ × List ℕ)). added limit (Some (Rows xs)) rs) (sym (nothing_first limit)) ∙ added-rows limit [] rs h
  by_joining Summed rs h n one =
      let none : 0 ≡ min 0 most_counted = omega arith in
      let all : 0 + sum_by (count_of {A = A}) rs ≡ sum_by (count_of {A = A}) rs = omega arith in
      ap (λ (m : ℕ). added 0 (Some (Wiped m)) rs) none ∙ added-counts 0 0 rs n ∙ ap (λ (m : ℕ). Some (Wiped (min m most_counted))) all

  -- what is answered neither with rows nor with a count is on one key
  on_one_key : (c : Command A) → is_scan c ≡ false → is_wipe c ≡ false → is_ranged c ≡ false
  on_one_key (Scan lo hi limit) h n = absurd (cc)
  on_one_key (Wipe lo hi) h n = absurd (cc)
  on_one_key _ h n = refl

  -- the answers at a place are of the kind of its command
  kinds_by : (test : Reply A → Bool) (at_place : ℕ → Bool) (b c : Bool) (p : Piece A) (ps : List (Piece A)) (i : ℕ) → (p.place == i) ≡ c → at_place i ≡ b → test p.reply ≡ at_place p.place → All (λ r. test r ≡ b) (replies_of ps)
      → All (λ r. test r ≡ b) (replies_of (cond c (p ∷ ps) ps))
  kinds_by test at_place b true p ps i here scan kind rest =
      All-cons (λ r. test r ≡ b) p.reply (replies_of ps) (kind ∙ ap at_place (eqb-true p.place i here) ∙ scan) rest
  kinds_by test at_place b false p ps i here scan kind rest = rest

  kinds : (test : Reply A → Bool) (at_place : ℕ → Bool) (b : Bool) (ps : List (Piece A)) (i : ℕ) → at_place i ≡ b → All (λ p. test p.reply ≡ at_place p.place) ps → All (λ r. test r ≡ b) (replies_of (pieces_at ps i))
  kinds test at_place b [] i scan h = All-nil (λ (r : Reply A). test r ≡ b)
  kinds test at_place b (p ∷ ps) i scan h =
      kinds_by test at_place b (p.place == i) p (pieces_at ps i) i refl scan (All-head (λ p. test p.reply ≡ at_place p.place) p ps h)
      (kinds test at_place b ps i scan (All-tail (λ p. test p.reply ≡ at_place p.place) p ps h))

  -- ---- the list of replies

  abbrev blanks_of : List (Command A) → List (Reply A)
  blanks_of cs = map blank_of cs

  at_place : (cs : List (Command A)) (ps : List (Piece A)) (i : ℕ) (c : Command A) → AreAnswers cs ps → i < length cs → slice_get cs i ≡ Some c
      → added (limit_by (slice_get cs i)) (slice_get (blanks_of cs) i) (replies_of (pieces_at ps i)) ≡ reply_at cs ps i
  unfolding added
  at_place cs ps i c answers within is =
      let scan : is_scan_at cs i ≡ is_scan c = ap (is_some_that is_scan) is in
      let blank : slice_get (blanks_of cs) i ≡ Some (blank_of c) = slice_get-map blank_of cs i ∙ ap (option_map blank_of) is in
      let wipe : is_wipe_at cs i ≡ is_wipe c = ap (is_some_that is_wipe) is in
      let one : is_scan c ≡ false → is_wipe c ≡ false → length (replies_of (pieces_at ps i)) ≡ 1 =
      (λ h n. length-map (pieces_at ps i) (λ p. p.reply) ∙ answers.once i within (ap (is_some_that is_ranged) is ∙ on_one_key c h n)) in
      let rows = kinds is_rows (is_scan_at cs) (is_scan c) ps i scan answers.kind in
      let counts = kinds is_count (is_wipe_at cs) (is_wipe c) ps i wipe answers.counts in
      rw (blank, is) (by_joining (joining_of c) (replies_of (pieces_at ps i)) rows counts one)

  past : (cs : List (Command A)) (ps : List (Piece A)) (xs : List (Reply A)) (i : ℕ) → length xs ≡ length cs → length cs ≤ i → slice_get xs i ≡ reply_at cs ps i
  past cs ps xs i len h = slice_get_past xs i (omega arith) ∙ sym (ap (λ (o : Option (Command A)). joined_replies_at o (replies_of (pieces_at ps i))) (slice_get_past cs i h))

  pub length-blanks : (cs : List (Command A)) → length (blanks_of cs) ≡ length cs
  length-blanks cs = length-map cs blank_of

  -- and so long is the list that pieces make of the blanks
  pub count-with_pieces : (cs : List (Command A)) (ps : List (Piece A)) → length (with_pieces cs ps (blanks_of cs)) ≡ length cs
  count-with_pieces cs ps = length-with_pieces cs ps (blanks_of cs) ∙ length-blanks cs

  -- the list that the pieces make of the blanks has the reply of each place
  pub replies-with_pieces : (cs : List (Command A)) (ps : List (Piece A)) → AreAnswers cs ps → (i : ℕ) → slice_get (with_pieces cs ps (blanks_of cs)) i ≡ reply_at cs ps i
  replies-with_pieces cs ps answers i = elim ((slice_get_cases cs i).1) [
    | inl w ↦ with_pieces-get cs ps (blanks_of cs) i (let all = length-blanks cs in let h = w.1 in omega arith) ∙ at_place cs ps i w.0 answers w.1 w.2
    | inr w ↦ past cs ps (with_pieces cs ps (blanks_of cs)) i (count-with_pieces cs ps) w.0
  ]

  -- ---- the law

  -- the rows of the pieces at a place, each after those of the piece before it
  abbrev pub rows_at : List (Piece A) → ℕ → List (List ℕ × List ℕ)
  rows_at ps place = flat_map (λ p. rows_of p.reply) (pieces_at ps place)

  rows_joined : (ps : List (Piece A)) → flat_map rows_of (replies_of ps) ≡ flat_map (λ (p : Piece A). rows_of p.reply) ps
  rows_joined [] = refl
  rows_joined (p ∷ ps) = ap (λ (xs : List (List ℕ × List ℕ)). rows_of p.reply ++ xs) (rows_joined ps)

  -- a scan's reply is the rows of its pieces, up to the limit
  pub reply_at-scan : (cs : List (Command A)) (ps : List (Piece A)) (place : ℕ) (lo : List ℕ) (hi : Option (List ℕ)) (limit : ℕ) → slice_get cs place ≡ Some (Scan lo hi limit)
      → reply_at cs ps place ≡ Some (Rows (take limit (rows_at ps place)))
  reply_at-scan cs ps place lo hi limit is =
      ap (λ (o : Option (Command A)). joined_replies_at o (replies_of (pieces_at ps place))) is ∙ ap (λ (xs : List (List ℕ × List ℕ)). Some (Rows (take limit xs))) (rows_joined (pieces_at ps place))

  -- and a wipe's is the sum of their counts
  counts_joined : (ps : List (Piece A)) → sum_by count_of (replies_of ps) ≡ sum_by (λ (p : Piece A). count_of p.reply) ps
  counts_joined [] = refl
  counts_joined (p ∷ ps) =
      sum_by-cons count_of p.reply (replies_of ps) ∙ ap (λ (n : ℕ). count_of p.reply + n) (counts_joined ps) ∙ sym (sum_by-cons (λ (q : Piece A). count_of q.reply) p ps)

  pub reply_at-wipe : (cs : List (Command A)) (ps : List (Piece A)) (place : ℕ) (lo : List ℕ) (hi : Option (List ℕ)) → slice_get cs place ≡ Some (Wipe lo hi)
      → reply_at cs ps place ≡ Some (Wiped (min (sum_by (λ p. count_of p.reply) (pieces_at ps place)) most_counted))
  reply_at-wipe cs ps place lo hi is =
      ap (λ (o : Option (Command A)). joined_replies_at o (replies_of (pieces_at ps place))) is ∙ ap (λ (n : ℕ). Some (Wiped (min n most_counted))) (counts_joined (pieces_at ps place))

  -- the reply to a command on one key is the lone answer
  pub joined_replies-lone : (c : Command A) (rs : List (Reply A)) → is_ranged c ≡ false → joined_replies c rs ≡ lone rs
  joined_replies-lone (Scan lo hi limit) rs h = absurd (cc)
  joined_replies-lone (Wipe lo hi) rs h = absurd (cc)
  joined_replies-lone _ rs h = refl

  joined_replies_at-lone : (o : Option (Command A)) (c : Command A) (rs : List (Reply A)) → o ≡ Some c → is_some_that is_ranged o ≡ false → joined_replies_at o rs ≡ lone rs
  joined_replies_at-lone None c rs is h = absurd (cc)
  joined_replies_at-lone (Some d) c rs is h = joined_replies-lone d rs h

  -- the one piece of a place, where its command is on one key
  abbrev IsOnePiece : List (Command A) → List (Piece A) → ℕ → Type 0
  IsOnePiece cs ps i = (length (pieces_at ps i) ≡ 1) × (reply_at cs ps i ≡ lone (replies_of (pieces_at ps i)))

  one_piece : (cs : List (Command A)) (ps : List (Piece A)) (i : ℕ) → AreAnswers cs ps → i < length cs → is_ranged_at cs i ≡ false → IsOnePiece cs ps i
  one_piece cs ps i answers h plain = elim ((slice_get_cases cs i).1) [
    | inl w ↦ (answers.once i h plain, joined_replies_at-lone (slice_get cs i) w.0 (replies_of (pieces_at ps i)) w.2 plain)
    | inr w ↦ absurd (let past = w.0 in omega arith)
  ]

  alone : (p : Piece A) (front back : List (Piece A)) → length (front ++ p ∷ back) ≡ 1 → lone (replies_of (front ++ p ∷ back)) ≡ Some p.reply
  alone p [] [] h = refl
  alone p [] (b ∷ back) h = absurd (omega arith)
  alone p (f ∷ front) back h = absurd (omega (arith, length-append front (p ∷ back)))

  -- if there is one piece at a place, its reply is the only one there
  alone_at : (p : Piece A) (front back : List (Piece A)) → length (pieces_at (front ++ p ∷ back) p.place) ≡ 1 → lone (replies_of (pieces_at (front ++ p ∷ back) p.place)) ≡ Some p.reply
  alone_at p front back h =
      let here : pieces_at (p ∷ back) p.place ≡ p ∷ pieces_at back p.place = cond-true (p.place == p.place) (p ∷ pieces_at back p.place) (pieces_at back p.place) (eq-eqb p.place p.place refl) in
      let parts : pieces_at (front ++ p ∷ back) p.place ≡ pieces_at front p.place ++ p ∷ pieces_at back p.place = filter-append (λ q. q.place == p.place) front (p ∷ back) ∙ ap (λ (qs : List (Piece A)). pieces_at front p.place ++ qs) here in
      ap (λ (qs : List (Piece A)). lone (replies_of qs)) parts ∙ alone p (pieces_at front p.place) (pieces_at back p.place) (sym (ap length parts) ∙ h)

  -- the reply at the place of a piece is the piece's, if the command is on one key
  pub reply_at-piece : (cs : List (Command A)) (ps : List (Piece A)) → AreAnswers cs ps → All (λ p. is_ranged_at cs p.place ≡ false → reply_at cs ps p.place ≡ Some p.reply) ps
  reply_at-piece cs ps answers k d h plain =
      let p : Piece A = get_or ps k d in
      let parts : ps ≡ take k ps ++ p ∷ drop (k + 1) ps = sym (take-append-drop k ps) ∙ ap (λ (qs : List (Piece A)). take k ps ++ qs) (drop_more ps k d h) in
      let one = one_piece cs ps p.place answers (answers.within k d h) plain in
      one.1 ∙ subst (λ (qs : List (Piece A)). lone (replies_of (pieces_at qs p.place)) ≡ Some p.reply) (sym parts) (alone_at p (take k ps) (drop (k + 1) ps) (subst (λ (qs : List (Piece A)). length (pieces_at qs p.place) ≡ 1) parts one.0))

  -- each piece's reply is at its place in the list, except for pieces of scans and wipes
  abbrev HasPieces : List (Command A) → List (Reply A) → Piece A → Type 0
  HasPieces cs rs p = is_ranged_at cs p.place ≡ false → slice_get rs p.place ≡ Some p.reply

  read_lone : (cs : List (Command A)) (rs : List (Reply A)) (qs : List (Piece A)) (i : ℕ) → length qs ≡ 1 → is_ranged_at cs i ≡ false → All (λ q. (q.place == i) ≡ true) qs → All (HasPieces cs rs) qs → lone (replies_of qs) ≡ slice_get rs i
  read_lone cs rs [] i h plain at reported = absurd (omega arith)
  read_lone cs rs (p ∷ []) i h plain at reported =
      let here : p.place ≡ i = eqb-true p.place i (All-head (λ q. (q.place == i) ≡ true) p [] at) in
      sym (All-head (HasPieces cs rs) p [] reported (ap (is_ranged_at cs) here ∙ plain)) ∙ ap (slice_get rs) here
  read_lone cs rs (p ∷ (q ∷ qs)) i h plain at reported = absurd (omega arith)

  module _ (cs : List (Command A)) (ps : List (Piece A)) (rs : List (Reply A)) (answers : AreAnswers cs ps) (reported : All (HasPieces cs rs) ps)
      (scans : (place : ℕ) (lo : List ℕ) (hi : Option (List ℕ)) (limit : ℕ) → slice_get cs place ≡ Some (Scan lo hi limit) → slice_get rs place ≡ Some (Rows (take limit (rows_at ps place))))
      (wipes : (place : ℕ) (lo : List ℕ) (hi : Option (List ℕ)) → slice_get cs place ≡ Some (Wipe lo hi) → slice_get rs place ≡ Some (Wiped (min (sum_by (λ p. count_of p.reply) (pieces_at ps place)) most_counted))) where
    plain_there : (i : ℕ) → i < length cs → is_ranged_at cs i ≡ false → reply_at cs ps i ≡ slice_get rs i
    plain_there i h plain =
        let one = one_piece cs ps i answers h plain in
        one.1 ∙ read_lone cs rs (pieces_at ps i) i one.0 plain (filter_passes (λ q. q.place == i) ps) (All-filter (λ q. q.place == i) (HasPieces cs rs) ps reported)

    there : (i : ℕ) (c : Command A) → i < length cs → slice_get cs i ≡ Some c → reply_at cs ps i ≡ slice_get rs i
    there i (Scan lo hi limit) h is = reply_at-scan cs ps i lo hi limit is ∙ sym (scans i lo hi limit is)
    there i (Wipe lo hi) h is = reply_at-wipe cs ps i lo hi is ∙ sym (wipes i lo hi is)
    there i _ h is = plain_there i h (ap (is_some_that is_ranged) is)

    -- the list with all of these at their places is the list of the replies
    pub replies_determined : (xs : List (Reply A)) → ((i : ℕ) → slice_get xs i ≡ reply_at cs ps i) → length rs ≡ length cs → xs ≡ rs
    replies_determined xs made len = same_at_each xs rs (λ i. made i ∙ (elim ((slice_get_cases cs i).1) [
      | inl w ↦ there i w.0 w.1 w.2
      | inr w ↦ sym (past cs ps rs i len w.0)
    ]))
