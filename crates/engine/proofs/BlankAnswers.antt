-- Answers without some blank ones to commands on ranges: they are correct too, and make the same replies.
use Rattle.std.specs.Prelude.{◌≡◌, ℕ, ◌+◌, ◌==◌, min, Bool, true, false, cond, List, [], ◌∷◌, ◌++◌, flat_map, take, length, slice_get, Option, Some, None}
use Rattle.std.proofs.Common.{refl, sym, ap, ◌∙◌, subst, arith, inl, inr, eqb-true}
use Rattle.std.specs.List.{All, AllByRecursion, sum_by}
use Rattle.std.proofs.lemmas.List.Elements.{All-from_recursion, recursion_from_All}
use Rattle.std.proofs.lemmas.List.Sums.{sum_by-cons}
use Rattle.keys.specs.CommandKey.{is_ranged}
use Rattle.keys.specs.Places.{is_some_that, is_scan_at, is_wipe_at, is_ranged_at}
use Rattle.keys.specs.declared.command.Command.{Command}
use Rattle.keys.specs.declared.command.Command.TheVariants.{Get, Put, Add, Del, Scan, Wipe}
use Rattle.keys.specs.declared.command.Reply.{Reply}
use Rattle.keys.specs.declared.command.Reply.TheVariants.{Rows, Wiped}
use Rattle.keys.specs.declared.piece.Piece.{Piece}
use Rattle.page_runs.proofs.IdleBatch.{IsBlank, AreButBlank}
use Rattle.replies.specs.ByPlace.{pieces_at, rows_of, is_rows, count_of, is_count, most_counted, joined_replies, joined_replies_at, reply_at, IsPlaceOf, AreAnswers}
use Rattle.replies.proofs.Placing.{replies_of}

module _ {A : Type 0} where
  no_rows : (r : Reply A) → IsBlank r → rows_of r ≡ []
  no_rows r (inl e) = ap (λ (x : Reply A). rows_of x) e
  no_rows r (inr e) = ap (λ (x : Reply A). rows_of x) e

  no_count : (r : Reply A) → IsBlank r → count_of r ≡ 0
  no_count r (inl e) = ap (λ (x : Reply A). count_of x) e
  no_count r (inr e) = ap (λ (x : Reply A). count_of x) e

  module _ (cs : List (Command A)) where
    pub but_append : {qs ps us vs : List (Piece A)} → AreButBlank cs qs ps → AreButBlank cs us vs → AreButBlank cs (qs ++ us) (ps ++ vs)
    but_append (AreButBlank.none) b = b
    but_append (AreButBlank.next p a) b = AreButBlank.next p (but_append a b)
    but_append (AreButBlank.left_out p r e a) b = AreButBlank.left_out p r e (but_append a b)

    all_but : (P : Piece A → Type 0) {qs ps : List (Piece A)} → AreButBlank cs qs ps → AllByRecursion P ps → AllByRecursion P qs
    all_but P (AreButBlank.none) h = tt
    all_but P (AreButBlank.next p a) h = (h.0, all_but P a h.1)
    all_but P (AreButBlank.left_out p r e a) h = all_but P a h.1

    all_of_but : (P : Piece A → Type 0) (qs ps : List (Piece A)) → AreButBlank cs qs ps → All P ps → All P qs
    all_of_but P qs ps a h = All-from_recursion P qs (all_but P a (recursion_from_All P ps h))

    -- ---- at a place whose command is on one key

    first_by : (b : Bool) (p : Piece A) (qs ps : List (Piece A)) → qs ≡ ps → cond b (p ∷ qs) qs ≡ cond b (p ∷ ps) ps
    first_by b p qs ps e = ap (λ (xs : List (Piece A)). cond b (p ∷ xs) xs) e

    out_by : (b : Bool) (i : ℕ) (p : Piece A) (ps : List (Piece A)) → (p.place == i) ≡ b → is_ranged_at cs i ≡ false → is_ranged_at cs p.place ≡ true → ps ≡ cond b (p ∷ ps) ps
    out_by true i p ps e f r = absurd (let same : p.place ≡ i = eqb-true p.place i e in let t : is_ranged_at cs i ≡ true = subst (λ (n : ℕ). is_ranged_at cs n ≡ true) same r in cc)
    out_by false i p ps e f r = refl

    -- there is no blank one
    same_pieces : (i : ℕ) {qs ps : List (Piece A)} → is_ranged_at cs i ≡ false → AreButBlank cs qs ps → pieces_at qs i ≡ pieces_at ps i
    same_pieces i f (AreButBlank.none) = refl
    same_pieces i f (AreButBlank.next {qs = qs} {ps = ps} p a) = first_by (p.place == i) p (pieces_at qs i) (pieces_at ps i) (same_pieces i f a)
    same_pieces i f (AreButBlank.left_out {qs = qs} {ps = ps} p r e a) = same_pieces i f a ∙ out_by (p.place == i) i p (pieces_at ps i) refl f r

    -- ---- rows and counts

    rows_next : (b : Bool) (p : Piece A) (qs ps : List (Piece A)) → flat_map rows_of (replies_of qs) ≡ flat_map rows_of (replies_of ps) → flat_map rows_of (replies_of (cond b (p ∷ qs) qs)) ≡ flat_map rows_of (replies_of (cond b (p ∷ ps) ps))
    rows_next true p qs ps e = ap (λ (xs : List (List ℕ × List ℕ)). rows_of p.reply ++ xs) e
    rows_next false p qs ps e = e

    rows_out : (b : Bool) (p : Piece A) (ps : List (Piece A)) → rows_of p.reply ≡ [] → flat_map rows_of (replies_of ps) ≡ flat_map rows_of (replies_of (cond b (p ∷ ps) ps))
    rows_out true p ps e = ap (λ (xs : List (List ℕ × List ℕ)). xs ++ flat_map rows_of (replies_of ps)) (sym e)
    rows_out false p ps e = refl

    same_rows : (i : ℕ) {qs ps : List (Piece A)} → AreButBlank cs qs ps → flat_map rows_of (replies_of (pieces_at qs i)) ≡ flat_map rows_of (replies_of (pieces_at ps i))
    same_rows i (AreButBlank.none) = refl
    same_rows i (AreButBlank.next {qs = qs} {ps = ps} p a) = rows_next (p.place == i) p (pieces_at qs i) (pieces_at ps i) (same_rows i a)
    same_rows i (AreButBlank.left_out {qs = qs} {ps = ps} p r e a) = same_rows i a ∙ rows_out (p.place == i) p (pieces_at ps i) (no_rows p.reply e)

    sum_next : (b : Bool) (p : Piece A) (qs ps : List (Piece A)) → sum_by count_of (replies_of qs) ≡ sum_by count_of (replies_of ps) → sum_by count_of (replies_of (cond b (p ∷ qs) qs)) ≡ sum_by count_of (replies_of (cond b (p ∷ ps) ps))
    sum_next true p qs ps e = sum_by-cons count_of p.reply (replies_of qs) ∙ ap (λ (n : ℕ). count_of p.reply + n) e ∙ sym (sum_by-cons count_of p.reply (replies_of ps))
    sum_next false p qs ps e = e

    sum_out : (b : Bool) (p : Piece A) (ps : List (Piece A)) → count_of p.reply ≡ 0 → sum_by count_of (replies_of ps) ≡ sum_by count_of (replies_of (cond b (p ∷ ps) ps))
    sum_out true p ps e = let more = sum_by-cons count_of p.reply (replies_of ps) in omega (arith, e, more)
    sum_out false p ps e = refl

    same_sums : (i : ℕ) {qs ps : List (Piece A)} → AreButBlank cs qs ps → sum_by count_of (replies_of (pieces_at qs i)) ≡ sum_by count_of (replies_of (pieces_at ps i))
    same_sums i (AreButBlank.none) = refl
    same_sums i (AreButBlank.next {qs = qs} {ps = ps} p a) = sum_next (p.place == i) p (pieces_at qs i) (pieces_at ps i) (same_sums i a)
    same_sums i (AreButBlank.left_out {qs = qs} {ps = ps} p r e a) = same_sums i a ∙ sum_out (p.place == i) p (pieces_at ps i) (no_count p.reply e)

    -- ---- the replies that they make

    plain_at : (i : ℕ) (c : Command A) → slice_get cs i ≡ Some c → is_ranged c ≡ false → is_ranged_at cs i ≡ false
    plain_at i c e p = ap (λ (o : Option (Command A)). is_some_that is_ranged o) e ∙ p

    plain_reply : (i : ℕ) (c : Command A) (qs ps : List (Piece A)) → slice_get cs i ≡ Some c → is_ranged c ≡ false → AreButBlank cs qs ps → joined_replies c (replies_of (pieces_at qs i)) ≡ joined_replies c (replies_of (pieces_at ps i))
    plain_reply i c qs ps e p a = ap (λ (xs : List (Piece A)). joined_replies c (replies_of xs)) (same_pieces i (plain_at i c e p) a)

    reply_by : (i : ℕ) (o : Option (Command A)) (qs ps : List (Piece A)) → slice_get cs i ≡ o → AreButBlank cs qs ps → joined_replies_at o (replies_of (pieces_at qs i)) ≡ joined_replies_at o (replies_of (pieces_at ps i))
    reply_by i None qs ps e a = refl
    reply_by i (Some (Get k)) qs ps e a = plain_reply i (Get k) qs ps e refl a
    reply_by i (Some (Put k v)) qs ps e a = plain_reply i (Put k v) qs ps e refl a
    reply_by i (Some (Add k v)) qs ps e a = plain_reply i (Add k v) qs ps e refl a
    reply_by i (Some (Del k)) qs ps e a = plain_reply i (Del k) qs ps e refl a
    reply_by i (Some (Scan lo hi limit)) qs ps e a = let made : List (List ℕ × List ℕ) → Option (Reply A) = λ xs. Some (Rows (take limit xs)) in ap made (same_rows i a)
    reply_by i (Some (Wipe lo hi)) qs ps e a = let made : ℕ → Option (Reply A) = λ n. Some (Wiped (min n most_counted)) in ap made (same_sums i a)

    -- they make the same replies
    pub but_reply : (qs ps : List (Piece A)) → AreButBlank cs qs ps → (place : ℕ) → reply_at cs qs place ≡ reply_at cs ps place
    but_reply qs ps a i = reply_by i (slice_get cs i) qs ps refl a

    -- and are correct
    pub but_answers : (qs ps : List (Piece A)) → AreButBlank cs qs ps → AreAnswers cs ps → AreAnswers cs qs
    but_answers qs ps a h = record {
      within = all_of_but (IsPlaceOf cs) qs ps a h.within;
      kind = all_of_but (λ p. is_rows p.reply ≡ is_scan_at cs p.place) qs ps a h.kind;
      counts = all_of_but (λ p. is_count p.reply ≡ is_wipe_at cs p.place) qs ps a h.counts;
      once = λ place l plain. ap (λ (xs : List (Piece A)). length xs) (same_pieces place plain a) ∙ h.once place l plain;
    }
