-- A claim preserves the invariant.
use Rattle.std.proofs.Common.{◌≡◌, ℕ, ◌+◌, ◌%◌, ◌^◌, ◌<◌, ◌≤◌, min, cond, eqb, ltb, List, [], ◌∷◌, ◌++◌, set, length, length-set, length-append, refl, sym, ap, subst, ◌∙◌, arith, ⊎_elim, mod-eq_of_lt}
use Rattle.std.specs.Prelude.{slice_index, slice_set}
use Rattle.std.specs.List.{All}
use Rattle.std.proofs.lemmas.List.Elements.{All-push}
use mathlib.Core.Option.{Option, some, none}
use mathlib.Core.Logic.{dite}
use native.Mathlib.Decide.{dec_le}
use Rattle.std.proofs.lemmas.Bool.Decides.{nat_tests}
use lib.ListN.{get_elem?}
use Rattle.atomic_table.specs.Table.{State, keeps, takes, Allows}
use Rattle.atomic_table.proofs.Lists.{at_set, set_else}
use Rattle.claim_board.specs.declared.rule.PassState.{PassState}
use Rattle.claim_board.specs.declared.rule.Slot.{Slot}
use Rattle.claim_board.specs.declared.rule.Slot.TheVariants.{Piece}
use Rattle.claim_board.specs.Counting.{times}
use Rattle.claim_board.specs.Rule.{hand, slots_of, Fits, Keeps, Draws}
use Rattle.claim_board.proofs.Totals.{total-set, one-le-total, total-le, times-append}
use Rattle.claim_board.proofs.Slots.{at_below, piece_at}

one_more_below : (x w : ℕ) → cond (ltb x w) 1 0 + cond (eqb w x) 1 0 ≡ cond (ltb x (w + 1)) 1 0
one_more_below x w = grind (arith, nat_tests)

word_set : (ws : List ℕ) (m : ℕ) → length ws ≡ 1 → slice_index (slice_set ws 0 m) 0 ≡ m
word_set [] m e = absurd (omega arith)
word_set (x ∷ xs) m e = refl

all_more : (w m : ℕ) (xs : List ℕ) → w ≤ m → All (λ k. k < w) xs → All (λ k. k < m) xs
all_more w m xs le h = λ k d l. let below = h k d l in omega arith

module _ {P : Type 0} (all : List P) (last : Slot P) (count : ℕ) where
  -- the word stays far below its greatest value
  small : (s : State (Slot P) (PassState P)) → Keeps all last count s → slice_index s.words 0 ≤ length all + count
  small s k =
      let few = total-le (λ (v : PassState P). v.misses) (λ v. v.passes) s.views (λ i v e. (k.fits i v e).few_misses) in
      let word = k.word_is in let passes = k.passes in omega arith

  fits_more : (w m : ℕ) (v : PassState P) → w ≤ m → Fits all w v → Fits all m v
  fits_more w m v le f = record { same_pieces = f.same_pieces; few_misses = f.few_misses; miss_past_end = λ d. let past = f.miss_past_end d in omega arith; below = all_more w m v.drawn le f.below; spent = f.spent }

  -- the word is incremented, and with it the claims or misses of one state
  steps : (s : State (Slot P) (PassState P)) (ws : List ℕ) (homes : List (Option (Slot P))) (id : ℕ) (v n : PassState P) → Keeps all last count s → get_elem? s.views id ≡ some v
      → length ws ≡ 1 → slice_index ws 0 ≡ slice_index s.words 0 + 1 → n.passes ≡ v.passes
      → min (slice_index ws 0) (length all) + n.misses ≡ min (slice_index s.words 0) (length all) + v.misses + 1
      → length n.drawn + min (slice_index s.words 0) (length all) ≡ length v.drawn + min (slice_index ws 0) (length all)
      → ((x : ℕ) → times x n.drawn + cond (ltb x (min (slice_index s.words 0) (length all))) 1 0 ≡ times x v.drawn + cond (ltb x (min (slice_index ws 0) (length all))) 1 0)
      → Fits all (slice_index ws 0) n
      → ((k : ℕ) (y : Slot P) → min (slice_index ws 0) (length all) ≤ k → get_elem? (slots_of all last) k ≡ some y → get_elem? homes k ≡ some (some y))
      → Keeps all last count record { words = ws; homes = homes; views = set s.views id n }
  steps s ws homes id v n k at one up passes missed drew each fits home =
      let m = slice_index ws 0 in
      record {
        one_word = one;
        word_is = let t = total-set (λ u. u.misses) s.views id v n at in let o = k.word_is in omega arith;
        once = λ x. let t = total-set (λ u. times x u.drawn) s.views id v n at in let o = k.once x in let e = each x in omega arith;
        many = let t = total-set (λ u. length u.drawn) s.views id v n at in let o = k.many in omega arith;
        passes = let t = total-set (λ u. u.passes) s.views id v n at in let o = k.passes in omega arith;
        fits = λ j u e.
            ⊎_elim
            (λ here. subst (Fits all m) here.1 fits)
            (λ other. fits_more (slice_index s.words 0) m u (omega arith) (k.fits j u other.1))
            (at_set s.views id j n u e);
        home = home;
      }

  -- the word w was below the number of pieces, and the state claimed piece w
  drew : (s : State (Slot P) (PassState P)) (ws : List ℕ) (id : ℕ) (v : PassState P) → Keeps all last count s → get_elem? s.views id ≡ some v → v.pieces ≡ all
      → 0 < v.passes → slice_index s.words 0 < length all → length ws ≡ 1 → slice_index ws 0 ≡ slice_index s.words 0 + 1
      → Keeps all last count record { words = ws; homes = set s.homes (slice_index s.words 0) none; views = set s.views id (hand v.pieces v.passes (v.drawn ++ slice_index s.words 0 ∷ []) v.misses) }
  drew s ws id v k at pieces part lt one up =
      let w = slice_index s.words 0 in let m = slice_index ws 0 in
      let low : min w (length all) ≡ w = omega arith in
      let high : min m (length all) ≡ w + 1 = omega arith in
      let f = k.fits id v at in
      steps s ws (set s.homes w none) id v (hand v.pieces v.passes (v.drawn ++ w ∷ []) v.misses) k at one up refl (omega arith)
      (omega (arith, length-append v.drawn (w ∷ [])))
      (λ x.
      let a = times-append x v.drawn (w ∷ []) in let o = one_more_below x w in
      let goal : times x (v.drawn ++ w ∷ []) + cond (ltb x w) 1 0 ≡ times x v.drawn + cond (ltb x (w + 1)) 1 0 = omega arith in
      ap (λ b. times x (v.drawn ++ w ∷ []) + cond (ltb x b) 1 0) low ∙ goal ∙ ap (λ b. times x v.drawn + cond (ltb x b) 1 0) (sym high))
      record {
        same_pieces = λ _. pieces;
        few_misses = f.few_misses;
        miss_past_end = λ d. let past = f.miss_past_end d in omega arith;
        below = All-push (λ k. k < m) v.drawn w (all_more w m v.drawn (omega arith) f.below) (omega arith);
        spent = λ z. absurd (omega arith);
      }
      (λ j y le e. set_else s.homes w j none (λ same. omega arith) ∙ k.home j y (omega arith) e)

  -- the word had passed the pieces
  missed : (s : State (Slot P) (PassState P)) (ws : List ℕ) (id : ℕ) (v : PassState P) → Keeps all last count s → get_elem? s.views id ≡ some v → v.pieces ≡ all
      → 0 < v.passes → v.misses ≡ 0 → length all ≤ slice_index s.words 0 → length ws ≡ 1 → slice_index ws 0 ≡ slice_index s.words 0 + 1
      → Keeps all last count record { words = ws; homes = s.homes; views = set s.views id (hand v.pieces v.passes v.drawn (v.misses + 1)) }
  missed s ws id v k at pieces part none_yet le one up =
      let w = slice_index s.words 0 in let m = slice_index ws 0 in
      let same : min w (length all) ≡ min m (length all) = omega arith in
      let f = k.fits id v at in
      steps s ws s.homes id v (hand v.pieces v.passes v.drawn (v.misses + 1)) k at one up refl (omega arith) (omega arith)
      (λ x. ap (λ b. times x v.drawn + cond (ltb x b) 1 0) same)
      record { same_pieces = λ _. pieces; few_misses = omega arith; miss_past_end = λ d. omega arith; below = all_more w m v.drawn (omega arith) f.below; spent = f.spent }
      (λ j y b e. k.home j y (omega arith) e)

  pub claims : (slots id : ℕ) (v : PassState P) (c : List (ℕ × Slot P)) → length all + count < 2 ^ 63 → v.pieces ≡ all → 0 < v.passes → v.misses ≡ 0
      → Allows (Keeps all last count) slots id (v, c) 0 (λ n. (n + 1) % 2 ^ 64) (λ n w. Draws (v, c) n w)
  claims slots id v c few pieces part none_yet s k homes at fits =
      let w = slice_index s.words 0 in
      let top = small s k in
      let next : (w + 1) % 2 ^ 64 ≡ w + 1 = mod-eq_of_lt (omega arith) in
      let ws = slice_set s.words 0 ((w + 1) % 2 ^ 64) in
      let one : length ws ≡ 1 = length-set s.words 0 ((w + 1) % 2 ^ 64) ∙ k.one_word in
      let up : slice_index ws 0 ≡ w + 1 = word_set s.words ((w + 1) % 2 ^ 64) k.one_word ∙ next in
      let same = ap length pieces in
      dite (dec_le (length all) w)
      (λ past. (
        hand v.pieces v.passes v.drawn (v.misses + 1),
        keeps,
        tt,
        missed s ws id v k at pieces part none_yet past one up,
        ((λ lt. absurd (omega arith)), (λ _. (refl, refl))),
      ))
      (λ not_past.
      let lt : w < length all = omega arith in
      let x = at_below all w lt in (
        hand v.pieces v.passes (v.drawn ++ w ∷ []) v.misses,
        takes w (Piece x.0),
        k.home w (Piece x.0) (omega arith) (piece_at all last w x.0 x.1),
        drew s ws id v k at pieces part lt one up,
        (
          (λ _. record {
            hand_is = refl;
            piece = x.0;
            taken = refl;
            piece_is = subst (λ l. get_elem? l w ≡ some x.0) (sym pieces) x.1;
            rising = (k.fits id v at).below;
            as_many = let o = one-le-total (λ (u : PassState P). length u.drawn) s.views id v at in let t = k.many in omega arith;
          }),
          (λ le. absurd (omega arith)),
        ),
      ))
