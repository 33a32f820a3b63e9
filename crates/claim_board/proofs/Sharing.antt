-- Splitting and merging passes preserves the invariant.
use Rattle.std.proofs.Common.{◌≡◌, ℕ, ◌+◌, ◌-◌, ◌<◌, List, [], ◌∷◌, ◌++◌, set, length, length-append, refl, sym, subst, ◌∙◌, arith, ⊎_elim}
use Rattle.std.specs.Prelude.{slice_index}
use Rattle.std.specs.List.{All}
use Rattle.std.proofs.lemmas.List.Elements.{All-append}
use mathlib.Core.Option.{some}
use mathlib.Core.Logic.{dite}
use native.Mathlib.Decide.{dec_le}
use lib.ListN.{get_elem?}
use Rattle.atomic_table.specs.Table.{Splits, Joins}
use Rattle.atomic_table.proofs.Lists.{at_set, at_snoc, set_else}
use Rattle.claim_board.specs.declared.rule.PassState.{PassState}
use Rattle.claim_board.specs.declared.rule.Slot.{Slot}
use Rattle.claim_board.specs.Counting.{times, total}
use Rattle.claim_board.specs.Rule.{hand, Fits, Keeps}
use Rattle.claim_board.proofs.Totals.{total-set, total-append, times-append}

total-cut : {V : Type 0} (f : V → ℕ) (vs : List V) (i : ℕ) (v l r : V) → get_elem? vs i ≡ some v → f l + f r ≡ f v → total f (set vs i l ++ r ∷ []) ≡ total f vs
total-cut f vs i v l r at e = let t = total-set f vs i v l at in let a = total-append f (set vs i l) (r ∷ []) in omega arith

total-joined : {V : Type 0} (f : V → ℕ) (vs : List V) (i j : ℕ) (v w b z : V) → get_elem? vs i ≡ some v → get_elem? (set vs i b) j ≡ some w → f b ≡ f v + f w → f z ≡ 0 → total f (set (set vs i b) j z) ≡ total f vs
total-joined f vs i j v w b z at there e zeroed = let t = total-set f vs i v b at in let u = total-set f (set vs i b) j w z there in omega arith

below_none : (k : ℕ) → All (λ x. x < k) []
below_none k = λ i d l. absurd (omega arith)

module _ {P : Type 0} (all : List P) (last : Slot P) (count : ℕ) where
  nothing_fits : (w : ℕ) → Fits all w (hand [] 0 [] 0)
  nothing_fits w = record { same_pieces = λ p. absurd (omega arith); few_misses = omega arith; miss_past_end = λ d. absurd (omega arith); below = below_none w; spent = λ _. refl }

  -- one pass state is split into two that fit
  splits : (id : ℕ) (v l r : PassState P) → l.misses + r.misses ≡ v.misses → l.passes + r.passes ≡ v.passes → length l.drawn + length r.drawn ≡ length v.drawn
      → ((x : ℕ) → times x l.drawn + times x r.drawn ≡ times x v.drawn)
      → ((w : ℕ) → Fits all w v → Fits all w l × Fits all w r) → Splits (Keeps all last count) id v l r
  splits id v l r misses passes many drawn both s k at =
      let w = slice_index s.words 0 in let f = both w (k.fits id v at) in
      record {
        one_word = k.one_word;
        word_is = let c = total-cut (λ u. u.misses) s.views id v l r at misses in let o = k.word_is in omega arith;
        once = λ x. total-cut (λ u. times x u.drawn) s.views id v l r at (drawn x) ∙ k.once x;
        many = total-cut (λ u. length u.drawn) s.views id v l r at many ∙ k.many;
        passes = total-cut (λ u. u.passes) s.views id v l r at passes ∙ k.passes;
        fits = λ j u e.
            ⊎_elim
            (λ old. ⊎_elim (λ here. subst (Fits all w) here.1 f.0) (λ other. k.fits j u other.1) (at_set s.views id j l u old))
            (λ new. subst (Fits all w) new f.1)
            (at_snoc (set s.views id l) r u j e);
        home = k.home;
      }

  -- all that a pass knows goes to a new seat
  pub hands_over : (id : ℕ) (v : PassState P) → Splits (Keeps all last count) id v (hand [] 0 [] 0) v
  hands_over id v = splits id v (hand [] 0 [] 0) v (omega arith) (omega arith) (omega arith) (λ x. omega arith) (λ w f. (nothing_fits w, f))

  -- one pass is cut off
  pub cuts_one : (id : ℕ) (v : PassState P) → 0 < v.passes → v.misses ≡ 0 → v.drawn ≡ [] → Splits (Keeps all last count) id v (hand v.pieces (v.passes - 1) v.drawn v.misses) (hand v.pieces 1 [] 0)
  cuts_one id v part none_missed none_drawn =
      splits id v (hand v.pieces (v.passes - 1) v.drawn v.misses) (hand v.pieces 1 [] 0) (omega arith) (omega arith) (omega arith) (λ x. omega arith)
      (λ w f. (
        record { same_pieces = λ _. f.same_pieces part; few_misses = omega arith; miss_past_end = f.miss_past_end; below = f.below; spent = λ _. none_drawn },
        record { same_pieces = λ _. f.same_pieces part; few_misses = omega arith; miss_past_end = λ d. absurd (omega arith); below = below_none w; spent = λ _. refl },
      ))

  -- another pass is merged into a pass
  pub joins : (id : ℕ) (v : PassState P) (other : ℕ) (w : PassState P) → 0 < v.passes
      → Joins (Keeps all last count) id v other w (hand v.pieces (v.passes + w.passes) (v.drawn ++ w.drawn) (v.misses + w.misses)) (hand [] 0 [] 0)
  joins id v other w part s k at apart there =
      let b = hand v.pieces (v.passes + w.passes) (v.drawn ++ w.drawn) (v.misses + w.misses) in
      let z = hand {P = P} [] 0 [] 0 in
      let n = slice_index s.words 0 in
      let at' : get_elem? s.views other ≡ some w = sym (set_else s.views id other b apart) ∙ there in
      let f = k.fits id v at in let g = k.fits other w at' in
      record {
        one_word = k.one_word;
        word_is = let c = total-joined (λ u. u.misses) s.views id other v w b z at there refl refl in let o = k.word_is in omega arith;
        once = λ x. total-joined (λ u. times x u.drawn) s.views id other v w b z at there (times-append x v.drawn w.drawn) refl ∙ k.once x;
        many = total-joined (λ u. length u.drawn) s.views id other v w b z at there (length-append v.drawn w.drawn) refl ∙ k.many;
        passes = total-joined (λ u. u.passes) s.views id other v w b z at there refl refl ∙ k.passes;
        fits = λ j u e.
            ⊎_elim
            (λ here. subst (Fits all n) here.1 (nothing_fits n))
            (λ rest.
            ⊎_elim
            (λ here. subst (Fits all n) here.1
            record {
              same_pieces = λ _. f.same_pieces part;
              few_misses = let a = f.few_misses in let c = g.few_misses in omega arith;
              miss_past_end = λ d. dite (dec_le 1 v.misses) (λ y. f.miss_past_end y) (λ no. g.miss_past_end (omega arith));
              below = All-append (λ i. i < n) v.drawn w.drawn f.below g.below;
              spent = λ e. absurd (omega arith);
            })
            (λ old. k.fits j u old.1)
            (at_set s.views id j b u rest.1))
            (at_set (set s.views id b) other j z u e);
        home = k.home;
      }
