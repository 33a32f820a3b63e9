-- The consequences of the invariant after all passes were merged into one state.
use Rattle.std.proofs.Common.{◌≡◌, ℕ, zero, suc, ◌+◌, ◌-◌, ◌<◌, ◌≤◌, min, cond, ltb, List, [], ◌∷◌, ◌++◌, take, drop, set, Bool, true, false, get_or, get_or-set_other, get_or-drop, take_all, drop_of_length-le, length-drop, length, refl, sym, ap, subst, ◌∙◌, arith}
use Rattle.std.specs.Prelude.{slice_index}
use mathlib.Core.Option.{some, some-injective, some-ne-none}
use mathlib.Core.Logic.{dite}
use native.Mathlib.Decide.{dec_le}
use Rattle.std.proofs.lemmas.List.{take_more}
use lib.ListN.{get_elem?}
use Rattle.atomic_table.specs.Table.{Final, Seen}
use Rattle.claim_board.specs.declared.rule.PassState.{PassState}
use Rattle.claim_board.specs.declared.rule.Slot.{Slot}
use Rattle.claim_board.specs.Counting.{times, total, HasEachBelowOnce}
use Rattle.claim_board.specs.Rule.{slots_of, Keeps}
use Rattle.claim_board.specs.declared.rule.Slot.TheVariants.{Piece}
use Rattle.claim_board.proofs.Totals.{one-le-total}
use Rattle.claim_board.proofs.Slots.{at_below, piece_at, last_at}

-- if h of each is 0, so is the total of f
none_counts : {V : Type 0} (h f : V → ℕ) (vs : List V) → total h vs ≡ 0 → ((i : ℕ) (v : V) → get_elem? vs i ≡ some v → h v ≡ 0 → f v ≡ 0) → total f vs ≡ 0
none_counts h f [] e z = refl
none_counts h f (x ∷ xs) e z = let here = z zero x refl (omega arith) in let rest = none_counts h f xs (omega arith) (λ i v e k. z (suc i) v e k) in omega arith

-- if one has all of h, it alone counts
alone : {V : Type 0} (h f : V → ℕ) (vs : List V) (i : ℕ) (v : V) → get_elem? vs i ≡ some v → total h vs ≡ h v → ((j : ℕ) (u : V) → get_elem? vs j ≡ some u → h u ≡ 0 → f u ≡ 0) → total f vs ≡ f v
alone h f [] i v at e z = absurd (some-ne-none v (sym at))
alone h f (x ∷ xs) zero v at e z =
    let s = some-injective x v at in let a = ap h s in let b = ap f s in
    let rest = none_counts h f xs (omega arith) (λ i u e k. z (suc i) u e k) in omega arith
alone h f (x ∷ xs) (suc i) v at e z =
    let one = one-le-total h xs i v at in
    let here = z zero x refl (omega arith) in
    let rest = alone h f xs i v at (omega arith) (λ j u e k. z (suc j) u e k) in omega arith

module _ {P : Type 0} (all : List P) (last : Slot P) (count : ℕ) where
  -- what the pass state shows of a closed table whose first word is w
  pub record Ends (w : ℕ) (v : PassState P) (slots : List (Slot P)) : Type 0 where
    pub once : HasEachBelowOnce (length v.drawn) v.drawn
    pub many : length v.drawn ≡ min w (length all)
    pub miss_past_end : 0 < v.misses → length all < w
    pub home : (k : ℕ) (y : Slot P) → length v.drawn ≤ k → get_elem? (slots_of all last) k ≡ some y → get_elem? slots k ≡ some y

  pub ends : (id : ℕ) (v : PassState P) (words : List ℕ) (slots : List (Slot P)) (w : ℕ) → v.passes ≡ count → get_elem? words 0 ≡ some w → Final (Seen (Keeps all last count) id v) words slots → Ends w v slots
  ends id v words slots w whole at_word final =
      let s = final.0 in let k = final.1.0 in let at = final.1.1 in
      let word : slice_index s.words 0 ≡ w = ap (λ ws. slice_index ws 0) final.2 ∙ first_is words w at_word in
      let f = k.fits id v at in
      let many : length v.drawn ≡ min w (length all) =
      sym (alone (λ u. u.passes) (λ u. length u.drawn) s.views id v at (k.passes ∙ sym whole) (λ j u e none. ap length ((k.fits j u e).spent none)))
      ∙ k.many ∙ ap (λ n. min n (length all)) word in
      record {
        once = λ x.
            sym (alone (λ u. u.passes) (λ u. times x u.drawn) s.views id v at (k.passes ∙ sym whole) (λ j u e none. ap (times x) ((k.fits j u e).spent none)))
            ∙ k.once x ∙ ap (λ n. cond (ltb x (min n (length all))) 1 0) word ∙ ap (λ n. cond (ltb x n) 1 0) (sym many);
        many = many;
        miss_past_end = λ d. let past = f.miss_past_end d in omega arith;
        home = λ i y le e. final.4 i y (k.home i y (omega arith) e);
      }
    where
      first_is : (ws : List ℕ) (n : ℕ) → get_elem? ws 0 ≡ some n → slice_index ws 0 ≡ n
      first_is [] n e = absurd (some-ne-none n (sym e))
      first_is (x ∷ xs) n e = some-injective x n e

  -- the slot after the pieces has what it had at the start
  pub last_is : (w : ℕ) (v : PassState P) (slots : List (Slot P)) (k : ℕ) (y : Slot P) → Ends w v slots → k ≡ length all → get_elem? slots k ≡ some y → y ≡ last
  last_is w v slots k y e end at =
      let many = e.many in
      let home = e.home (length all) last (omega arith) (last_at all last) in
      some-injective y last (sym at ∙ ap (λ j. get_elem? slots j) end ∙ home)

  -- the slot of an unclaimed piece has its piece
  pub piece_is : (w : ℕ) (v : PassState P) (slots : List (Slot P)) (k : ℕ) (y : Slot P) → Ends w v slots → k < length all → w ≤ k → get_elem? slots k ≡ some y → (x : P) × (get_elem? all k ≡ some x) × (y ≡ Piece x)
  piece_is w v slots k y e below le at =
      let x = at_below all k below in let many = e.many in
      let home = e.home k (Piece x.0) (omega arith) (piece_at all last k x.0 x.1) in
      (x.0, x.1, some-injective y (Piece x.0) (sym at ∙ home))

at_get : {A : Type 0} (l : List A) (i : ℕ) (a d : A) → get_elem? l i ≡ some a → get_or l i d ≡ a
at_get [] i a d e = absurd (some-ne-none a (sym e))
at_get (x ∷ xs) zero a d e = some-injective x a e
at_get (x ∷ xs) (suc i) a d e = at_get xs i a d e

-- the list of the remaining pieces, with one more
pub more : {A : Type 0} (all old : List A) (w i : ℕ) (x : A) → w ≤ i → i < length all → get_elem? all i ≡ some x → old ≡ take (i - w) (drop w all) → old ++ x ∷ [] ≡ take (i + 1 - w) (drop w all)
more all old w i x le lt at e =
    let l = drop w all in
    let n : i - w + 1 ≡ i + 1 - w = omega arith in
    let here : get_or l (i - w) x ≡ x = get_or-drop w all (i - w) x ∙ ap (λ k. get_or all k x) (let k : w + (i - w) ≡ i = omega arith in k) ∙ at_get all i x x at in
    ap (λ o. o ++ x ∷ []) e ∙ ap (λ y. take (i - w) l ++ y ∷ []) (sym here) ∙ sym (take_more l (i - w) x (omega (arith, length-drop w all))) ∙ ap (λ k. take k l) n

-- before the first remaining piece the list stays empty
pub fewer : {A : Type 0} (all old : List A) (w i : ℕ) → i < w → old ≡ take (i - w) (drop w all) → old ≡ take (i + 1 - w) (drop w all)
fewer all old w i lt e = let n : i - w ≡ i + 1 - w = omega arith in e ∙ ap (λ k. take k (drop w all)) n

-- at the end the list has all remaining pieces
pub rest_is : {A : Type 0} (all : List A) (w i : ℕ) → length all ≤ i → take (i - w) (drop w all) ≡ drop (min w (length all)) all
rest_is all w i le =
    take_all (i - w) (drop w all) (omega (arith, length-drop w all))
    ∙ dite (dec_le w (length all))
    (λ y. let m : w ≡ min w (length all) = omega arith in ap (λ k. drop k all) m)
    (λ no. let m : length all ≡ min w (length all) = omega arith in drop_of_length-le all {i = w} (omega arith) ∙ sym (drop_of_length-le all {i = length all} (omega arith)) ∙ ap (λ k. drop k all) m)

-- which slots are filled after those below i, and the last one, were taken
abbrev pub Taken : ℕ → ℕ → List Bool → Type 0
Taken i count f =
    ((k : ℕ) → i ≤ k → k < count → get_or f k false ≡ true)
    × ((k : ℕ) → k < i → get_or f k false ≡ false)
    × (get_or f count false ≡ false)

set_false : (f : List Bool) (i : ℕ) → get_or (set f i false) i false ≡ false
set_false [] i = refl
set_false (x ∷ xs) zero = refl
set_false (x ∷ xs) (suc i) = set_false xs i

pub taken_next : (f : List Bool) (i count : ℕ) → i < count → Taken i count f → Taken (i + 1) count (set f i false)
taken_next f i count lt t = (
  (λ k a b. get_or-set_other f i k false false (λ e. omega arith) ∙ t.0 k (omega arith) b),
  (λ k a. dite (dec_le i k)
      (λ y. let here : k ≡ i = omega arith in subst (λ j. get_or (set f i false) j false ≡ false) (sym here) (set_false f i))
      (λ no. get_or-set_other f i k false false (λ e. omega arith) ∙ t.1 k (omega arith))),
  get_or-set_other f i count false false (λ e. omega arith) ∙ t.2,
)

pub taken_last : (f : List Bool) (count : ℕ) → ((k : ℕ) → k < count + 1 → get_or f k false ≡ true) → Taken 0 count (set f count false)
taken_last f count full = (
  (λ k a b. get_or-set_other f count k false false (λ e. omega arith) ∙ full k (omega arith)),
  (λ k a. absurd (omega arith)),
  set_false f count,
)

-- at the end none is filled
pub taken_all : (f : List Bool) (i count : ℕ) → count ≤ i → Taken i count f → (k : ℕ) → k < count + 1 → get_or f k false ≡ false
taken_all f i count le t k lt = dite (dec_le count k) (λ y. let here : k ≡ count = omega arith in subst (λ j. get_or f j false ≡ false) (sym here) t.2) (λ no. t.1 k (omega arith))
