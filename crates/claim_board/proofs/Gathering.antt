-- Merging all passes into one state.
use Rattle.std.proofs.Common.{◌≡◌, ℕ, ◌+◌, ◌<◌, cond, ltb, List, [], ◌∷◌, ◌++◌, drop, length, length-append, sym, ap, subst, ◌∙◌, arith, IsTrue}
use Rattle.std.specs.List.{All, Any}
use Rattle.std.proofs.lemmas.List.Elements.{All-pop}
use Rattle.std.specs.Prelude.{Some}
use Rattle.atomic_table.proofs.Lists.{at_index}
use Rattle.claim_board.specs.declared.draw.Board.{Board}
use Rattle.claim_board.specs.declared.draw.Pass.{Pass}
use Rattle.claim_board.specs.declared.rule.PassState.{PassState}
use Rattle.claim_board.specs.Counting.{times, total}
use Rattle.claim_board.specs.Passes.{drawn_by, drawn_by_all, found_none, IsPassOf, Closes}
use Rattle.claim_board.specs.Rule.{Leaves}
use Rattle.claim_board.proofs.Totals.{total-append, one-le-total, times-append, times-flat_map, length-flat_map}

total-pop : {V : Type 0} (f : V → ℕ) (vs ws : List V) (v : V) → vs ≡ ws ++ v ∷ [] → total f vs ≡ total f ws + f v
total-pop f vs ws v e = let same = ap (total f) e in let a = total-append f ws (v ∷ []) in omega arith

module _ {P : Type 0} (board : Board P) where
  abbrev misses_of : Pass P → ℕ
  misses_of pass = pass.seat.me.0.misses

  -- the state has everything that all passes had, except the remaining ones
  pub record Gathered (all : PassState P) (left passes : List (Pass P)) : Type 0 where
    pub mine : All (IsPassOf board) left
    pub some : 0 < all.passes
    pub stands : all.passes + length left ≡ length passes
    pub drawn : (x : ℕ) → times x all.drawn + total (λ pass. times x (drawn_by pass)) left ≡ total (λ pass. times x (drawn_by pass)) passes
    pub many : length all.drawn + total (λ pass. length (drawn_by pass)) left ≡ total (λ pass. length (drawn_by pass)) passes
    pub misses : all.misses + total misses_of left ≡ total misses_of passes

  pub gathers_first : (passes left : List (Pass P)) (first : Pass P) → All (IsPassOf board) passes → passes ≡ left ++ first ∷ [] → Gathered first.seat.me.0 left passes
  gathers_first passes left first mine e =
      let parts = All-pop (IsPassOf board) passes left (Some first) e mine in
      let one = parts.1.one in record {
        mine = parts.0;
        some = omega arith;
        stands = let l = ap length e in omega (arith, length-append left (first ∷ []));
        drawn = λ x. let t = total-pop (λ pass. times x (drawn_by pass)) passes left first e in omega arith;
        many = let t = total-pop (λ pass. length (drawn_by pass)) passes left first e in omega arith;
        misses = let t = total-pop misses_of passes left first e in omega arith;
      }

  pub gathers_next : (all new : PassState P) (passes left rest : List (Pass P)) (pass : Pass P) → left ≡ rest ++ pass ∷ [] → Gathered all left passes
      → new.passes ≡ all.passes + 1 → new.drawn ≡ all.drawn ++ drawn_by pass → new.misses ≡ all.misses + misses_of pass → Gathered new rest passes
  gathers_next all new passes left rest pass e g more drew missed =
      let parts = All-pop (IsPassOf board) left rest (Some pass) e g.mine in record {
        mine = parts.0;
        some = omega arith;
        stands = let l = ap length e in let s = g.stands in omega (arith, length-append rest (pass ∷ []));
        drawn = λ x.
            let t = total-pop (λ p. times x (drawn_by p)) left rest pass e in let d = g.drawn x in
            let n = ap (times x) drew in let a = times-append x all.drawn (drawn_by pass) in omega arith;
        many =
            let t = total-pop (λ p. length (drawn_by p)) left rest pass e in let d = g.many in
            let n = ap length drew in omega (arith, length-append all.drawn (drawn_by pass));
        misses = let t = total-pop misses_of left rest pass e in let d = g.misses in omega arith;
      }

  some_missed : (passes : List (Pass P)) → All (IsPassOf board) passes → Any (λ pass. IsTrue (found_none pass)) passes → 0 < total misses_of passes
  some_missed passes mine any =
      let pass = any.1 in
      let is = subst (IsPassOf board) any.3 (mine any.0 pass any.2) in
      let missed = is.spent any.4 in
      let one = one-le-total misses_of passes any.0 pass (at_index passes any.0 pass any.2 (sym any.3)) in omega arith

  -- after the last pass is merged, the state gives what closing returns
  pub closes : (all : PassState P) (pieces given : List P) (left passes : List (Pass P)) → left ≡ [] → All (IsPassOf board) passes → Gathered all left passes → Leaves pieces all given → Closes pieces passes given
  closes all pieces given left passes none mine g leaves =
      let many : length (drawn_by_all passes) ≡ length all.drawn =
      (let z = ap (total (λ (pass : Pass P). length (drawn_by pass))) none in let d = g.many in let f = length-flat_map drawn_by passes in omega arith) in
      let within = leaves.within in record {
        once = λ x.
            let same : times x (drawn_by_all passes) ≡ times x all.drawn =
            (let z = ap (total (λ (pass : Pass P). times x (drawn_by pass))) none in let d = g.drawn x in let f = times-flat_map drawn_by x passes in omega arith) in
            same ∙ leaves.once x ∙ ap (λ n. cond (ltb x n) 1 0) (sym many);
        within = omega arith;
        left_are = leaves.left_are ∙ ap (λ n. drop n pieces) (sym many);
        none_left = λ any.
            let z = ap (total misses_of) none in let d = g.misses in let missed = some_missed passes mine any in
            many ∙ leaves.none_left (omega arith);
      }
