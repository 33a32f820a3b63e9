use Rattle.std.proofs.Common.{◌≡◌, ◌∙◌, List, ℕ, length, ap, sym, arith}
use Rattle.std.proofs.Math.Nat.{min-eq_left, min-eq_right}
use Rattle.bwsh.proofs.asks.count_first.Goals as goal

pub returns-then-count-most : goal.returns-then-count-most
returns-then-count-most c =
    let more = ap (λ (rows : List (List ℕ × List ℕ)). length rows) c.in-Some.ensures.steps in
    sym (min-eq_left (omega (arith, more)))

pub returns : goal.returns
returns c =
    let none = ap (λ (rows : List (List ℕ × List ℕ)). length rows) c.in_default.ensures.steps.0 in
    let all : c.loop-row.count ≡ length c.args.rows.now = omega (arith, none) in
    all ∙ sym (min-eq_right (omega (arith, all)))
