use Rattle.std.proofs.Common.{ℕ, List, length, ap, arith}
use Rattle.engine.proofs.store.numbers.count.Goals as goal

pub returns : goal.returns
returns c =
    let none = ap (λ (pairs : List (List ℕ × List ℕ)). length pairs) c.in_default.ensures.steps.0 in
    omega (arith, none, c.loop-pair.invariant.0, c.loop-pair.invariant.1)
