use Rattle.std.proofs.Common.{◌≡◌, length, ap, arith}
use Rattle.engine.proofs.store.tidy.count_pages.Goals as goal

pub returns : goal.returns
returns c =
    let none : length c.pages.pid-iterator ≡ 0 = ap length c.in-None.ensures.steps.0 in
    omega (arith, c.pages.invariant.fits, c.pages.invariant.counted, none)
