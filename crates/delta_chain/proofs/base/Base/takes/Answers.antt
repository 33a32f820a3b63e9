use Rattle.std.proofs.Common.{◌-◌, arith, refl}
use Rattle.delta_chain.proofs.Rising.{goes_last-key}
use Rattle.delta_chain.proofs.base.Base.takes.Goals as goal

pub returns : goal.returns
returns g c =
    let last = goes_last-key c.args.self.now (c.len-count.result - 1) c.key.result.now c.args.key.now (omega (arith, c.len-count.ensures.count, c.if-count-eq0.false)) c.key.ensures in
    rw (c.is_lt.ensures, c.compare.ensures, last) refl
