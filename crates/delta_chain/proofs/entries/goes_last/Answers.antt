use Rattle.std.proofs.Common.{refl, sym}
use Rattle.delta_chain.proofs.Rising.{goes_last-some}
use Rattle.delta_chain.proofs.entries.goes_last.Goals as goal

pub returns-in-Some : goal.returns-in-Some
returns-in-Some g c =
    let last = goes_last-some c.args.items.now c.args.key.now c.in-Some.last.now (sym c.in-Some.ensures.value) in
    rw (c.is_lt.ensures, c.compare.ensures, c.key_ref.ensures, last) refl
