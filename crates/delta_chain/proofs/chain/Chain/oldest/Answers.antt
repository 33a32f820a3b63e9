use Rattle.std.proofs.Common.{length, sym, ap, arith}
use Rattle.std.proofs.lemmas.List.{length-reverse, length-take-le}
use Rattle.delta_chain.proofs.RunList.{page-oldest}
use Rattle.delta_chain.proofs.chain.Chain.oldest.Goals as goal

pub slice_bounds-result-end : goal.slice_bounds-result-end
slice_bounds-result-end g c =
    let within = rw (← c.self.view_is) at c.requires in
    sym (length-take-le c.args.count c.deref.result.now (omega (arith, within, length-reverse c.self.inside.runs.items, ap length c.deref.ensures.value)))

pub returns : goal.returns
returns g c =
    let within = rw (← c.self.view_is) at c.requires in
    rw (← c.self.view_is, c.deref.ensures.value) (page-oldest c.self.inside.runs.items c.self.inside.base c.args.count within)
