use Rattle.std.proofs.Common.{length, ap, arith}
use Rattle.std.proofs.lemmas.List.{length-reverse}
use Rattle.delta_chain.proofs.RunList.{page-newer}
use Rattle.delta_chain.proofs.chain.Chain.newest_above.Goals as goal

pub offset_bounds-deref-count : goal.offset_bounds-deref-count
offset_bounds-deref-count g c =
    let within = rw (← c.self.view_is) at c.requires in
    omega (arith, within, length-reverse c.self.inside.runs.items, ap length c.deref.ensures.value)

pub slice_bounds-result-count : goal.slice_bounds-result-count
slice_bounds-result-count g c = offset_bounds-deref-count g c

pub slice_bounds-result-start : goal.slice_bounds-result-start
slice_bounds-result-start g c = offset_bounds-deref-count g c

pub returns : goal.returns
returns g c = rw (← c.self.view_is, c.deref.ensures.value) (page-newer c.self.inside.runs.items c.self.inside.base c.args.count)
