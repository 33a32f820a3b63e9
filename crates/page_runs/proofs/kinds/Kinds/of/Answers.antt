use Rattle.std.proofs.Common.{get_or, true, sym, refl, arith}
use Rattle.std.proofs.lemmas.List.{drop_more}
use Rattle.page_runs.proofs.ReadLemmas.{one_looks, looked_up}
use Rattle.page_runs.proofs.kinds.Kinds.of.Goals as goal

pub loop-place-preserved : goal.loop-place-preserved
loop-place-preserved c = λ none.
    let batch = c.args.commands.now in
    let places = c.args.places.now in
    let at = c.loop-place.place-index in
    let place = get_or places at 0 in
    let said = c.count.ensures none in
    one_looks batch places at place (drop_more places at 0 (omega arith)) true (sym (rw (looked_up batch place c.get.result c.get.ensures.lookup) at said.1)) (c.loop-place.invariant said.0) refl
