use Rattle.std.proofs.lemmas.Result.{IfOk-at_ok}
use Rattle.mapping.specs.TreeInMemory.{tree_of}
use Rattle.routing.specs.Shares.{lent_shares, shares_down, AreInBatchOrder}
use Rattle.routing.proofs.DownLemmas.{both_in_order, parts_keyed, parts_can, down-append}
use Rattle.routing.proofs.descent.+below.Goals as goal

pub runs_below-runs_of_both-requires-clause-low : goal.runs_below-runs_of_both-requires-clause-low
runs_below-runs_of_both-requires-clause-low g t c κs within =
    let whole = c.split_at.ensures.by_index.0 in
    let pages = (tree_of c.args.tree.now).pages in
    let cs = c.args.batch.now in
    let all = c.args.shares.now in
    ((parts_can pages cs c.args.levels all _ _ whole c.requires.ready).0, (parts_keyed pages cs all _ _ whole c.requires.keys).0)

pub runs_below-runs_of_both-requires-clause-high : goal.runs_below-runs_of_both-requires-clause-high
runs_below-runs_of_both-requires-clause-high g t c κs within =
    let whole = c.split_at.ensures.by_index.0 in
    let pages = (tree_of c.args.tree.now).pages in
    let cs = c.args.batch.now in
    let all = c.args.shares.now in
    ((parts_can pages cs c.args.levels all _ _ whole c.requires.ready).1, (parts_keyed pages cs all _ _ whole c.requires.keys).1)

pub runs_of_both-returns : goal.runs_of_both-returns
runs_of_both-returns g t c =
    let pages = (tree_of c.args.tree.now).pages in
    let cs = c.args.batch.now in
    let n = c.args.levels in
    let low = lent_shares c.args.low.now in
    let high = lent_shares c.args.high.now in
    let first = IfOk-at_ok (λ runs. AreInBatchOrder (shares_down pages cs n low) runs.items) c.in_ok-runs.was c.join-low.ensures.first in
    let second = IfOk-at_ok (λ runs. AreInBatchOrder (shares_down pages cs n high) runs.items) c.in_ok-rest.was c.join-low.ensures.second in
    rw (c.in_ok-append.ensures.items, down-append pages cs n low high) (both_in_order (shares_down pages cs n low) (shares_down pages cs n high) c.in_ok-runs.runs.items c.in_ok-rest.rest.items first second)
