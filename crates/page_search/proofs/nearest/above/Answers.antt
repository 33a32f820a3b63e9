use Rattle.delta_chain.specs.Layers.{entries_of}
use Rattle.delta_chain.proofs.LayerLemmas.{rising-entries_of}
use Rattle.page_search.specs.declared.side.Side.TheVariants.{Above}
use Rattle.page_search.proofs.AboveLemmas.{above-nearest}
use Rattle.page_search.proofs.NearestLemmas.{nearest-entries}
use Rattle.page_search.proofs.WalkLemmas.{above_by}
use Rattle.page_search.proofs.nearest.above.Goals as goal

pub nearest-requires : goal.nearest-requires
nearest-requires g c = rw c.lent.ensures c.depth-in_order.ensures.rising

pub returns-clause-value : goal.returns-clause-value
returns-clause-value g c =
    let rising = c.depth-in_order.ensures.rising in
    above-nearest c.args.key.now (entries_of c.args.chain.now) _ (rising-entries_of c.args.chain.now rising) (nearest-entries Above c.args.key.now c.args.chain.now _ rising (rw c.lent.ensures at c.nearest.ensures.value))

pub returns-clause-cost : goal.returns-clause-cost
returns-clause-cost g c =
    let rising = c.depth-in_order.ensures.rising in
    let value = above-nearest c.args.key.now (entries_of c.args.chain.now) _ (rising-entries_of c.args.chain.now rising) (nearest-entries Above c.args.key.now c.args.chain.now _ rising (rw c.lent.ensures at c.nearest.ensures.value)) in
    above_by c.args.key.now c.args.chain.now _ _ _ value (rw c.lent.ensures at c.nearest.ensures.cost)

pub returns-clause-one_walk : goal.returns-clause-one_walk
returns-clause-one_walk g c = rw c.lent.ensures at c.nearest.ensures.one_walk

pub returns-clause-least : goal.returns-clause-least
returns-clause-least g c = rw c.lent.ensures at c.nearest.ensures.least

pub returns-clause-kept : goal.returns-clause-kept
returns-clause-kept g c = c.nearest.ensures.kept
