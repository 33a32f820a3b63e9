use Rattle.mapping.specs.Levels.{contents}
use Rattle.engine.proofs.BoundsLemmas.{counted_within}
use Rattle.engine.proofs.store.Store.count.Goals as goal

pub returns : goal.returns
returns g c = λ known.
    counted_within (g.B.RangeBounds.start_bound c.args.bounds) (g.B.RangeBounds.end_bound c.args.bounds) (contents c.args.self.now.store.tree) c.pairs_in.result c.count.result 0
    c.pairs_fit.ensures.fit (c.pairs_in.ensures known) c.count.ensures
