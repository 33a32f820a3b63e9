use Rattle.delta_chain.specs.Layers.{entries_of}
use Rattle.scan.specs.Edge.{is_under}
use Rattle.scan.proofs.PlaceLemmas.{whole_leaf}
use Rattle.scan.proofs.leaf.LeafWalk.restart.Goals as goal

pub returns-then-bounds-gt0 : goal.returns-then-bounds-gt0
returns-then-bounds-gt0 g c = whole_leaf g.W.Towards.direction c.direction.result (is_under c.outermost.result) (entries_of c.args.chain.now) c.new.result c.outermost.ensures c.direction.ensures c.new.ensures
