use Rattle.scan.proofs.LeafLemmas.{start-some, start-none, first-pairs_after}
use Rattle.scan.proofs.SearchLemmas.{nearest_down}
use Rattle.scan.proofs.search.nearest.Goals as goal

pub returns-in-Down : goal.returns-in-Down
returns-in-Down c = rw c.in-Down.is (nearest_down c.args.key.now c.args.chain.now _ c.requires c.floor.ensures.value)

pub returns-in-Some : goal.returns-in-Some
returns-in-Some c = rw c.in-Up.is (start-some c.args.key.now c.args.chain.now c.requires _ _ c.in-Some.ensures.value c.floor-in-Some.ensures.value)

pub returns-in-None : goal.returns-in-None
returns-in-None c = rw c.in-Up.is (start-none c.args.key.now c.args.chain.now c.requires _ c.in-None.ensures.value (first-pairs_after c.args.key.now c.args.chain.now c.requires _ c.above.ensures.value))
