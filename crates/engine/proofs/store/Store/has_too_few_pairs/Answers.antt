use Rattle.std.proofs.Common.{arith}
use Rattle.std.proofs.lemmas.Bool.{ltb-true}
use Rattle.mapping.specs.TreeInMemory.{tree_of}
use Rattle.engine.proofs.RoomLemmas.{bloated-by}
use Rattle.engine.proofs.store.Store.has_too_few_pairs.Goals as goal

pub returns : goal.returns
returns g c = rw (← c.self.view_is) (λ pages yes.
    bloated-by c.self.inside.settings (tree_of c.self.inside.tree) c.self.inside.pairs c.most_pairs-most.result c.args.pages c.height.result c.self.invariant.counted (let few = ltb-true c.self.inside.pairs c.from.result yes in omega (arith, few, c.from.ensures))
    c.most_pairs-most.ensures pages c.height.ensures)
