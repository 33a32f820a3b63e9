use Rattle.mapping.specs.Finding.{finding}
use Rattle.mapping.specs.TreeInMemory.{tree_of}
use Rattle.engine.proofs.Verified.{refused_for_memory}
use Rattle.engine.proofs.store.Store.verify.Goals as goal

pub returns-clause-err : goal.returns-clause-err
returns-clause-err g c =
    let settings = c.self.inside.settings in
    let tree = tree_of c.self.inside.tree in
    let proper = c.self.invariant.sound.is.proper in
    refused_for_memory c.verify.result (finding settings tree)
    ((c.nothing_is_found_exactly_in_a_proper_tree.ensures settings tree proper.tree).1 proper) c.verify.ensures.err
