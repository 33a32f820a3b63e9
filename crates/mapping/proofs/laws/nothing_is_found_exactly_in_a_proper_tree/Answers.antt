use Rattle.mapping.proofs.Walk.{nothing_found}
use Rattle.mapping.proofs.laws.nothing_is_found_exactly_in_a_proper_tree.Goals as goal

pub returns : goal.returns
returns c = nothing_found
