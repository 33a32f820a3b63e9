use Rattle.mapping.proofs.SameTree.{same_tree}
use Rattle.mapping.proofs.laws.a_proper_tree_is_determined_by_its_pages.Goals as goal

pub returns : goal.returns
returns c = same_tree
