use Rattle.mapping.specs.Levels.{contents}
use Rattle.mapping.specs.TreeInMemory.{tree_of}
use Rattle.scan.proofs.RangeLemmas.{same_between}
use Rattle.scan.proofs.range.Range.new.Goals as goal

pub returns : goal.returns
returns c = same_between _ _ _ _ (contents (tree_of c.args.tree.now)) c.front_from-front.ensures.alike c.back_from-back.ensures.alike
