use Rattle.std.proofs.Common.{length}
use Rattle.delta_chain.specs.Lazy.{seen}
use Rattle.mapping.specs.Levels.{levels_of, contents}
use Rattle.mapping.specs.TreeInMemory.{tree_of}
use Rattle.scan.specs.Path.{leaf_with}
use Rattle.scan.specs.Ends.{Deletions, later}
use Rattle.scan.specs.Deletions.{IsTaken, IsTakenBelow}
use Rattle.scan.proofs.EndLemmas.{IsPassing, AreCertainBefore}
use Rattle.scan.proofs.ends.end_of_scan.Given as goal

-- the walk is at a leaf of the level, before which this many pairs are certain, and knows what is deleted below that leaf
abbrev pub invariant-loop-next : goal.invariant-loop-next
invariant-loop-next l = record {
  passing : IsPassing (levels_of (tree_of l.tree)).level (leaf_with l.leaf.0.now (seen l.leaf.1.now)) l.leaves;
  before : (gone : Deletions) → IsTaken gone l.taken → IsTakenBelow gone (later l.leaf.0.now l.lo) l.before;
  certain : (gone : Deletions) → IsTaken gone l.taken → AreCertainBefore gone (contents (tree_of l.tree)) l.lo l.leaf.0.now l.certain;
}

abbrev pub decreases-loop-next : goal.decreases-loop-next
decreases-loop-next l = length l.leaves
