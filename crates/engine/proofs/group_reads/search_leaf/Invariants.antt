use Rattle.std.proofs.Common.{◌≡◌, ◌++◌, map, take}
use Rattle.delta_chain.specs.Layers.{entries_of}
use Rattle.engine.specs.GroupReads.{piece_of}
use Rattle.engine.proofs.GroupLemmas.{get_answer}
use Rattle.engine.proofs.group_reads.search_leaf.Given as goal

abbrev pub invariant-loop-place : goal.invariant-loop-place
invariant-loop-place l = map piece_of l.found.items ≡ map piece_of l.fn.found.items ++ map (get_answer l.commands (entries_of l.leaf.chain.now)) (take l.place-index l.place-items)
