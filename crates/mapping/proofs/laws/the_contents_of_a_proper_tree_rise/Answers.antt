use Rattle.std.specs.Prelude.{None}
use Rattle.mapping.specs.Levels.{levels_of}
use Rattle.mapping.proofs.TileLemmas.{rising-joined}
use Rattle.mapping.proofs.laws.the_contents_of_a_proper_tree_rise.Goals as goal

pub returns : goal.returns
returns c = λ s t h. rising-joined (levels_of t).level None h.levels.tiled
