use Rattle.std.proofs.Common.{◌≡◌}
use Rattle.mapping.specs.Finding.{unmet}
use Rattle.mapping.specs.TreeInMemory.{tree_of}
use Rattle.verify.proofs.MetLemmas.{unmet_of}
use Rattle.verify.proofs.walk.first_unmet.Given as goal

-- the first unvisited pid among the remaining ones is the first one of all
abbrev pub invariant-loop-pid : goal.invariant-loop-pid
invariant-loop-pid l = unmet_of l.met l.pid-iterator ≡ unmet l.met (tree_of l.tree).pages
