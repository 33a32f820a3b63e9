use Rattle.std.proofs.Common.{ap, ◌∙◌}
use Rattle.mapping.specs.TreeInMemory.{tree_of}
use Rattle.verify.proofs.MetLemmas.{unmet_of, unmet-pids}
use Rattle.verify.proofs.walk.first_unmet.Goals as goal

pub loop-pid-init : goal.loop-pid-init
loop-pid-init c =
    ap (unmet_of c.args.met.now) (c.into_iter-pid-iterator.ensures.into_iter_gives ∙ c.pids-pid-items.ensures) ∙ unmet-pids c.args.met.now (tree_of c.args.tree.now).pages
