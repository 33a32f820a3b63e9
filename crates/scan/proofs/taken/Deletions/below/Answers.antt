use Rattle.std.proofs.Common.{sym}
use Rattle.scan.proofs.TakenLemmas.{taken_below}
use Rattle.scan.proofs.taken.Deletions.below.Goals as goal

pub returns : goal.returns
returns c = λ gone.
    taken_below gone c.args.self.now c.self.inside.deleted c.self.inside.wiped_from c.self.inside.wiped_to c.args.key.now c.new-key.result c.below.result c.below-2.result c.up_to.result
    (sym c.self.view_is) c.new-key.ensures c.below.ensures c.below-2.ensures c.up_to.ensures
