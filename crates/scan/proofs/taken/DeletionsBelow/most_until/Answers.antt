use Rattle.std.proofs.Common.{arith}
use Rattle.scan.proofs.TakenLemmas.{most_between}
use Rattle.scan.proofs.taken.DeletionsBelow.most_until.Goals as goal

pub returns : goal.returns
returns c = λ gone low high apart before here.
    let least = c.if-end-self.false in
    most_between low high apart gone c.args.self.now c.args.end.now c.saturating_sub.result before here (omega (arith, least)) c.saturating_sub.ensures
