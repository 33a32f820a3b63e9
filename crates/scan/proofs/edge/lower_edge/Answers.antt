use Rattle.std.proofs.Common.{◌≡◌, length, rules}
use Rattle.scan.proofs.EdgeLemmas.{none_under_empty}
use Rattle.scan.proofs.edge.lower_edge.Goals as goal

pub returns-then-is_empty : goal.returns-then-is_empty
returns-then-is_empty c =
    let none : length c.args.lo.now ≡ 0 = search (rules, c.if-is_empty.ensures) in
    none_under_empty c.args.lo.now none
