use Rattle.std.proofs.Common.{refl, ◌∙◌}
use Rattle.scan.specs.Edge.{is_under}
use Rattle.scan.proofs.EdgeLemmas.{none_under, all_under}
use Rattle.scan.proofs.edge.count_under.Goals as goal

pub returns-in-Low-clause-count : goal.returns-in-Low-clause-count
returns-in-Low-clause-count g c = none_under (is_under c.args.edge.now) (g.L.KeyList.keys c.args.list.now) (λ k. rw c.in-Low.is refl)

pub returns-in-High-clause-count : goal.returns-in-High-clause-count
returns-in-High-clause-count g c = c.len-count.ensures.count ∙ all_under (is_under c.args.edge.now) (g.L.KeyList.keys c.args.list.now) (λ k. rw c.in-High.is refl)
