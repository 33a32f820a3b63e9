use Rattle.std.proofs.Common.{◌∙◌, sym}
use Rattle.delta_chain.proofs.Places.{first_at}
use Rattle.delta_chain.proofs.merging.order_at.Goals as goal

pub returns-then-at-len : goal.returns-then-at-len
returns-then-at-len g c = c.compare.ensures ∙ sym (first_at c.args.pairs.now c.args.at c.key.result.now c.args.key.now c.key.ensures)
