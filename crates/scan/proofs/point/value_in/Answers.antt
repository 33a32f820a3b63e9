use Rattle.std.proofs.Common.{sym, ◌∙◌}
use Rattle.delta_chain.proofs.LayerLemmas.{value_at-entries_of}
use Rattle.scan.proofs.point.value_in.Goals as goal

pub returns : goal.returns
returns c = c.get.ensures ∙ sym (value_at-entries_of c.args.chain.now c.args.key.now c.depth-in_order.ensures.rising)
