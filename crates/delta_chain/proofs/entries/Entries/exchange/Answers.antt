use Rattle.delta_chain.specs.Kept.{entries_kept}
use Rattle.delta_chain.proofs.Exchanging.{rising-exchanged_at}
use Rattle.delta_chain.proofs.entries.Entries.exchange.Goals as goal

pub invariant_of-self : goal.invariant_of-self
invariant_of-self g c =
    rw c.exchange.ensures.new (rising-exchanged_at (entries_kept c.self.inside.kept) c.args.at c.args.item c.self.invariant)
