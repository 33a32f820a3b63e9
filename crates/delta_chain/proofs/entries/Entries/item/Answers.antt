use Rattle.delta_chain.proofs.Places.{item_of_entry}
use Rattle.delta_chain.proofs.entries.Entries.item.Goals as goal

pub returns : goal.returns
returns g c = item_of_entry c.args.self.now c.args.at c.entry.result.now c.entry.ensures
