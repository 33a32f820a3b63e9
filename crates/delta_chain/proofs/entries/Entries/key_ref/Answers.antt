use Rattle.delta_chain.proofs.Places.{key_of_entry}
use Rattle.delta_chain.proofs.entries.Entries.key_ref.Goals as goal

pub returns : goal.returns
returns g c = key_of_entry c.args.self.now c.args.at c.entry.result.now c.key_ref.result c.entry.ensures c.key_ref.ensures
