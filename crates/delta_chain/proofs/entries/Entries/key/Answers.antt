use Rattle.delta_chain.proofs.Places.{key_of_entry}
use Rattle.delta_chain.proofs.entries.Entries.key.Goals as goal

pub returns : goal.returns
returns g c = key_of_entry c.args.self.now c.args.at c.entry.result.now c.as_bytes.result.now c.entry.ensures c.as_bytes.ensures
