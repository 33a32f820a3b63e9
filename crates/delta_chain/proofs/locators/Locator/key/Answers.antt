use Rattle.delta_chain.proofs.LocatorLemmas.{at_within, key_is}
use Rattle.delta_chain.proofs.locators.Locator.key.Goals as goal

pub key-requires : goal.key-requires
key-requires g c = at_within c.args.runs.now c.args.self c.index-runs-self.result c.index-runs-self.is c.requires

pub returns : goal.returns
returns g c = key_is c.args.runs.now c.args.self c.index-runs-self.result c.index-runs-self.is c.requires c.key.result.now c.key.ensures
