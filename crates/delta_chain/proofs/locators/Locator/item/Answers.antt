use Rattle.delta_chain.proofs.LocatorLemmas.{at_within, change_is}
use Rattle.delta_chain.proofs.locators.Locator.item.Goals as goal

pub item-requires : goal.item-requires
item-requires g c = at_within c.args.runs.now c.args.self c.index-runs-self.result c.index-runs-self.is c.requires

pub returns : goal.returns
returns g c = change_is c.args.runs.now c.args.self c.index-runs-self.result c.index-runs-self.is c.requires c.item.result.now c.item.ensures
