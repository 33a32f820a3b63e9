use Rattle.delta_chain.proofs.LocatorLemmas.{rising_changes}
use Rattle.delta_chain.proofs.change_list.ChangeList.new.Goals as goal

pub invariant_of-result : goal.invariant_of-result
invariant_of-result g c = (c.requires.all, rising_changes c.args.runs.now c.args.locators.now c.requires)
