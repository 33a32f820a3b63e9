use Rattle.std.proofs.Common.{ap, ◌∙◌}
use Rattle.keys.specs.Order.{order}
use Rattle.delta_chain.specs.Located.{keys_of_runs, IsIn}
use Rattle.delta_chain.proofs.LocatorLemmas.{all-there, within_keys, key_of_change}
use Rattle.delta_chain.proofs.change_list.ChangeListKeyList.compare_at.Goals as goal

pub locator_at-requires : goal.locator_at-requires
locator_at-requires g c = within_keys c.self.inside.runs.now c.self.inside.locators.now c.args.at (rw c.self.view_is c.requires)

pub compare-requires : goal.compare-requires
compare-requires g c = all-there (IsIn (keys_of_runs c.self.inside.runs.now)) c.self.inside.locators.now c.args.at _ c.self.invariant.0 c.locator_at.ensures

pub returns : goal.returns
returns g c k h = c.compare.ensures ∙ ap (λ j. order j c.args.key.now) (key_of_change c.self.inside.runs.now c.self.inside.locators.now c.args.at _ k c.locator_at.ensures (rw c.self.view_is h))
