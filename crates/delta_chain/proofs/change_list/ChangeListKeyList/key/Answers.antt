use Rattle.std.proofs.Common.{Some, sym, ap, ◌∙◌}
use Rattle.delta_chain.specs.Located.{keys_of_runs, IsIn}
use Rattle.delta_chain.proofs.LocatorLemmas.{all-there, within_keys, key_change}
use Rattle.delta_chain.proofs.change_list.ChangeListKeyList.key.Goals as goal

pub locator_at-requires : goal.locator_at-requires
locator_at-requires g c = within_keys c.self.inside.runs.now c.self.inside.locators.now c.args.at (rw c.self.view_is c.requires)

pub key-requires : goal.key-requires
key-requires g c = all-there (IsIn (keys_of_runs c.self.inside.runs.now)) c.self.inside.locators.now c.args.at _ c.self.invariant.0 c.locator_at.ensures

pub returns : goal.returns
returns g c = rw (← c.self.view_is) (key_change c.self.inside.runs.now c.self.inside.locators.now c.args.at _ c.locator_at.ensures ∙ ap Some (sym c.key.ensures))
