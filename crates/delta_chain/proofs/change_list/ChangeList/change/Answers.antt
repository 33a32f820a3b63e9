use Rattle.std.proofs.Common.{Some, sym, ap, ◌∙◌}
use Rattle.delta_chain.specs.Located.{keys_of_runs, IsIn}
use Rattle.delta_chain.proofs.LocatorLemmas.{all-there, within_changes, key_change, item_change}
use Rattle.delta_chain.proofs.change_list.ChangeList.change.Goals as goal

pub locator_at-locator-requires : goal.locator_at-locator-requires
locator_at-locator-requires g c = within_changes c.self.inside.runs.now c.self.inside.locators.now c.args.at (rw c.self.view_is c.requires)

pub key-requires : goal.key-requires
key-requires g c = all-there (IsIn (keys_of_runs c.self.inside.runs.now)) c.self.inside.locators.now c.args.at _ c.self.invariant.0 c.locator_at-locator.ensures

pub change-requires : goal.change-requires
change-requires g c = all-there (IsIn (keys_of_runs c.self.inside.runs.now)) c.self.inside.locators.now c.args.at _ c.self.invariant.0 c.locator_at-locator.ensures

pub returns-clause-key : goal.returns-clause-key
returns-clause-key g c = rw (← c.self.view_is) (key_change c.self.inside.runs.now c.self.inside.locators.now c.args.at _ c.locator_at-locator.ensures ∙ ap Some (sym c.key.ensures))

pub returns-clause-cell : goal.returns-clause-cell
returns-clause-cell g c = rw (← c.self.view_is) (item_change c.self.inside.runs.now c.self.inside.locators.now c.args.at _ c.locator_at-locator.ensures ∙ ap Some (sym c.change.ensures))
