use Rattle.std.proofs.Common.{◌∙◌}
use Rattle.delta_chain.proofs.locators.Locator.change.Goals as goal

pub returns : goal.returns
returns g c = c.as_ref.ensures.value ∙ c.item.ensures
