use Rattle.delta_chain.specs.Located.{keys_of_runs, IsIn}
use Rattle.delta_chain.proofs.LocatorLemmas.{all-take, all_rest, apart_rest}
use Rattle.delta_chain.proofs.locators.split.Goals as goal

pub returns-clause-below : goal.returns-clause-below
returns-clause-below g c = all-take (IsIn (keys_of_runs c.args.runs.now)) c.bounds_of-below.result.0 c.args.locators.now c.requires.all

pub returns-clause-above : goal.returns-clause-above
returns-clause-above g c = all_rest (keys_of_runs c.args.runs.now) c.args.locators.now c.bounds_of-below.result.1 c.requires.all

pub returns-clause-apart : goal.returns-clause-apart
returns-clause-apart g c item = apart_rest (keys_of_runs c.args.runs.now) c.args.locators.now c.bounds_of-below.result.0 c.bounds_of-below.result.1 c.args.key.now item (c.bounds_of-below.ensures.apart item)
