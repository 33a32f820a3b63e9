use Rattle.std.proofs.Common.{suc, add-one, arith}
use Rattle.delta_chain.specs.Located.{keys_of_runs, keyed}
use Rattle.delta_chain.proofs.LocatorLemmas.{length-keyed, pair_between, pair_found}
use Rattle.delta_chain.proofs.locators.bounds_of.Goals as goal

pub returns-in-Ok-clause-most : goal.returns-in-Ok-clause-most
returns-in-Ok-clause-most g c = let many = length-keyed (keys_of_runs c.args.runs.now) c.args.locators.now in omega (arith, c.in-Ok.ensures.0, many)

pub returns-in-Ok-clause-apart : goal.returns-in-Ok-clause-apart
returns-in-Ok-clause-apart g c item =
    let runs = keys_of_runs c.args.runs.now in
    simp add-one (pair_between runs c.args.locators.now c.in-Ok.at (suc c.in-Ok.at) c.args.key.now item (pair_found (keyed runs c.args.locators.now) c.in-Ok.at c.args.key.now item c.requires.rising c.in-Ok.ensures.0 c.in-Ok.ensures.1))

pub returns-in-Err-clause-most : goal.returns-in-Err-clause-most
returns-in-Err-clause-most g c = let many = length-keyed (keys_of_runs c.args.runs.now) c.args.locators.now in omega (arith, c.in-Err.ensures.0, many)

pub returns-in-Err-clause-apart : goal.returns-in-Err-clause-apart
returns-in-Err-clause-apart g c item = pair_between (keys_of_runs c.args.runs.now) c.args.locators.now c.in-Err.at c.in-Err.at c.args.key.now item (c.in-Err.ensures.2 item)
