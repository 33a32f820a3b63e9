use Rattle.bwsh.proofs.ClapLemmas.{all_added}
use Rattle.bwsh.proofs.options.add_numbers.Goals as goal

pub returns : goal.returns
returns c = all_added _ _ _ _ _ c.loop-name.invariant c.loop-name-test.false
