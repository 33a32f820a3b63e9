use Rattle.bwsh.proofs.RowLemmas.{rows_decided}
use Rattle.bwsh.proofs.laws.what_was_left_decides_the_cleans.Goals as goal

pub returns : goal.returns
returns c = rows_decided
