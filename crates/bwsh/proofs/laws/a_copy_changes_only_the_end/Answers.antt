use Rattle.bwsh.proofs.EndLemmas.{Answers-plain}
use Rattle.bwsh.proofs.laws.a_copy_changes_only_the_end.Goals as goal

pub returns : goal.returns
returns c = Answers-plain
