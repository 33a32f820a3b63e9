use Rattle.bwsh.proofs.EndLemmas.{Answers-crew, IsStart-no_crew}
use Rattle.bwsh.proofs.laws.the_crew_does_not_matter.Goals as goal

pub returns : goal.returns
returns c = record { same = Answers-crew; refused = IsStart-no_crew }
