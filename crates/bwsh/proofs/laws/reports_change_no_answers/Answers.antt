use Rattle.bwsh.proofs.EndLemmas.{Answers-reports}
use Rattle.bwsh.proofs.laws.reports_change_no_answers.Goals as goal

pub returns : goal.returns
returns c = Answers-reports
