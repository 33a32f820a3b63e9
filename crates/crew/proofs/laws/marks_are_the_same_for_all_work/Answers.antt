use Rattle.crew.proofs.Forgotten.{same_marks_for_all}
use Rattle.crew.proofs.laws.marks_are_the_same_for_all_work.Goals as goal

pub returns : goal.returns
returns g c = λ made pieces workers events job. same_marks_for_all made pieces workers events job
