use Rattle.engine.proofs.StepsLemmas.{steps-played}
use Rattle.engine.proofs.step_laws.steps_are_played_one_by_one.Goals as goal

pub returns : goal.returns
returns g c b s steps st on_disk file keeps = steps-played b s keeps steps st on_disk file
