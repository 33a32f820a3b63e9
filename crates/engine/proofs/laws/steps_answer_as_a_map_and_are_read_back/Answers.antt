use Rattle.engine.specs.Steps.{batching}
use Rattle.engine.proofs.laws.steps_answer_as_a_map_and_are_read_back.Goals as goal

pub returns : goal.returns
returns g c s st on_disk file steps h is words =
    c.steps_are_played_one_by_one.ensures (batching s) s steps st on_disk file (c.a_batch_stays_in_step.ensures.batches s) is h words
