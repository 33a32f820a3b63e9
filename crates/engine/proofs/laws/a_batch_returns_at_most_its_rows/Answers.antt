use Rattle.engine.proofs.BatchRows.{few_of_all}
use Rattle.engine.proofs.laws.a_batch_returns_at_most_its_rows.Goals as goal

pub returns : goal.returns
returns g c = few_of_all
