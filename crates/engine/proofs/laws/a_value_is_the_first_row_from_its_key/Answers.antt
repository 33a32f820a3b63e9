use Rattle.mapping.proofs.TileLemmas.{rising-joined}
use Rattle.engine.proofs.FirstRow.{first_there, there_first}
use Rattle.engine.proofs.laws.a_value_is_the_first_row_from_its_key.Goals as goal

pub returns : goal.returns
returns c s t k v proper = (first_there k v _ (rising-joined _ _ proper.levels.tiled), there_first k v _)
