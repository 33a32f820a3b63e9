use Rattle.recovery.proofs.TableLemmas.{table-marked}
use Rattle.recovery.proofs.table_laws.a_table_marked_as_written_holds_the_flushed_tree.Goals as goal

pub returns : goal.returns
returns c = table-marked
