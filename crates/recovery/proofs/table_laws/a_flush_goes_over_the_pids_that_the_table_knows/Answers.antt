use Rattle.recovery.proofs.TableLemmas.{pids-known, empty-text}
use Rattle.recovery.proofs.table_laws.a_flush_goes_over_the_pids_that_the_table_knows.Goals as goal

pub returns : goal.returns
returns c = record { pids = pids-known; nothing = empty-text }
