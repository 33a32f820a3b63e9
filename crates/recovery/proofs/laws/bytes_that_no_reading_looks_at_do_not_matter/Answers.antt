use Rattle.recovery.proofs.HiddenBytes.{hidden-closed, hidden-same}
use Rattle.recovery.proofs.laws.bytes_that_no_reading_looks_at_do_not_matter.Goals as goal

pub returns : goal.returns
returns c = record { closed = hidden-closed; same = hidden-same }
