use Rattle.flush_log.proofs.OlderLemmas.{log-known}
use Rattle.flush_log.proofs.laws.a_log_of_version_one_is_read_as_one_of_version_two.Goals as goal

pub returns : goal.returns
returns c = log-known
