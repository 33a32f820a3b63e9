use Rattle.std.proofs.Common.{arith}
use Rattle.flush_log.proofs.FitLemmas.{are_sized}
use Rattle.flush_log.proofs.OutcomeLemmas.{after-length, after-settings, after-slot, after-log, after-text, text-fits}
use Rattle.flush_log.proofs.commit_laws.what_was_committed_is_read.Goals as goal

pub returns : goal.returns
returns c = record {
  length = after-length;
  settings = after-settings;
  slot = λ s file rs t u good long fit is next may. after-slot s file rs u long fit t (let size = (are_sized s good).least_size in omega arith) is next may;
  log = λ g file rs u head tail good whole fit. after-log g file rs u whole fit (let count = (are_sized g.settings good).least_count in omega arith) head tail;
  text = λ g file t text u found room read. after-text g file t text room u found read;
  within = text-fits;
}
