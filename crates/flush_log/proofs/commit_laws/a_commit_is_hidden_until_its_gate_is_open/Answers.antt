use Rattle.flush_log.proofs.OutcomeLemmas.{before-settings, before-slot, before-log, text-crash}
use Rattle.flush_log.proofs.commit_laws.a_commit_is_hidden_until_its_gate_is_open.Goals as goal

pub returns : goal.returns
returns c = record {
  settings = before-settings;
  slot = before-slot;
  log = λ g file t text c room before. before-log g file t text room c before;
  crash = λ g file t text u c room next left. text-crash g file t text room u next c left;
}
