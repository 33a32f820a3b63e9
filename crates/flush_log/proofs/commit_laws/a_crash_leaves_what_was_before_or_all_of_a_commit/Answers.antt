use Rattle.flush_log.proofs.CommitLemmas.{left-before, left-during, seen-done, left-done}
use Rattle.flush_log.proofs.commit_laws.a_crash_leaves_what_was_before_or_all_of_a_commit.Goals as goal

pub returns : goal.returns
returns c = record {
  during = λ s file rs t c long fit left. left-during s file rs t long fit c left;
  before = λ s file rs t c long fit left. left-before s file rs t long fit c left;
  read = seen-done;
  after = λ s file rs t c long fit left. left-done s file rs t long fit c left;
}
