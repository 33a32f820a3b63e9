use Rattle.recovery.proofs.KeptStore.{flushed-tree, flush-read_back, flush-kept}
use Rattle.recovery.proofs.laws.what_was_flushed_is_what_is_read.Goals as goal

pub returns : goal.returns
returns c = record {
  read = λ s st now file bytes is within h. flush-read_back s st file is within now bytes h;
  tree = flushed-tree;
  kept = flush-kept;
}
