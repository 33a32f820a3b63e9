use Rattle.recovery.proofs.KeptStore.{upgraded-tree, upgrade-read_back, upgrade-kept}
use Rattle.recovery.proofs.laws.what_was_upgraded_is_what_is_read.Goals as goal

pub returns : goal.returns
returns c = record {
  read = λ s st now file bytes is within h. upgrade-read_back s st now file bytes h is within;
  tree = λ s st now file bytes is h. upgraded-tree s st now file bytes h is;
  kept = λ s st now file bytes is within h. upgrade-kept s st now file bytes h is within;
}
