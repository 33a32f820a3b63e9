use Rattle.cleaner.proofs.CleanBack.{clean-back, cleaned-store, clean-kept, clean-in_step}
use Rattle.cleaner.proofs.laws.a_clean_keeps_the_store.Goals as goal

pub returns : goal.returns
returns c = record {
  disk = λ s st on_disk now file bytes is are h. clean-back s st on_disk file is are now bytes h;
  memory = cleaned-store;
  step = clean-in_step;
  kept = clean-kept;
}
