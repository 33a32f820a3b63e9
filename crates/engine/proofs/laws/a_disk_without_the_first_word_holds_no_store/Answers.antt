use Rattle.engine.proofs.HiddenLemmas.{no_magic}
use Rattle.engine.proofs.HiddenStores.{no_store}
use Rattle.engine.proofs.laws.a_disk_without_the_first_word_holds_no_store.Goals as goal

pub returns : goal.returns
returns c = λ file other. no_store file (no_magic file other)
