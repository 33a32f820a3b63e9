use Rattle.recovery.proofs.ReadStore.{store-read}
use Rattle.recovery.proofs.laws.what_is_read_is_a_store.Goals as goal

pub returns : goal.returns
returns c s st file is = store-read s st file is
