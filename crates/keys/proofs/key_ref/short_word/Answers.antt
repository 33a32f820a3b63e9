use Rattle.keys.proofs.WordLemmas.{are_bytes}
use Rattle.keys.proofs.key_ref.short_word.Goals as goal

pub returns-clause-bytes : goal.returns-clause-bytes
returns-clause-bytes c = are_bytes c.args.bytes.now (λ i. (c.type_inv.bytes i).fits)
