use Rattle.keys.proofs.WordLemmas.{are_bytes}
use Rattle.keys.proofs.key_ref.first_word.Goals as goal

pub returns-in-Some-clause-bytes : goal.returns-in-Some-clause-bytes
returns-in-Some-clause-bytes c = are_bytes c.args.bytes.now (λ i. (c.type_inv.bytes i).fits)
