use Rattle.bwsh.proofs.WordLemmas.{the_only_is}
use Rattle.bwsh.proofs.line.LineReader.only_key.Goals as goal

pub returns : goal.returns
returns c = rw (the_only_is _ _ c.in-Some.ensures, ← c.in_ok-key.ensures) c.ok_or.ensures.value
