use Rattle.bwsh.proofs.SourceLemmas.{line_len-absent, line_len-found}
use Rattle.bwsh.proofs.source.line_len.Goals as goal

pub returns-in-Some : goal.returns-in-Some
returns-in-Some c = line_len-found c.args.bytes.now _ _ c.find_byte.ensures c.in-Some.is

pub returns-in-None : goal.returns-in-None
returns-in-None c = line_len-absent c.args.bytes.now _ c.find_byte.ensures c.in-None.is
