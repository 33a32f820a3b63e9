use Rattle.bwsh.specs.Words.{words_of}
use Rattle.bwsh.proofs.LostLemmas.{lost_copy, or_refused}
use Rattle.bwsh.proofs.line.LineReader.copy.Goals as goal

pub returns : goal.returns
returns c = or_refused _ _ _ c.try_copy.ensures (lost_copy (words_of c.args.words.now)) c.unwrap_or.ensures
