use Rattle.bwsh.specs.Words.{words_of}
use Rattle.bwsh.proofs.LostLemmas.{lost_back, or_refused}
use Rattle.bwsh.proofs.line.LineReader.back.Goals as goal

pub returns : goal.returns
returns c = or_refused _ _ _ c.try_back.ensures (lost_back (words_of c.args.words.now)) c.unwrap_or.ensures
