use Rattle.bwsh.specs.Words.{words_of}
use Rattle.bwsh.proofs.LostLemmas.{lost_prefix, or_refused}
use Rattle.bwsh.proofs.line.LineReader.prefix.Goals as goal

pub returns : goal.returns
returns c = or_refused _ _ _ c.try_prefix.ensures (lost_prefix (words_of c.args.words.now)) c.unwrap_or.ensures
