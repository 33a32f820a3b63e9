use Rattle.bwsh.specs.Line.{parse_other}
use Rattle.bwsh.specs.Words.{words_of}
use Rattle.bwsh.proofs.LostLemmas.{lost_by_word}
use Rattle.bwsh.proofs.line.LineReader.by_word.Goals as goal

pub returns-in-Err : goal.returns-in-Err
returns-in-Err c =
    let words = words_of c.args.words.now in
    lost_by_word c.args.has_dots c.args.word.now words (parse_other c.args.has_dots c.args.word.now words) c.in-Err.ensures.lost
