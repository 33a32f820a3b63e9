use Rattle.flush_log.proofs.ReadBackLemmas.{text-back}
use Rattle.flush_log.proofs.laws.a_text_is_read_back.Goals as goal

pub returns : goal.returns
returns c g file head tail found text good = text-back g good file head tail found text
