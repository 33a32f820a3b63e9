use Rattle.engine.proofs.HandleLemmas.{token_reply}
use Rattle.engine.proofs.laws.a_token_finds_its_reply.Goals as goal

pub returns : goal.returns
returns g c = token_reply
