use Rattle.crew.proofs.SoundLemmas.{round_is_sound}
use Rattle.crew.proofs.laws.rounds_are_sound.Goals as goal

pub returns : goal.returns
returns g c = λ made pieces workers events. round_is_sound made pieces workers events
