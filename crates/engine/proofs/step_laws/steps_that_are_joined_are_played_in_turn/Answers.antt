use Rattle.engine.proofs.PlayLemmas.{plays-append, words-append}
use Rattle.engine.proofs.step_laws.steps_that_are_joined_are_played_in_turn.Goals as goal

pub returns : goal.returns
returns g c = record { joined = plays-append; words = words-append }
