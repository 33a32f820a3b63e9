use Rattle.engine.proofs.PlayLemmas.{stands-later, stands-last, step-kept, step-crash, play-crash}
use Rattle.engine.proofs.step_laws.a_crash_in_a_play_leaves_the_store_after_some_steps.Goals as goal

pub returns : goal.returns
returns g c = record {
  play = λ b s st file d steps keeps is words during. play-crash b s keeps st file d steps is words during;
  step = λ b s st now file bytes d x a keeps is words e during. step-crash b s keeps st file d x (a, (now, bytes)) is words e during;
  kept = λ b s st now file bytes x a keeps is words e. step-kept b s keeps st file x (a, (now, bytes)) is words e;
  later = stands-later;
  last = stands-last;
}
