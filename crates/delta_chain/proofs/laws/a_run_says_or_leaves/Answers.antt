use Rattle.delta_chain.proofs.LayerLemmas.{value_at-with_run, rising-with_run}
use Rattle.delta_chain.proofs.laws.a_run_says_or_leaves.Goals as goal

pub returns : goal.returns
returns g c = record {
  holds = value_at-with_run;
  rising = rising-with_run;
}
