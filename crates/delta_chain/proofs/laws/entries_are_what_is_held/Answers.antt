use Rattle.delta_chain.proofs.LayerLemmas.{value_at-entries_of, rising-entries_of}
use Rattle.delta_chain.proofs.laws.entries_are_what_is_held.Goals as goal

pub returns : goal.returns
returns g c = record {
  holds = value_at-entries_of;
  rising = rising-entries_of;
}
