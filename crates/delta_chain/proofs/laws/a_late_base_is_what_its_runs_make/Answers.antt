use Rattle.delta_chain.proofs.LazyLemmas.{entries-seen, rising-seen, holds-seen, seen-early, seen-merged_runs, seen-in_front}
use Rattle.delta_chain.proofs.laws.a_late_base_is_what_its_runs_make.Goals as goal

pub returns : goal.returns
returns g c = record {
  entries = entries-seen;
  rising = rising-seen;
  holds = holds-seen;
  early = seen-early;
  merged_runs = seen-merged_runs;
  in_front = seen-in_front;
}
