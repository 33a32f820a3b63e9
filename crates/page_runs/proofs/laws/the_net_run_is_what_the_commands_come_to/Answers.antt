use Rattle.page_runs.proofs.NetLemmas.{with_run-net_run, rising-net_run}
use Rattle.page_runs.proofs.laws.the_net_run_is_what_the_commands_come_to.Goals as goal

pub returns : goal.returns
returns g c = record {
  map = with_run-net_run;
  rising = rising-net_run;
}
