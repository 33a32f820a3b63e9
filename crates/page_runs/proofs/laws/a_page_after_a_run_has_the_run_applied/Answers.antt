use Rattle.page_runs.proofs.AfterLemmas.{entries_of-after_run, in_order-after_run}
use Rattle.page_runs.proofs.laws.a_page_after_a_run_has_the_run_applied.Goals as goal

pub returns : goal.returns
returns g c = record {
  entries = entries_of-after_run;
  in_order = in_order-after_run;
}
