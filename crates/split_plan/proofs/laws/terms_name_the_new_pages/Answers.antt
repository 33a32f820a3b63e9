use Rattle.split_plan.proofs.TermLemmas.{rising-terms, value_at-terms, with_run-terms}
use Rattle.split_plan.proofs.laws.terms_name_the_new_pages.Goals as goal

pub returns : goal.returns
returns g c = record {
  rising = rising-terms;
  said = value_at-terms;
  names = with_run-terms;
}
