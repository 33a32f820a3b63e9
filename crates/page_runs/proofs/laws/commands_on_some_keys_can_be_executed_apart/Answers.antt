use Rattle.page_runs.proofs.ApartLemmas.{replies_to-apart, replies_to-own, map_after_all-apart, net_run-apart, net_run-no_other, net_run-no_other_there, within_by_key, off_by_key}
use Rattle.page_runs.specs.Apart.{is_on_one}
use Rattle.page_runs.proofs.laws.commands_on_some_keys_can_be_executed_apart.Goals as goal

pub returns : goal.returns
returns g c = record {
  replies = replies_to-apart;
  all_replies = λ is_own x cs. replies_to-own (λ d. is_on_one is_own d) x cs;
  map = map_after_all-apart;
  run = net_run-apart;
  no_other = net_run-no_other;
  no_other_there = net_run-no_other_there;
  within = within_by_key;
  off = off_by_key;
}
