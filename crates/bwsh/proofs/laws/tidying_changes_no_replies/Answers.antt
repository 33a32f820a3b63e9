use Rattle.bwsh.proofs.RunLemmas.{after_order-untidied}
use Rattle.bwsh.proofs.TidiedLemmas.{holds-tidied, log-tidied, replies-anywhere, tidied-cleaned, compacts, tidies}
use Rattle.bwsh.proofs.laws.tidying_changes_no_replies.Goals as goal

pub returns : goal.returns
returns c = record {
  replies = replies-anywhere;
  holds = holds-tidied;
  log = log-tidied;
  tidies = tidies;
  compacts = compacts;
  cleans = tidied-cleaned;
  untidied = after_order-untidied;
}
