use Rattle.std.proofs.Common.{refl, sym, append_assoc, ◌∙◌}
use Rattle.bwsh.specs.Session.{after_order, front_lines, later, numbers_of, printed}
use Rattle.bwsh.specs.Shown.{shown_flushed, shown_numbers, shown_settings}
use Rattle.bwsh.specs.declared.order.Order.TheVariants.{Flush}
use Rattle.keys.specs.Lists.{flat}
use Rattle.bwsh.proofs.PrintedLemmas.{printed-batch, printed-flush, printed-clean, printed-upgrade, printed-verify, printed-numbers, printed-bad_line, printed-stat, printed-copy, printed-tidy, printed-back, printed-prefix, printed-help}
use Rattle.bwsh.proofs.laws.each_order_prints_its_answer.Goals as goal

pub returns : goal.returns
returns c = record {
  none = λ settings st shown m. refl;
  batch = printed-batch;
  flush = λ settings st shown m rest.
      (let now = (after_order settings st (shown 0) Flush).0 in
      printed-flush settings st shown m rest
      ∙ sym (append_assoc (flat (front_lines st (shown 0) Flush)) (shown_flushed now.sequence) (printed settings now (later shown) m rest)));
  clean = printed-clean;
  upgrade = printed-upgrade;
  verify = printed-verify;
  numbers = printed-numbers;
  bad_line = λ line why settings st shown m rest. printed-bad_line settings st shown m line why rest;
  stat = λ settings st shown m rest.
      (printed-stat settings st shown m rest
      ∙ sym (append_assoc (shown_numbers (numbers_of settings st)) (shown_settings settings) (printed settings st (later shown) m rest)));
  copy = λ path segments settings st shown m rest. printed-copy settings st shown m path segments rest;
  tidy = λ most settings st shown m rest. printed-tidy settings st shown m most rest;
  back = λ lo hi limit settings st shown m rest. printed-back settings st shown m lo hi limit rest;
  prefix = λ bytes limit settings st shown m rest. printed-prefix settings st shown m bytes limit rest;
  help = printed-help;
}
