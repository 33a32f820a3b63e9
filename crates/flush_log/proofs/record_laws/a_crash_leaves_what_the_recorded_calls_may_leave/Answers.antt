use Rattle.std.proofs.Common.{inr}
use Rattle.flush_log.proofs.CalledLemmas.{now_may, left_during, during_left}
use Rattle.flush_log.proofs.record_laws.a_crash_leaves_what_the_recorded_calls_may_leave.Goals as goal

pub returns : goal.returns
returns c = record {
  now = λ file calls d fit. (now_may file calls fit d, λ may. inr may);
  since = λ file calls d fit. (left_during file calls fit d, during_left file calls fit d);
}
