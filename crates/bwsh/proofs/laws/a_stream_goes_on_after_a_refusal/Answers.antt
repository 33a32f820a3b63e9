use Rattle.std.proofs.Common.{refl}
use Rattle.bwsh.proofs.RefusalLemmas.{answered-refused, asked-too_long, asked-too_many, go-read, never_over, order-read, refusal-lost, refusal-too_long, refused-holds, skipped-go, skipped-order}
use Rattle.bwsh.proofs.laws.a_stream_goes_on_after_a_refusal.Goals as goal

pub returns : goal.returns
returns c = record {
  holds = refused-holds;
  answer = answered-refused;
  end = λ settings st shown orders. refl;
  bad = λ bounds n pending why rest. refl;
  lost = λ bounds n pending rest. refl;
  rows = asked-too_many;
  long = asked-too_long;
  unbounded = never_over;
  lost_refused = refusal-lost;
  long_refused = refusal-too_long;
  skipped = skipped-go;
  skipped_order = skipped-order;
  lost_order = order-read;
  go = go-read;
}
