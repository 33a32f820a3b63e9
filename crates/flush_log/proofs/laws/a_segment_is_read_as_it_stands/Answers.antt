use Rattle.std.proofs.Common.{refl}
use Rattle.flush_log.specs.Reading.{is_at_tail, is_padding}
use Rattle.flush_log.proofs.SegmentLemmas.{padding-ends, tail-ends, zeros-pad}
use Rattle.flush_log.proofs.StandingLemmas.{earlier-stands, last-stands, frames-read, segment-headless, segment-broken}
use Rattle.flush_log.proofs.laws.a_segment_is_read_as_it_stands.Goals as goal

pub returns : goal.returns
returns c = record {
  earlier = earlier-stands;
  last = last-stands;
  earlier_back = λ g n zeros bytes fs good. frames-read g good n is_padding padding-ends fs zeros bytes (zeros-pad zeros);
  last_back = λ g n bytes fs good. frames-read g good n is_at_tail tail-ends fs 0 bytes refl;
  bad_segment = λ g is_end n m bytes. segment-headless g is_end n bytes m;
  bad_frame = λ g is_end n m offset bytes are none. segment-broken g is_end none n bytes m offset are;
}
