use Rattle.flush_log.proofs.HideLemmas.{text-beside, text-apart, text-inside}
use Rattle.flush_log.proofs.laws.a_text_lies_after_the_tail.Goals as goal

pub returns : goal.returns
returns c = record {
  following = λ g head tail text good. text-beside g good head tail text;
  apart = λ g head tail text good. text-apart g good head tail text;
  inside = λ g head tail text good. text-inside g good head tail text;
}
