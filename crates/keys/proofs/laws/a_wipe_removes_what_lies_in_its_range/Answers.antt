use Rattle.std.proofs.Common.{refl}
use Rattle.keys.proofs.RangeLemmas.{wiped_within, kept_outside, both_parts}
use Rattle.keys.proofs.laws.a_wipe_removes_what_lies_in_its_range.Goals as goal

pub returns : goal.returns
returns g c = record {
  reply = λ m lo hi. refl;
  within = wiped_within;
  elsewhere = kept_outside;
  gone = both_parts;
}
