use Rattle.std.proofs.Common.{◌≡◌, ◌+◌, drop}
use Rattle.frame_codec.specs.Codecs.{common}
use Rattle.frame_codec.proofs.parts.common_len.Given as goal

-- the two begin with the same bytes up to this place
abbrev pub invariant-loop-at : goal.invariant-loop-at
invariant-loop-at l = common l.one l.other ≡ l.at + common (drop l.at l.one) (drop l.at l.other)
