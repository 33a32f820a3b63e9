use Rattle.std.proofs.Common.{ap}
use Rattle.std.specs.Option.{option_copied}
use Rattle.scan.proofs.MergeLemmas.{none_said, some_said}
use Rattle.scan.proofs.merge.next_pair.Goals as goal

pub returns-in-Some-said : goal.returns-in-Some-said
returns-in-Some-said g c = some_said g.W.Towards.direction c.in-Some.key.now _ _ _ _ c.in-Some.ensures.0 c.loop-key.invariant c.in-Some-said.value.now (ap option_copied c.in-Some-said.is)

pub loop-key-preserved : goal.loop-key-preserved
loop-key-preserved g c = none_said g.W.Towards.direction c.in-Some.key.now _ _ _ _ c.in-Some.ensures.0 c.loop-key.invariant (ap option_copied c.in_default-said.is)
