use Rattle.std.proofs.Common.{◌∙◌}
use Rattle.verify.proofs.MetLemmas.{has_among}
use Rattle.verify.proofs.met.Met.has.Goals as goal

pub returns : goal.returns
returns c = rw (← c.self.view_is, ← c.pid.view_is) (c.contains.ensures ∙ has_among c.pid.inside.0 c.self.inside.pids.keys)
