use Rattle.std.proofs.Common.{ap, ◌∙◌}
use Rattle.std.specs.Prelude.{not}
use Rattle.verify.proofs.MetLemmas.{has_among}
use Rattle.verify.proofs.met.Met.meet.Goals as goal

pub returns-clause-first : goal.returns-clause-first
returns-clause-first c = rw (← c.self.view_is, ← c.pid.view_is) (c.in_ok-first.ensures.added ∙ ap not (has_among c.pid.inside.0 c.self.inside.pids.keys))
