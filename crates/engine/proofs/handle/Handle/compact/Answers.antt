use Rattle.engine.proofs.HandleLemmas.{compacted_or_not}
use Rattle.engine.proofs.handle.Handle.compact.Goals as goal

pub returns-clause-contents : goal.returns-clause-contents
returns-clause-contents g c = rw (← c.self.view_is) (compacted_or_not c.self.inside.store c.compact.new.self c.compact.result c.compact.ensures.compacted c.compact.ensures.unchanged)

pub returns-clause-failed : goal.returns-clause-failed
returns-clause-failed g c = rw (← c.self.view_is) c.compact.ensures.admitted.failed

pub returns-clause-refused : goal.returns-clause-refused
returns-clause-refused g c = rw (← c.self.view_is) (λ fine. c.compact.ensures.refused fine c.self.invariant.in_range)
