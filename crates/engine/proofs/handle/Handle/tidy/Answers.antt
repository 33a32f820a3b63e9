use Rattle.engine.proofs.handle.Handle.tidy.Goals as goal

pub returns-clause-contents : goal.returns-clause-contents
returns-clause-contents g c = rw (← c.self.view_is) c.tidy.ensures.tidied.holds

pub returns-clause-failed : goal.returns-clause-failed
returns-clause-failed g c = rw (← c.self.view_is) c.tidy.ensures.admitted.failed

pub returns-clause-refused : goal.returns-clause-refused
returns-clause-refused g c = rw (← c.self.view_is) (λ fine. c.tidy.ensures.refused fine c.self.invariant.in_range)
