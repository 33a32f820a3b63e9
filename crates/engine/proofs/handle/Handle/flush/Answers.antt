use Rattle.engine.proofs.handle.Handle.flush.Goals as goal

pub returns-clause-flushed : goal.returns-clause-flushed
returns-clause-flushed g c = rw (← c.self.view_is) c.flush_cleaning.ensures.flushed

pub returns-clause-refused : goal.returns-clause-refused
returns-clause-refused g c = rw (← c.self.view_is) (λ fine. c.flush_cleaning.ensures.refused fine c.self.invariant.in_range)
