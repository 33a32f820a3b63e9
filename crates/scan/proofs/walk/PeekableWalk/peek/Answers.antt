use Rattle.scan.proofs.WalkPairs.{peeked_kept, key_of_next, key_of_peeked}
use Rattle.scan.proofs.walk.PeekableWalk.peek.Goals as goal

pub returns-in-Some-clause-key : goal.returns-in-Some-clause-key
returns-in-Some-clause-key g c = rw (← c.self.view_is, c.in-Some.is) (key_of_peeked g.W.Towards.direction (c.in-Some.key.now, c.in-Some._value.now) _)

pub returns-in-Some-next-clause-kept : goal.returns-in-Some-next-clause-kept
returns-in-Some-next-clause-kept g c = rw (← c.self.view_is, c.in-None.is) (peeked_kept g.W.Towards.direction (c.in-Some-next.key.now, c.in-Some-next.value.now) _ _ c.in-Some-next.ensures)

pub returns-in-Some-next-clause-key : goal.returns-in-Some-next-clause-key
returns-in-Some-next-clause-key g c = rw (← c.self.view_is, c.in-None.is) (key_of_next g.W.Towards.direction (c.in-Some-next.key.now, c.in-Some-next.value.now) _ _ c.in-Some-next.ensures)
