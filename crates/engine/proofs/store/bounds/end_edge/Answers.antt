use Rattle.std.proofs.Common.{refl}
use Rattle.engine.proofs.store.bounds.end_edge.Goals as goal

pub returns-in-Included : goal.returns-in-Included
returns-in-Included c = λ k. rw (c.in-Included.is) refl
