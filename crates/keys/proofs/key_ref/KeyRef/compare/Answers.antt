use Rattle.keys.proofs.WordLemmas.{less_by_words, greater_by_words}
use Rattle.keys.proofs.key_ref.KeyRef.compare.Goals as goal

pub returns-then-self-other : goal.returns-then-self-other
returns-then-self-other c =
    less_by_words c.self.inside.word c.other.inside.word c.args.self.now c.args.other.now (rw (← c.self.view_is) c.self.invariant) (rw (← c.other.view_is) c.other.invariant) c.if-self-other.true

pub returns-then-self-other-2 : goal.returns-then-self-other-2
returns-then-self-other-2 c =
    greater_by_words c.self.inside.word c.other.inside.word c.args.self.now c.args.other.now (rw (← c.self.view_is) c.self.invariant) (rw (← c.other.view_is) c.other.invariant) c.if-self-other-2.true
