use Rattle.std.proofs.Common.{refl}
use Rattle.delta_chain.proofs.entries.Entries.takes.Goals as goal

pub returns-in-One : goal.returns-in-One
returns-in-One g c =
    rw (← c.self.view_is, c.in-One.is, c.is_lt.ensures, c.compare.ensures, c.key_ref.ensures, c.new-key.ensures) refl

pub returns-in-Many : goal.returns-in-Many
returns-in-Many g c =
    rw (← c.self.view_is, c.in-Many.is, c.goes_last.ensures, c.new-key.ensures, c.deref.ensures.value) refl
