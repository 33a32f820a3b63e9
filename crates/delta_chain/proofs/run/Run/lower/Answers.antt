use Rattle.std.specs.Prelude.{None}
use Rattle.delta_chain.proofs.Lower.{lower-found, lower-missing}
use Rattle.delta_chain.proofs.run.Run.lower.Goals as goal

pub returns-in-Ok : goal.returns-in-Ok
returns-in-Ok g c = rw (← c.self.view_is) (lower-found c.self.inside.changes c.in-Ok.at c.args.key.now c.len-rising.ensures.rising (rw (← c.new.ensures) c.in-Ok.ensures.1))

pub returns-in-Err : goal.returns-in-Err
returns-in-Err g c = rw (← c.self.view_is) (lower-missing c.self.inside.changes c.in-Err.at c.args.key.now None c.len-rising.ensures.rising (rw (← c.new.ensures) c.in-Err.ensures.1) (rw (← c.new.ensures) (c.in-Err.ensures.2 None)))
