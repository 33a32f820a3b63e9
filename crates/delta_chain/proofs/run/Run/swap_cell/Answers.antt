use Rattle.std.proofs.Common.{◌≡◌, Some, None, ap, ◌∙◌, rules}
use Rattle.std.specs.Prelude.{slice_get}
use Rattle.std.specs.Map.{values_of}
use Rattle.delta_chain.proofs.Exchanging.{length-exchanged_at, exchanged_at-twice}
use Rattle.delta_chain.proofs.run.Run.swap_cell.Goals as goal

pub exchange-none-requires : goal.exchange-none-requires
exchange-none-requires g c =
    let same = length-exchanged_at c.self.inside.changes c.args.at None in
    rw (c.exchange.ensures.new, same) (rw c.self.view_is c.requires)

-- the cell that was there is written over the gap that was left in its place
pub returns-in-Some-clause-run : goal.returns-in-Some-clause-run
returns-in-Some-clause-run g c = λ o h.
    let held : slice_get (values_of c.args.self.now) c.args.at ≡ Some (Some c.in-Some.held) = rw (← c.self.view_is) (c.exchange.ensures.held ∙ ap Some c.in-Some.is) in
    let same : o ≡ Some c.in-Some.held = cc in
    let now : c.match-none.self ≡ c.exchange-none.new.self = search rules in
    rw (now, same, c.exchange-none.ensures.new, c.exchange.ensures.new, c.replace-mine.ensures.value, ← c.self.view_is) (exchanged_at-twice c.self.inside.changes c.args.at None (Some c.args.cell.now))
