use Rattle.climb_plan.proofs.Rooted.{drawn_is}
use Rattle.climb_plan.proofs.root.draw.Goals as goal

pub returns-clause-drawn : goal.returns-clause-drawn
returns-clause-drawn c =
    let t = c.args.tree.now.table in
    let n = c.args.count in
    let law = c.drawn_pids_get_places_that_are_away.ensures in
    drawn_is c.args.tree.now _ n _ c.in_ok-pids.ensures.pids c.in_ok-pids.ensures.ok (λ pid. law.away t n pid c.requires) (λ pid. law.others t n pid c.requires) (law.logged t n c.requires) (law.rising t n c.requires) (λ m. law.next t n m c.requires) (law.freed t n c.requires)
