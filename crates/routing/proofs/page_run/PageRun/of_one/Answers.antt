use Rattle.std.proofs.Common.{rules, ◌≡◌, [], ◌∷◌}
use Rattle.routing.proofs.RisingPlaces.{distinct-one}
use Rattle.routing.proofs.page_run.PageRun.of_one.Goals as goal

pub invariant_of-result : goal.invariant_of-result
invariant_of-result c =
    let one : c.push_reserved.new.self.items ≡ c.args.place ∷ [] = search rules in
    rw one (distinct-one c.args.place)
