use Rattle.std.proofs.Common.{◌≡◌, None, Some, arith}
use Rattle.page_search.proofs.NearestLemmas.{none-held, nearest-held, nearest-past, fewer_named}
use Rattle.page_search.proofs.WalkLemmas.{most_past, most_end, nearest-once}
use Rattle.page_search.proofs.nearest.nearest.Goals as goal

pub returns-in_err-found-clause-value : goal.returns-in_err-found-clause-value
returns-in_err-found-clause-value g c =
    let none = c.from_residual.ensures in
    rw none (c.loop-found.invariant.same None (none-held c.loop-found.side c.loop-found.bound.now c.args.lists.now c.in_err-found.ensures.value))

pub returns-in-Some-clause-value : goal.returns-in-Some-clause-value
returns-in-Some-clause-value g c =
    let said = c.in-Some.is in
    rw c.as_bytes.ensures (c.loop-found.invariant.same (Some (c.in_ok-found.found, c.in-Some.cell.now))
    (nearest-held c.loop-found.side c.loop-found.bound.now c.args.lists.now c.in_ok-found.found c.in-Some.cell.now (rw said at c.in_ok-found.ensures.value)))

pub returns-in_err-found-clause-cost : goal.returns-in_err-found-clause-cost
returns-in_err-found-clause-cost g c =
    let none = c.from_residual.ensures in
    let nearest = none-held c.loop-found.side c.loop-found.bound.now c.args.lists.now c.in_err-found.ensures.value in
    rw none (most_end c.args.side c.loop-found.side c.args.key.now c.loop-found.bound.now c.args.lists.now _ _ _ c.in_err-found.ensures.cost None (c.loop-found.invariant.cost None nearest))

pub returns-in_err-found-clause-one_walk : goal.returns-in_err-found-clause-one_walk
returns-in_err-found-clause-one_walk g c = λ e h. omega (arith, c.in_err-found.ensures.cost, (c.loop-found.invariant.one_walk e h).1)

pub returns-in_err-found-clause-least : goal.returns-in_err-found-clause-least
returns-in_err-found-clause-least g c = c.loop-found.invariant.least _ c.in_err-found.ensures.least

pub returns-in-Some-clause-cost : goal.returns-in-Some-clause-cost
returns-in-Some-clause-cost g c =
    let said = c.in-Some.is in
    let nearest = nearest-held c.loop-found.side c.loop-found.bound.now c.args.lists.now c.in_ok-found.found c.in-Some.cell.now (rw said at c.in_ok-found.ensures.value) in
    rw c.as_bytes.ensures (most_end c.args.side c.loop-found.side c.args.key.now c.loop-found.bound.now c.args.lists.now _ _ _ c.in_ok-found.ensures.cost (Some (c.in_ok-found.found, c.in-Some.cell.now)) (c.loop-found.invariant.cost (Some (c.in_ok-found.found, c.in-Some.cell.now)) nearest))

pub returns-in-Some-clause-one_walk : goal.returns-in-Some-clause-one_walk
returns-in-Some-clause-one_walk g c = λ e h. omega (arith, c.in_ok-found.ensures.cost, (c.loop-found.invariant.one_walk e h).1)

pub returns-in-Some-clause-least : goal.returns-in-Some-clause-least
returns-in-Some-clause-least g c = c.loop-found.invariant.least _ c.in_ok-found.ensures.least

pub loop-found-smaller : goal.loop-found-smaller
loop-found-smaller g c =
    let side = c.past-side.ensures in
    rw (side, c.as_bytes-bound.ensures) (fewer_named c.loop-found.side c.loop-found.bound.now c.in_ok-found.found c.in_ok-found.ensures.value.on _ c.args.lists.now.runs c.args.lists.now.base c.in_ok-found.ensures.value.has)

pub loop-found-preserved : goal.loop-found-preserved
loop-found-preserved g c =
    let side = c.past-side.ensures in
    let said = c.in_default.is in
    let absent = rw said at c.in_ok-found.ensures.value in
    record {
      same = λ x h. c.loop-found.invariant.same x (nearest-past c.loop-found.side c.loop-found.bound.now c.args.lists.now c.in_ok-found.found absent x (rw (side, c.as_bytes-bound.ensures) at h));
      cost = λ x h.
          let further = rw (side, c.as_bytes-bound.ensures) at h in
          let nearest = nearest-past c.loop-found.side c.loop-found.bound.now c.args.lists.now c.in_ok-found.found absent x further in
          rw (side, c.as_bytes-bound.ensures) (most_past c.args.side c.loop-found.side c.args.key.now c.loop-found.bound.now c.args.lists.now _ _ _ c.in_ok-found.ensures.cost c.in_ok-found.found x c.requires absent further (c.loop-found.invariant.cost x nearest));
      one_walk = λ e h. absurd (let same : None ≡ Some e.1 = nearest-once c.loop-found.side c.loop-found.bound.now _ c.in_ok-found.found e.0 None (Some e.1) absent (c.loop-found.invariant.one_walk e h).0 in cc);
      least = λ after h. c.loop-found.invariant.least after (omega (arith, h, c.in_ok-found.ensures.least));
      kept = omega (arith, c.loop-found.invariant.kept, c.nearest_named.ensures.kept);
    }
