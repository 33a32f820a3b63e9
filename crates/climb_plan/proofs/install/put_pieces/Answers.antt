use Rattle.std.proofs.Common.{◌≡◌, ap, [], Some, map, drop, arith}
use Rattle.std.specs.Vec.Iter.{into_iter_items}
use Rattle.std.proofs.lemmas.List.{nil_from_length}
use Rattle.index_page.specs.InMemory.{page_shown}
use Rattle.climb_plan.proofs.Installing.{front, placed_apart, away_next, under_step, under_none}
use Rattle.climb_plan.proofs.install.put_pieces.Goals as goal

pub returns-in_default : goal.returns-in_default
returns-in_default c =
    let none : into_iter_items c.loop-pid.rest ≡ [] = nil_from_length _ (omega (arith, c.in_default.ensures.cases.0)) in
    under_none c.loop-pid.tree _ (drop c.loop-pid.pid-index c.args.pids.now) _ (ap (map (λ page. page_shown page.value)) none) c.loop-pid.invariant.put

pub loop-pid-preserved : goal.loop-pid-preserved
loop-pid-preserved c =
    let tree = c.loop-pid.tree in
    let left = front c.args.pids.now c.loop-pid.pid-index c.loop-pid-test.true in
    let now = rw c.of_memory.ensures at c.put.ensures in
    record {
      away = away_next tree _ _ _ _ _ left now (placed_apart tree.table _ (Some (page_shown c.in-Some.page.value))) c.loop-pid.invariant.away;
      put = under_step tree _ _ _ _ _ _ _ _ left (ap (map (λ page. page_shown page.value)) c.in-Some.ensures.items) now c.loop-pid.invariant.put;
    }
