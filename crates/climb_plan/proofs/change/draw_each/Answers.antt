use Rattle.std.proofs.Common.{◌≡◌, ◌∙◌, ◌-◌, get_or, take, length, ap, arith}
use Rattle.mapping.specs.Table.{pids_in_use}
use Rattle.climb_plan.specs.Rewriting.{numbers}
use Rattle.climb_plan.proofs.ChangedRooms.{shifted, next_drawn, rooms_more, with_fresh, one_numbered, one_counted}
use Rattle.climb_plan.proofs.change.draw_each.Goals as goal

pub loop-at-preserved : goal.loop-at-preserved
loop-at-preserved c =
    let start = c.args.all.now in
    let at = c.loop-at.at in
    let r = get_or c.loop-at.all at c.index-all-at.result in
    let item : r ≡ get_or c.loop-at.all at r = ap (get_or c.loop-at.all at) c.index-all-at.is in
    let t = c.args.tree.now in
    let used = pids_in_use t.table in
    let later = pids_in_use c.loop-at.tree.table in
    let n = numbers (take at start) in
    let k = length r.pieces - 1 in
    let rooms = c.loop-at.invariant.tree in
    let next = next_drawn t c.loop-at.tree n rooms (λ m. c.drawn_pids_get_places_that_are_away.ensures.next t.table n m c.requires.rising) in
    let own = c.in-Ok.ensures.numbers ∙ ap (with_fresh r) (shifted used later n 0 n k (omega arith) next) in
    let is = c.loop-at.invariant.groups in
    record {
      groups = one_numbered used start c.loop-at.all at r c.loop-at-test.true is item c.draw.new.self own;
      tree = rooms_more t c.loop-at.tree n rooms c.draw.new.tree k _ c.in-Ok.ensures.tree next (one_counted used start c.loop-at.all at r c.loop-at-test.true is item);
    }
