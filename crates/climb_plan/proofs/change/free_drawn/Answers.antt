use Rattle.std.proofs.Common.{◌∙◌, ◌+◌, flat_map, drop, ap}
use Rattle.climb_plan.proofs.ChangedRooms.{away_first, left_away, left_freed, fresh_more}
use Rattle.climb_plan.proofs.change.free_drawn.Goals as goal

pub free_all-requires : goal.free_all-requires
free_all-requires c =
    let all = c.args.all.now in
    let at = c.loop-group.group-index in
    let own = c.deref.ensures.value ∙ ap (λ r. r.fresh) c.group.view_is in
    let more = fresh_more all at c.group-item.result c.deref.result.now c.loop-group-test.true c.group-item.is own in
    away_first c.loop-group.tree.table c.deref.result.now (flat_map (λ r. r.fresh) (drop (at + 1) all)) (rw more at c.loop-group.invariant.away)

pub loop-group-preserved : goal.loop-group-preserved
loop-group-preserved c =
    let all = c.args.all.now in
    let at = c.loop-group.group-index in
    let own = c.deref.ensures.value ∙ ap (λ r. r.fresh) c.group.view_is in
    let more = fresh_more all at c.group-item.result c.deref.result.now c.loop-group-test.true c.group-item.is own in
    let later = flat_map (λ r. r.fresh) (drop (at + 1) all) in
    record {
      away = left_away c.loop-group.tree c.free_all.new.tree c.deref.result.now later c.free_all.ensures (rw more at c.loop-group.invariant.away);
      freed = left_freed c.loop-group.tree c.free_all.new.tree c.deref.result.now later c.free_all.ensures _ (rw more at c.loop-group.invariant.freed);
    }
