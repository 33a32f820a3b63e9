use Rattle.std.proofs.Common.{◌++◌, List, Result, Ok, Err, OnOk, sym, ap, ◌∙◌}
use Rattle.routing.specs.Shares.{Share, lent_shares}
use Rattle.routing.proofs.ShareLemmas.{can_keyed, IsOfPoints, of_batch, of_share}
use Rattle.routing.proofs.descent.hand_down.Goals as goal
use Rattle.routing.proofs.descent.hand_down.Goals.{else-ranged-via-then-ranged+else-is_met, else-ranged-via-else-ranged}

ok_then : {T E P Q : Type 0} (r : Result T E) → (P → Q) → OnOk r P → OnOk r Q
ok_then (Ok v) f h = f h
ok_then (Err e) f h = tt

pub hand_down_points-requires : goal.hand_down_points-requires
hand_down_points-requires c = (c.args.batch.now, can_keyed c.args.batch.now c.args.page.now c.args.share.now _ c.keyed.ensures c.requires.share c.requires.keys)

pub returns-else-ranged-clause-shares : goal.returns-else-ranged-clause-shares
returns-else-ranged-clause-shares c =
    let cs = c.args.batch.now in
    let page = c.args.page.now in
    let own : IsOfPoints cs page c.args.share.now c.keyed.result.now = elim c.else-ranged.branch [
      | else-ranged-via-then-ranged+else-is_met w ↦ of_share cs page c.args.share.now c.keyed.result.now c.keyed.ensures (sym w.is_met.ensures ∙ w.if-is_met.false)
      | else-ranged-via-else-ranged w ↦ of_batch cs page c.args.share.now c.keyed.result.now c.keyed.ensures c.requires.share (sym c.requires.ranged ∙ w.if-ranged.false)
    ] in
    ok_then c.hand_down_points.result
    (λ f. f cs own.points (can_keyed cs page c.args.share.now _ c.keyed.ensures c.requires.share c.requires.keys) ∙ ap (λ (ss : List Share). lent_shares c.args.below.now.items ++ ss) own.alone)
    c.hand_down_points.ensures.shares

pub returns-else-ranged-clause-keys : goal.returns-else-ranged-clause-keys
returns-else-ranged-clause-keys c =
    ok_then c.hand_down_points.result
    (λ f a. f c.args.batch.now (can_keyed c.args.batch.now c.args.page.now c.args.share.now _ c.keyed.ensures c.requires.share c.requires.keys).keys a)
    c.hand_down_points.ensures.keys
