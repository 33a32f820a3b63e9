use Rattle.std.proofs.Common.{◌∙◌, ap, sym, eqb-true}
use Rattle.std.specs.List.Sorted.{IsPermutation}
use Rattle.routing.specs.Routes.{Route}
use Rattle.routing.specs.Shares.{all_of, share_of_lent}
use Rattle.routing.proofs.BatchOrder.{order_of_one, same_parts}
use Rattle.routing.proofs.RisingPlaces.{distinct_places, in_batch_order_by, own_places}
use Rattle.routing.proofs.descent.page_run_of.Goals as goal

pub returns-then-is_empty : goal.returns-then-is_empty
returns-then-is_empty c =
    order_of_one c.args.share.now _ _ _ c.of_one.result c.keyed-keyed.ensures c.reaching-reaching.ensures c.if-keyed-eq1.true (eqb-true _ _ (sym c.is_empty.ensures ∙ c.if-is_empty.true))
    (ap (λ (r : Route). r.pid) c.of_one.ensures ∙ c.pid-pid.ensures)
    (ap (λ (r : Route). r.places) c.of_one.ensures)

pub returns-then-not-has_range_at : goal.returns-then-not-has_range_at
returns-then-not-has_range_at c =
    in_batch_order_by _ _ _ _ c.new.ensures c.pid-pid.ensures
    (own_places c.args.share.now _ _ _ c.keyed-keyed.ensures c.reaching-reaching.ensures (eqb-true _ _ (sym c.is_empty-2.ensures ∙ c.if-is_empty-2.true)) c.in_ok-in_key_order.ensures)

pub new-requires-2 : goal.new-requires-2
new-requires-2 c =
    rw c.from_vec.ensures.items
    (distinct_places c.args.share.now _ c.requires (same_parts c.args.share.now _ _ _ c.keyed-keyed.ensures c.reaching-reaching.ensures c.in_ok-places.ensures.same))

pub returns : goal.returns
returns c =
    let same : IsPermutation (all_of (share_of_lent c.args.share.now)) c.from_vec.result.items =
    rw c.from_vec.ensures.items (same_parts c.args.share.now _ _ _ c.keyed-keyed.ensures c.reaching-reaching.ensures c.in_ok-places.ensures.same) in
    in_batch_order_by _ _ _ _ c.new-2.ensures c.pid-pid.ensures same
