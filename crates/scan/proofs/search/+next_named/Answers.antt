use Rattle.std.proofs.Common.{sym}
use Rattle.keys.specs.Bytes.{Bytes}
use Rattle.scan.specs.Edge.{is_under}
use Rattle.scan.proofs.PlaceLemmas.{edge_passes_lower}
use Rattle.scan.proofs.SearchLemmas.{none_beyond, first_beyond, base_names_none, base_names, run_names_none, run_names_only, run_names_first, run_names_later}
use Rattle.scan.proofs.search.+next_named.Goals as goal

-- ---- the base alone

pub returns-in_err-place : goal.returns-in_err-place
returns-in_err-place g t c =
    let d = g.W.Towards.direction in
    let under = is_under c.args.edge.now in
    let base = c.base-base.result.now in
    rw c.from_residual.ensures
    (base_names_none d under c.args.lists.now base c.in_default.ensures c.base-base.ensures
    (none_beyond d under (edge_passes_lower c.args.edge.now) base c.count_under.ensures.rising c.count_under.result c.count_under.ensures.count (rw (c.direction-direction.ensures, c.len.ensures.count) at c.in_err-place.ensures)))

pub returns-in_default : goal.returns-in_default
returns-in_default g t c =
    let d = g.W.Towards.direction in
    let under = is_under c.args.edge.now in
    let base = c.base-base.result.now in
    let first = first_beyond d under (edge_passes_lower c.args.edge.now) base c.count_under.ensures.rising c.count_under.result c.count_under.ensures.count c.in_ok-place.place c.in_ok-place._later _ (rw (c.direction-direction.ensures, c.len.ensures.count) at c.in_ok-place.ensures) c.key_ref.ensures in
    base_names d under c.args.lists.now base _ first.0 c.in_default.ensures c.base-base.ensures c.count_under.ensures.rising first.1

-- ---- a run, and what lies below it

pub returns-in_default-next_place : goal.returns-in_default-next_place
returns-in_default-next_place g t c =
    let d = g.W.Towards.direction in
    let under = is_under c.args.edge.now in
    let run = c.in-Some.run'.now in
    run_names_none d under c.args.lists.now c.in-Some.below run Bytes (λ x. x) c.next_named-under.result c.in-Some.ensures
    (none_beyond d under (edge_passes_lower c.args.edge.now) run c.count_under-2.ensures.rising c.count_under-2.result c.count_under-2.ensures.count (rw (c.direction-direction.ensures, c.len-2.ensures.count) at c.in_default-next_place.ensures))
    c.next_named-under.ensures

pub returns-in_default-under : goal.returns-in_default-under
returns-in_default-under g t c =
    let d = g.W.Towards.direction in
    let under = is_under c.args.edge.now in
    let run = c.in-Some.run'.now in
    let first = first_beyond d under (edge_passes_lower c.args.edge.now) run c.count_under-2.ensures.rising c.count_under-2.result c.count_under-2.ensures.count c.in-Some-next_place.place c.in-Some-next_place._later _ (rw (c.direction-direction.ensures, c.len-2.ensures.count) at c.in-Some-next_place.ensures) c.key_ref-key.ensures in
    run_names_only d under c.args.lists.now c.in-Some.below run (c.key_ref-key.result, first.0) c.in-Some.ensures c.count_under-2.ensures.rising first.1 c.in_default-under.ensures

pub returns-then-comes_before : goal.returns-then-comes_before
returns-then-comes_before g t c =
    let d = g.W.Towards.direction in
    let under = is_under c.args.edge.now in
    let run = c.in-Some.run'.now in
    let first = first_beyond d under (edge_passes_lower c.args.edge.now) run c.count_under-2.ensures.rising c.count_under-2.result c.count_under-2.ensures.count c.in-Some-next_place.place c.in-Some-next_place._later _ (rw (c.direction-direction.ensures, c.len-2.ensures.count) at c.in-Some-next_place.ensures) c.key_ref-key.ensures in
    run_names_later d under c.args.lists.now c.in-Some.below run (c.key_ref-key.result, first.0) c.in-Some.ensures c.count_under-2.ensures.rising first.1 c.in-Some-under.other c.in-Some-under.ensures (sym (rw c.direction-direction.ensures at c.if-comes_before.ensures))

pub returns-else-comes_before : goal.returns-else-comes_before
returns-else-comes_before g t c =
    let d = g.W.Towards.direction in
    let under = is_under c.args.edge.now in
    let run = c.in-Some.run'.now in
    let first = first_beyond d under (edge_passes_lower c.args.edge.now) run c.count_under-2.ensures.rising c.count_under-2.result c.count_under-2.ensures.count c.in-Some-next_place.place c.in-Some-next_place._later _ (rw (c.direction-direction.ensures, c.len-2.ensures.count) at c.in-Some-next_place.ensures) c.key_ref-key.ensures in
    run_names_first d under c.args.lists.now c.in-Some.below run (c.key_ref-key.result, first.0) c.in-Some.ensures c.count_under-2.ensures.rising first.1 c.in-Some-under.other c.in-Some-under.ensures (sym (rw c.direction-direction.ensures at c.if-comes_before.ensures))
