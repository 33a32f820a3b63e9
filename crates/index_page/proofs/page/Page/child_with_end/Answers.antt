use Rattle.std.proofs.Common.{◌≡◌, ◌+◌, arith}
use Rattle.index_page.proofs.WithinLemmas.{child_is_known-at, place_at-reported}
use Rattle.index_page.proofs.page.Page.child_with_end.Goals as goal

pub returns-clause-child : goal.returns-clause-child
returns-clause-child g c =
    let same = c.in-Some.ensures.0 in
    let count = c.count_up_to-count.ensures in
    let less = c.in-Some-checked_sub.ensures in
    let last : c.in-Some-checked_sub.at + 1 ≡ c.count_up_to-count.result = omega (arith, less.0, less.1) in
    rw (← same) (child_is_known-at c.args.key.now c.in-Some.list.now _ c.in-Some-checked_sub.at (c.child_at.result.0.now, c.child_at.result.1) _ count.rising (rw same c.requires) count.count last c.child_at.ensures c.low_key_at.ensures)

pub returns-clause-place : goal.returns-clause-place
returns-clause-place g c =
    let same = c.in-Some.ensures.0 in
    let count = c.count_up_to-count.ensures in
    let less = c.in-Some-checked_sub.ensures in
    let last : c.in-Some-checked_sub.at + 1 ≡ c.count_up_to-count.result = omega (arith, less.0, less.1) in
    rw (← same) (place_at-reported c.args.key.now c.in-Some.list.now _ c.in-Some-checked_sub.at (c.child_at.result.0.now, c.child_at.result.1) _ count.rising (rw same c.requires) count.count last c.child_at.ensures c.low_key_at.ensures)
