use Rattle.std.proofs.Common.{◌≡◌, length, sym, rules}
use Rattle.page_search.proofs.PlaceLemmas.{count_below-there, count_below-goes_to}
use Rattle.scan.proofs.EmptyKey.{none_below}
use Rattle.scan.proofs.edge.place_from.Goals as goal

pub returns-then-is_empty-clause-place : goal.returns-then-is_empty-clause-place
returns-then-is_empty-clause-place g c =
    let none : length c.args.key.now ≡ 0 = search (rules, c.if-is_empty.ensures) in
    none_below c.args.key.now (g.L.KeyList.keys c.args.list.now) none

pub returns-in-Ok-clause-place : goal.returns-in-Ok-clause-place
returns-in-Ok-clause-place g c = sym (count_below-there _ _ _ c.place.ensures.rising c.in-Ok.ensures.place)

pub returns-in-Err-clause-place : goal.returns-in-Err-clause-place
returns-in-Err-clause-place g c = sym (count_below-goes_to _ _ _ c.place.ensures.rising c.in-Err.ensures.place)
