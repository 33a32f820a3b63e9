use Rattle.std.proofs.Common.{true, false, refl, sym}
use Rattle.page_search.proofs.CostLemmas.{least_by}
use Rattle.page_search.proofs.PlaceLemmas.{is_there-place, value_at-there, value_at-goes_to}
use Rattle.page_search.proofs.search.find_in_base.Goals as goal

pub returns-in-Ok-clause-value : goal.returns-in-Ok-clause-value
returns-in-Ok-clause-value g c =
    sym (value_at-there _ _ c.args.base.now _ c.place.ensures.rising c.in-Ok.ensures.place c.cell.ensures)

pub returns-in-Err-clause-value : goal.returns-in-Err-clause-value
returns-in-Err-clause-value g c =
    sym (value_at-goes_to _ c.args.base.now _ c.place.ensures.rising c.in-Err.ensures.place)

pub returns-in-Ok-clause-least : goal.returns-in-Ok-clause-least
returns-in-Ok-clause-least g c =
    least_by true c.args.key.now c.args.base.now _ _ _ (is_there-place _ c.args.base.now _ c.in-Ok.ensures.place) c.in-Ok.ensures.least

pub returns-in-Err-clause-least : goal.returns-in-Err-clause-least
returns-in-Err-clause-least g c =
    let missing = value_at-goes_to _ c.args.base.now _ c.place.ensures.rising c.in-Err.ensures.place in
    least_by false c.args.key.now c.args.base.now _ _ _ (rw missing refl) c.in-Err.ensures.least
