use Rattle.page_search.proofs.search.find.Goals as goal

pub returns-clause-value : goal.returns-clause-value
returns-clause-value g c = rw c.lent.ensures at c.find_lent.ensures.value

pub returns-clause-cost : goal.returns-clause-cost
returns-clause-cost g c = rw c.lent.ensures at c.find_lent.ensures.cost

pub returns-clause-least : goal.returns-clause-least
returns-clause-least g c = rw c.lent.ensures at c.find_lent.ensures.least

pub returns-clause-kept : goal.returns-clause-kept
returns-clause-kept g c = c.find_lent.ensures.kept
