use Rattle.index_page.proofs.CountLemmas.{count-there, count-goes_to}
use Rattle.index_page.proofs.child_list.count_up_to.Goals as goal

pub returns-in-Ok-clause-count : goal.returns-in-Ok-clause-count
returns-in-Ok-clause-count g c = count-there c.args.key.now c.args.list.now _ c.place.ensures.rising c.in-Ok.ensures.place

pub returns-in-Err-clause-count : goal.returns-in-Err-clause-count
returns-in-Err-clause-count g c = count-goes_to c.args.key.now c.args.list.now _ c.in-Err.ensures.place
