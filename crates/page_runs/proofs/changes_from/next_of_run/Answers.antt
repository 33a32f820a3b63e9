use Rattle.std.proofs.Common.{add-one}
use Rattle.delta_chain.proofs.Places.{drop_pair}
use Rattle.page_runs.proofs.changes_from.next_of_run.Goals as goal

pub returns-then-here-len : goal.returns-then-here-len
returns-then-here-len c = rw add-one (drop_pair c.args.run.now c.args.at.now _ _ c.key.ensures c.change.ensures)
