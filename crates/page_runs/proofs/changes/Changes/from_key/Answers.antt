use Rattle.page_runs.proofs.PageRows.{part_from}
use Rattle.page_runs.proofs.changes.Changes.from_key.Goals as goal

pub returns-in-Many-clause-left : goal.returns-in-Many-clause-left
returns-in-Many-clause-left c =
    rw (← c.self.view_is, c.in-Many.is, c.of_map.ensures, c.range.ensures.between _) (part_from c.args.low.now c.in-Many.map.entries)

pub returns-in-Few-clause-rising : goal.returns-in-Few-clause-rising
returns-in-Few-clause-rising c = rw (← c.self.view_is, c.in-Few.is) c.len-rising.ensures.rising

pub returns-in-Many-clause-rising : goal.returns-in-Many-clause-rising
returns-in-Many-clause-rising c = rw (← c.self.view_is, c.in-Many.is) c.len-rising-in-Many.ensures.ordered
