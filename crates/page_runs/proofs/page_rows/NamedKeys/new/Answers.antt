use Rattle.page_runs.specs.PageRows.{ahead, pair_lent, change_lent}
use Rattle.std.specs.Prelude.{None}
use Rattle.page_runs.proofs.PageRows.{next_ahead, rising-in_range, rising-named_by_either, rising-from}
use Rattle.page_runs.proofs.page_rows.NamedKeys.new.Goals as goal

pub invariant_of-result : goal.invariant_of-result
invariant_of-result c = (
  rw (next_ahead pair_lent c.next-pair.result _ _ c.next-pair.ensures.steps, c.new-pairs.ensures) (rising-from _ c.args.page.now c.requires),
  rw (next_ahead change_lent c.next-change.result _ _ c.next-change.ensures.steps, c.from_key-changes.ensures.left) (rising-in_range _ None c.args.changes.now c.from_key-changes.ensures.rising),
)

pub returns-clause-rising : goal.returns-clause-rising
returns-clause-rising c =
    rising-named_by_either (ahead pair_lent c.next-pair.result c.next-pair.new.self) (ahead change_lent c.next-change.result c.next-change.new.self)
    (rw (next_ahead pair_lent c.next-pair.result _ _ c.next-pair.ensures.steps, c.new-pairs.ensures) (rising-from _ c.args.page.now c.requires))
