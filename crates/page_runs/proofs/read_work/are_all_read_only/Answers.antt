use Rattle.std.proofs.Common.{arith}
use Rattle.std.proofs.lemmas.List.{drop_more}
use Rattle.page_runs.proofs.ReadLemmas.{one_changes, one_looks}
use Rattle.page_runs.proofs.read_work.are_all_read_only.Goals as goal

pub returns-then-not-is_read_only_at : goal.returns-then-not-is_read_only_at
returns-then-not-is_read_only_at c =
    one_changes c.args.commands.now c.args.places.now c.loop-place.place-index _ (drop_more c.args.places.now c.loop-place.place-index 0 (omega arith)) _
    c.is_read_only_at.ensures c.loop-place.invariant (search)

pub loop-place-preserved : goal.loop-place-preserved
loop-place-preserved c =
    one_looks c.args.commands.now c.args.places.now c.loop-place.place-index _ (drop_more c.args.places.now c.loop-place.place-index 0 (omega arith)) _
    c.is_read_only_at.ensures c.loop-place.invariant (search)
