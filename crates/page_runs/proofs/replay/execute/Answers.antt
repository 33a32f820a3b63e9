use Rattle.std.proofs.Common.{List, ℕ, is_some}
use Rattle.keys.specs.OrderedMap.{value_at}
use Rattle.delta_chain.specs.Layers.{with_run, entries_of}
use Rattle.delta_chain.proofs.LayerLemmas.{rising-with_run, rising-entries_of}
use Rattle.page_runs.proofs.Overlays.{put_noted, add_noted, del_noted, wipe_noted}
use Rattle.page_runs.proofs.replay.execute.Goals as goal

pub returns-in-Put-clause-changes : goal.returns-in-Put-clause-changes
returns-in-Put-clause-changes c =
    let before : List (List ℕ × List ℕ) = with_run (entries_of c.args.page.now) c.args.changes.now in
    rw c.in-Put.is (put_noted c.put.result before c.args.changes.now c.put.new.changes c.in-Put.key c.in-Put.value c.put.ensures.changes)

pub returns-in-Add-clause-changes : goal.returns-in-Add-clause-changes
returns-in-Add-clause-changes c =
    let before : List (List ℕ × List ℕ) = with_run (entries_of c.args.page.now) c.args.changes.now in
    rw c.in-Add.is (add_noted c.add.result (is_some (value_at c.in-Add.key before)) before c.args.changes.now c.add.new.changes c.in-Add.key c.in-Add.value c.add.ensures.changes)

pub returns-in-Del-clause-changes : goal.returns-in-Del-clause-changes
returns-in-Del-clause-changes c =
    let before : List (List ℕ × List ℕ) = with_run (entries_of c.args.page.now) c.args.changes.now in
    let rising = rising-with_run (entries_of c.args.page.now) c.args.changes.now (rising-entries_of c.args.page.now c.requires.order) in
    rw c.in-Del.is (del_noted c.del.result (is_some (value_at c.in-Del.key before)) before c.args.changes.now c.del.new.changes c.in-Del.key rising c.del.ensures.changes)

pub returns-in-Wipe-clause-changes : goal.returns-in-Wipe-clause-changes
returns-in-Wipe-clause-changes c =
    let before : List (List ℕ × List ℕ) = with_run (entries_of c.args.page.now) c.args.changes.now in
    rw c.in-Wipe.is (wipe_noted c.wipe.result before c.args.changes.now c.wipe.new.changes c.in-Wipe.low c.in-Wipe.end c.wipe.ensures.changes)
