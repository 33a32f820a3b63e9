use Rattle.std.proofs.Common.{◌≡◌, ◌∙◌, ◌-◌, Some, length, sym, ap}
use Rattle.std.specs.List.{slice_get}
use Rattle.engine.specs.Snapshots.{held_after}
use Rattle.engine.proofs.SnapshotLemmas.{held-read, held-last}
use Rattle.engine.proofs.ordered_store.snapshots.SnapshotDisk.last.Goals as goal

pub returns-in_ok-copy-in-Some-clause-ok : goal.returns-in_ok-copy-in-Some-clause-ok
returns-in_ok-copy-in-Some-clause-ok c =
    let xs = c.args.self.now.snapshots in
    let e : slice_get xs (length xs - 1) ≡ Some c.in-Some.last.now = rw (← c.self.view_is, ← c.deref.ensures.value) (sym c.in-Some.ensures.value) in
    let copy = c.in_ok-copy-in-Some.ensures in
    (held-read (held_after xs (length xs)) ∙ held-last xs ∙ e ∙ ap Some (sym copy.copy), rw copy.copy copy.rising)
