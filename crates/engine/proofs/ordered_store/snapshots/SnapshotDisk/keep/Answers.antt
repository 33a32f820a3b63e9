use Rattle.std.proofs.Common.{◌≡◌, ◌⊎◌, Some, length, refl, inl, inr}
use Rattle.engine.specs.Snapshots.{bytes_after, snapshot_of}
use Rattle.engine.proofs.SnapshotLemmas.{held-read, kept-crash}
use Rattle.engine.proofs.ordered_store.snapshots.SnapshotDisk.keep.Goals as goal

pub returns-clause-crash : goal.returns-clause-crash
returns-clause-crash c =
    let xs = c.self.inside.snapshots.items in
    rw (← c.self.view_is) (kept-crash xs c.push.new.self.items c.args.snapshot (λ f. (f ≡ bytes_after xs (length xs)) ⊎ (snapshot_of f ≡ Some c.args.snapshot))
    c.in_ok-push.ensures.items (inl refl) (inr (held-read (Some c.args.snapshot))))
