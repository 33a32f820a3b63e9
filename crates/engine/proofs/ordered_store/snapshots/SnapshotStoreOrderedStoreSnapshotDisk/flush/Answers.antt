use Rattle.std.proofs.Common.{◌∙◌, Some, ap, inl, inr, ⊎_elim}
use Rattle.engine.specs.Snapshots.{snapshot_of, view_of}
use Rattle.engine.proofs.SnapshotLemmas.{held-read, leaves-more}
use Rattle.engine.proofs.ordered_store.snapshots.SnapshotStoreOrderedStoreSnapshotDisk.flush.Goals as goal

pub returns-clause-durable : goal.returns-clause-durable
returns-clause-durable g c honest = ap snapshot_of c.in_ok-keep.ensures.seen ∙ held-read (Some c.in_ok-snapshot.snapshot) ∙ ap Some c.in_ok-snapshot.ensures.copy

pub returns-clause-crash : goal.returns-clause-crash
returns-clause-crash g c fine is_synced =
    leaves-more (view_of c.args.self.now.disk) (view_of c.keep.new.self) _ _
    (λ f left. ⊎_elim (λ e. inl (ap snapshot_of e)) (λ e. inr (e ∙ ap Some c.in_ok-snapshot.ensures.copy)) left) c.keep.ensures.crash
