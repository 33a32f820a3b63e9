use Rattle.std.proofs.Common.{◌∙◌, Some, ap, inl, inr, ⊎_elim}
use Rattle.engine.specs.Snapshots.{snapshot_of, view_of}
use Rattle.engine.proofs.SnapshotLemmas.{held-read, leaves-more}
use Rattle.engine.proofs.ordered_store.snapshots.SnapshotStoreOrderedStoreSnapshotDisk.create.Goals as goal

pub returns-in-Ok-clause-durable : goal.returns-in-Ok-clause-durable
returns-in-Ok-clause-durable c honest =
    (ap snapshot_of c.in-Ok.ensures.seen ∙ held-read (Some c.new.result) ∙ ap Some c.new.ensures, record { honest = honest; only = λ f same. same })

pub returns-in-Ok-clause-crash : goal.returns-in-Ok-clause-crash
returns-in-Ok-clause-crash c is_synced =
    leaves-more (view_of c.args.disk) (view_of c.keep.new.self) _ _ (λ f left. ⊎_elim inl (λ e. inr (inr (e ∙ ap Some c.new.ensures))) left) c.keep.ensures.crash
