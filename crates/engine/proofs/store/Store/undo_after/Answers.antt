use Rattle.std.proofs.Common.{refl, sym, subst}
use Rattle.engine.specs.Durable.{IsRefusedBatch}
use Rattle.engine.specs.Refusal.{is_crew}
use Rattle.engine.proofs.DurableLemmas.{executed_by, refused_by}
use Rattle.engine.proofs.RefusedCalls.{not_both}
use Rattle.engine.proofs.store.Store.undo_after.Goals as goal
use Rattle.engine.proofs.store.Store.undo_after.Goals.{in-Device, in_default}

pub returns-in-Ok : goal.returns-in-Ok
returns-in-Ok g c =
    elim c.match-matches.branch [
      | in-Device w ↦ absurd (not_both _ w.matches-is c.if-matches.false)
      | in_default w ↦ (refl, w.in_default.not-Device, c.in-Ok._replies.items, executed_by g.D.Disk.view (is_crew c.args.crew) c.args.self.now c.args.undo.now c.in-Ok._replies _ c.batch.new.self c.in-Ok.ensures)
    ]

pub returns-in-Err : goal.returns-in-Err
returns-in-Err g c =
    let batch = c.in-Err.ensures in
    elim c.match-matches.branch [
      | in-Device w ↦ absurd (not_both _ w.matches-is c.if-matches.false)
      | in_default w ↦
          let refused = refused_by g.D.Disk.view (is_crew c.args.crew) c.args.self.now c.args.undo.now c.in-Err.refused _ c.batch.new.self batch in
          (refl, batch.unchanged, (w.in_default.not-Device, subst (λ x. IsRefusedBatch g.D.Disk.view (is_crew c.args.crew) x c.args.undo.now c.in-Err.refused c.batch.new.self) (sym batch.unchanged) refused))
    ]
