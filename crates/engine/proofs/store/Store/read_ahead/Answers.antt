use Rattle.std.proofs.Common.{◌≡◌, ⊎_elim, false, inl, inr, refl, sym, subst, arith}
use Rattle.flush_log.specs.AfterFlush.{slot_of}
use Rattle.flush_log.proofs.SameLemmas.{leaves_the_same}
use Rattle.flush_log.proofs.SlotLemmas.{ends-are}
use Rattle.engine.specs.State.{store_in}
use Rattle.engine.proofs.CleanDone.{refused-sound}
use Rattle.engine.proofs.OneClean.{read_for, only_read, one_refused}
use Rattle.engine.proofs.store.Store.read_ahead.Goals as goal

pub read_for_cleans-requires-clause-ends : goal.read_for_cleans-requires-clause-ends
read_for_cleans-requires-clause-ends g c = λ κs within. ends-are c.self.inside.settings (slot_of (store_in c.self.inside.tree c.self.inside.log c.self.inside.version)) c.self.invariant.sound.is.slot

-- ---- read

pub invariant_of-self : goal.invariant_of-self
invariant_of-self g c =
    let st = store_in c.self.inside.tree c.self.inside.log c.self.inside.version in
    record {
      home = c.self.invariant.home;
      counted = c.self.invariant.counted;
      sound = (only_read g.D.Disk.view g.D.Disk.failed c.self.inside.settings st c.self.inside.disk c.self.inside.has_failed c.self.invariant.sound (subst (λ x. x.has_failed ≡ false) (sym c.self.view_is) c.requires.fine) c.read_for_cleans.new.disk
          c.read_for_cleans.ensures.only_reads.kept c.in-Ok.ensures.only_reads.counted c.read_for_cleans.ensures.only_reads.same).sound;
    }

pub returns-in-Ok : goal.returns-in-Ok
returns-in-Ok g c = record {
  read = rw (← c.self.view_is) (
      let s = c.self.inside.settings in
      let st = store_in c.self.inside.tree c.self.inside.log c.self.inside.version in
      let new = c.read_for_cleans.new.disk in
      let some = c.requires.some in
      let limit = c.in-Ok.ensures.limit in (
        only_read g.D.Disk.view g.D.Disk.failed s st c.self.inside.disk c.self.inside.has_failed c.self.invariant.sound (subst (λ x. x.has_failed ≡ false) (sym c.self.view_is) c.requires.fine) new c.read_for_cleans.ensures.only_reads.kept c.in-Ok.ensures.only_reads.counted c.read_for_cleans.ensures.only_reads.same,
        read_for g.D.Disk.view s st new c.self.inside.has_failed _ c.self.inside.version c.self.inside.log refl refl c.in-Ok.ensures.reading,
        omega (arith, some, limit.0, limit.1),
      ));
  limit = rw (← c.self.view_is) c.in-Ok.ensures.limit.0;
  refused = tt;
  live = rw (← c.self.view_is) (let (file, read, known) = c.in-Ok.ensures.live in (file, read.honest, known));
}

-- ---- refused

pub invariant_of-self-in-Err : goal.invariant_of-self-in-Err
invariant_of-self-in-Err g c =
    let st = store_in c.self.inside.tree c.self.inside.log c.self.inside.version in
    record {
      home = c.self.invariant.home;
      counted = c.self.invariant.counted;
      sound = refused-sound g.D.Disk.view c.self.inside.settings st c.self.inside.disk c.read_for_cleans.new.disk c.self.inside.has_failed c.self.invariant.sound (subst (λ x. x.has_failed ≡ false) (sym c.self.view_is) c.requires.fine) c.read_for_cleans.ensures.only_reads.kept
          c.is_of_disk-self-inside.result c.in-Err.fault Unit c.is_of_disk-self-inside.ensures (λ honest. inl (c.read_for_cleans.ensures.only_reads.same honest));
    }

pub returns-in-Err : goal.returns-in-Err
returns-in-Err g c = record {
  read = tt;
  limit = tt;
  refused = rw (← c.self.view_is) (
      let view = g.D.Disk.view in
      let s = c.self.inside.settings in
      let disk = c.self.inside.disk in
      let st = store_in c.self.inside.tree c.self.inside.log c.self.inside.version in
      let (file, read, reported) = c.in-Err.ensures.err in
      one_refused view g.D.Disk.failed s st disk c.self.inside.has_failed c.self.invariant.sound (subst (λ x. x.has_failed ≡ false) (sym c.self.view_is) c.requires.fine) c.read_for_cleans.new.disk c.read_for_cleans.ensures.only_reads.kept
      (λ is_synced step. leaves_the_same (view disk) (view c.read_for_cleans.new.disk) _ (g.met.D.Disk.lawful disk is_synced.honest) (c.read_for_cleans.ensures.only_reads.same is_synced.honest) is_synced (inl refl))
      c.is_of_disk-self-inside.result c.in-Err.fault Unit c.is_of_disk-self-inside.ensures
      (file, read, reported st refl refl) (λ honest. inl (c.read_for_cleans.ensures.only_reads.same honest)) c.in-Err.ensures.only_reads.uncounted);
  live = rw (← c.self.view_is) (
      let (file, read, why) = c.in-Err.ensures.live in (
        file,
        read.honest,
        ⊎_elim (λ nothing. inl nothing) (λ other. inr (⊎_elim (λ late. ⊎_elim (λ memory. inl memory) (λ device. inr (inl device.0)) late) (λ none. inr (inr none)) other)) why,
      ));
}
