use Rattle.std.proofs.Common.{◌≡◌, ◌<◌, false, refl, sym, ap, subst}
use Rattle.flush_log.specs.AfterFlush.{slot_of}
use Rattle.flush_log.specs.Ends.{ends_in}
use Rattle.flush_log.proofs.SlotLemmas.{ends-are}
use Rattle.engine.specs.Cleans.{IsReadFor}
use Rattle.engine.specs.State.{store_in}
use Rattle.engine.proofs.CleanDone.{cleaned-now, cleaned-sound, refused-sound}
use Rattle.engine.proofs.OneClean.{read_for, one_done, one_refused}
use Rattle.engine.proofs.store.Store.clean_by_reading.Goals as goal

pub clean_by-requires-clause-ends : goal.clean_by-requires-clause-ends
clean_by-requires-clause-ends g c = ends-are c.self.inside.settings (slot_of (store_in c.self.inside.tree c.self.inside.log c.self.inside.version)) c.self.invariant.sound.is.slot

pub clean_by-requires-clause-reading : goal.clean_by-requires-clause-reading
clean_by-requires-clause-reading g c = subst (λ x. IsReadFor g.D.Disk.view x c.args.reading.now) (sym c.self.view_is) c.requires.read

pub clean_by-requires-clause-has : goal.clean_by-requires-clause-has
clean_by-requires-clause-has g c = subst (λ x. x.store.head < c.args.reading.now.limit) (sym c.self.view_is) c.requires.next

-- ---- done

pub invariant_of-self : goal.invariant_of-self
invariant_of-self g c =
    let s = c.self.inside.settings in
    let tree = c.self.inside.tree in
    let st = store_in tree c.self.inside.log c.self.inside.version in
    let (file, read, reported) = c.in-Ok.ensures.read in
    let (bytes, done) = reported st refl refl in
    let law = c.a_clean_keeps_the_store.ensures in
    record {
      home = c.self.invariant.home;
      counted = c.self.invariant.counted;
      sound = cleaned-sound g.D.Disk.view s st c.self.inside.disk c.clean_by.new.disk c.self.inside.has_failed c.self.invariant.sound (subst (λ x. x.has_failed ≡ false) (sym c.self.view_is) c.requires.fine) c.clean_by.ensures.kept
          (store_in tree c.committed.inside.ends c.committed.inside.version) file bytes law.kept law.step (cleaned-now _ tree c.in-Ok.committed c.committed.inside.ends _ _ c.committed.inside.version bytes c.committed.view_is done)
          (λ honest. cleaned-now _ tree c.in-Ok.committed c.committed.inside.ends _ _ c.committed.inside.version _ c.committed.view_is (c.in-Ok.ensures.written honest st refl refl));
    }

pub returns-in-Ok-clause-done : goal.returns-in-Ok-clause-done
returns-in-Ok-clause-done g c = rw (← c.self.view_is) (
    let view = g.D.Disk.view in
    let s = c.self.inside.settings in
    let tree = c.self.inside.tree in
    let st = store_in tree c.self.inside.log c.self.inside.version in
    let now = store_in tree c.committed.inside.ends c.committed.inside.version in
    let new = c.clean_by.new.disk in
    let law = c.a_clean_keeps_the_store.ensures in
    let (file, read, reported) = c.in-Ok.ensures.read in
    let (bytes, done) = reported st refl refl in
    let is = cleaned-now _ tree c.in-Ok.committed c.committed.inside.ends _ _ c.committed.inside.version bytes c.committed.view_is done in (
      one_done view g.D.Disk.failed s st c.self.inside.disk c.self.inside.has_failed c.self.invariant.sound (subst (λ x. x.has_failed ≡ false) (sym c.self.view_is) c.requires.fine) new c.clean_by.ensures.kept
          (λ is_synced step. c.clean_by.ensures.crash is_synced st refl refl step) now now.head refl (file, read, bytes, is)
          (λ honest. cleaned-now _ tree c.in-Ok.committed c.committed.inside.ends _ _ c.committed.inside.version _ c.committed.view_is (c.in-Ok.ensures.written honest st refl refl))
          c.in-Ok.ensures.counted c.in-Ok.ensures.is_synced (invariant_of-self g c).sound,
      read_for view s now new c.self.inside.has_failed c.clean_by.new.reading c.self.inside.version (ends_in c.in-Ok.committed) (sym (law.memory s st now file bytes is).3)
          (sym (ap ends_in c.committed.view_is)) c.in-Ok.ensures.reading,
    ))

-- ---- refused

pub invariant_of-self-in-Err : goal.invariant_of-self-in-Err
invariant_of-self-in-Err g c =
    let s = c.self.inside.settings in
    let st = store_in c.self.inside.tree c.self.inside.log c.self.inside.version in
    record {
      home = c.self.invariant.home;
      counted = c.self.invariant.counted;
      sound = refused-sound g.D.Disk.view s st c.self.inside.disk c.clean_by.new.disk c.self.inside.has_failed c.self.invariant.sound (subst (λ x. x.has_failed ≡ false) (sym c.self.view_is) c.requires.fine) c.clean_by.ensures.kept
          c.is_of_disk-self-inside.result _ _ c.is_of_disk-self-inside.ensures (λ honest. c.in-Err.ensures.unwritten honest st refl refl);
    }

pub returns-in-Err-clause-refused : goal.returns-in-Err-clause-refused
returns-in-Err-clause-refused g c = rw (← c.self.view_is) (
    let s = c.self.inside.settings in
    let st = store_in c.self.inside.tree c.self.inside.log c.self.inside.version in
    let (file, read, reported) = c.in-Err.ensures.read in
    one_refused g.D.Disk.view g.D.Disk.failed s st c.self.inside.disk c.self.inside.has_failed c.self.invariant.sound (subst (λ x. x.has_failed ≡ false) (sym c.self.view_is) c.requires.fine) c.clean_by.new.disk c.clean_by.ensures.kept
    (λ is_synced step. c.clean_by.ensures.crash is_synced st refl refl step) c.is_of_disk-self-inside.result c.in-Err.fault _ c.is_of_disk-self-inside.ensures
    (file, read, reported st refl refl) (λ honest. c.in-Err.ensures.unwritten honest st refl refl) c.in-Err.ensures.uncounted)

-- ---- the limit stays

pub returns-in-Ok-clause-limit : goal.returns-in-Ok-clause-limit
returns-in-Ok-clause-limit g c = c.clean_by.ensures.limit

pub returns-in-Err-clause-limit : goal.returns-in-Err-clause-limit
returns-in-Err-clause-limit g c = c.clean_by.ensures.limit
