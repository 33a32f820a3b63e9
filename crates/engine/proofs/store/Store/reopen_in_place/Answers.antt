use Rattle.std.proofs.Common.{refl}
use Rattle.engine.specs.State.{store_in}
use Rattle.engine.proofs.OpenedLemmas.{reopened-store, unopened-sound}
use Rattle.engine.proofs.store.Store.reopen_in_place.Goals as goal

-- ---- opened

pub invariant_of-self : goal.invariant_of-self
invariant_of-self g c =
    let r = c.in-Ok.found in
    record {
      home = c.in-Ok.ensures.home;
      counted = c.in-Ok.ensures.counted;
      sound = (reopened-store g.D.Disk.view g.D.Disk.failed c.self.inside.disk c.read_synced.new.disk r.settings r.tree r.slot c.slot.inside.ends _ _ c.slot.inside.version c.slot.view_is c.in-Ok.ensures.opened).sound;
    }

pub returns-in-Ok : goal.returns-in-Ok
returns-in-Ok g c = rw (← c.self.view_is) (
    let r = c.in-Ok.found in
    record {
      opened = reopened-store g.D.Disk.view g.D.Disk.failed c.self.inside.disk c.read_synced.new.disk r.settings r.tree r.slot c.slot.inside.ends _ _ c.slot.inside.version c.slot.view_is c.in-Ok.ensures.opened;
      refused = tt;
      has_failed = tt;
    })

-- ---- refused

pub invariant_of-self-in-Err : goal.invariant_of-self-in-Err
invariant_of-self-in-Err g c = record {
  home = c.self.invariant.home;
  counted = c.self.invariant.counted;
  sound = unopened-sound g.D.Disk.view c.self.inside.settings (store_in c.self.inside.tree c.self.inside.log c.self.inside.version) c.self.inside.disk c.read_synced.new.disk c.self.inside.has_failed
      c.has_failed_after-self-inside.result c.in-Err.fault c.self.invariant.sound c.in-Err.ensures.opened.kept c.in-Err.ensures.opened.seen c.has_failed_after-self-inside.ensures;
}

pub returns-in-Err : goal.returns-in-Err
returns-in-Err g c = rw (← c.self.view_is) (record {
  opened = c.in-Err.ensures.opened;
  refused = (refl, refl);
  has_failed = c.has_failed_after-self-inside.ensures;
})
