use Rattle.std.proofs.Common.{inr, refl}
use Rattle.flush_log.proofs.ViewLemmas.{counted_failed}
use Rattle.engine.proofs.HiddenStores.{revealed-sound}
use Rattle.engine.proofs.SoundStores.{uncounted, with_count}
use Rattle.engine.proofs.store.creation.reveal_store.Goals as goal

pub invariant_of-result : goal.invariant_of-result
invariant_of-result g c =
    let inside = c.hidden.inside in
    with_count _ (revealed-sound g.D.Disk.view inside.settings inside.tree inside.log inside.version c.reveal.new.disk inside.has_failed _ _ (g.D.Disk.view inside.disk.disk) (uncounted c.hidden.invariant)
    refl refl refl c.reveal.ensures.kept.honest c.reveal.ensures.kept.size (λ honest. c.in-Ok.ensures.written honest))
    c.hidden.invariant.counted

pub returns-in-Ok : goal.returns-in-Ok
returns-in-Ok g c = rw (← c.hidden.view_is) (record {
  same = (refl, refl, refl);
  kept = (c.reveal.ensures.kept, c.in-Ok.ensures.failed);
  sound = (invariant_of-result g c).sound;
  refused = tt;
  bytes = λ honest. (c.in-Ok.ensures.written honest, c.in-Ok.ensures.is_synced honest);
  crash = λ is_synced. c.reveal.ensures.crash is_synced;
})

pub returns-in-Err : goal.returns-in-Err
returns-in-Err g c =
    let device = c.into.ensures in
    rw (← c.hidden.view_is) (record {
      same = tt;
      kept = tt;
      sound = tt;
      refused = (device, inr (device, counted_failed _ _ c.in-Err.ensures.failed), c.reveal.ensures.kept);
      bytes = λ _. tt;
      crash = λ is_synced. c.reveal.ensures.crash is_synced;
    })
