use Rattle.std.proofs.Common.{rules, ◌<◌, ◌^◌}
use Rattle.mapping.specs.TreeInMemory.{tree_of}
use Rattle.flush_log.specs.FlushText.{flush_frames}
use Rattle.engine.proofs.CleansLemmas.{if_ok}
use Rattle.engine.proofs.CompactedStores.{compacted_sound}
use Rattle.engine.proofs.PendingLemmas.{some-left}
use Rattle.engine.proofs.RoomLemmas.{if_same}
use Rattle.engine.proofs.SoundStores.{uncounted}
use Rattle.engine.proofs.store.Store.compacted_that_fits.Goals as goal

-- ---- its flush is refused, or has nothing to write

pub returns-in-Err : goal.returns-in-Err
returns-in-Err g c = record {
  fits = if_ok c.no_compacted.result _ _ c.no_compacted.ensures.none (λ o none. rw none tt);
  err = c.no_compacted.ensures.err;
}

pub returns-then-is_all_written : goal.returns-then-is_all_written
returns-then-is_all_written g c = record { fits = tt; err = tt }

-- ---- its flush is planned

pub plan-requires-clause-store : goal.plan-requires-clause-store
plan-requires-clause-store g c κs within =
    let words : c.in-Ok.new.root < 2 ^ 64 = search rules in (
      c.self.inside.version,
      (compacted_sound g.D.Disk.view c.self.inside.settings c.self.inside.tree c.in-Ok.new c.self.inside.log c.self.inside.version c.self.inside.disk c.self.inside.has_failed
          c.in-Ok.ensures.tree words (uncounted c.self.invariant) c.in-Ok.ensures.sound
          c.a_compacted_tree_keeps_the_store_in_step.ensures.kept c.a_compacted_tree_keeps_the_store_in_step.ensures.step).sound.is,
    )

pub plan-requires-clause-some : goal.plan-requires-clause-some
plan-requires-clause-some g c κs within =
    some-left c.is_all_written.result (flush_frames c.self.inside.version (tree_of c.in-Ok.new)) (c.is_all_written.ensures c.self.inside.version) c.if-is_all_written.false

pub returns-in-Ok-plan : goal.returns-in-Ok-plan
returns-in-Ok-plan g c =
    let words : c.in-Ok.new.root < 2 ^ 64 = search rules in
    rw (← c.self.view_is) (record { fits = (c.in-Ok.ensures.sound, c.in-Ok.ensures.tree, words); err = tt })

pub returns-in-Err-plan : goal.returns-in-Err-plan
returns-in-Err-plan g c =
    let words : c.in-Ok.new.root < 2 ^ 64 = search rules in
    rw (← c.self.view_is) (record {
      fits = if_ok c.compacted_after_cleans.result _ _ c.compacted_after_cleans.ensures.same (λ o same. if_same o c.in-Ok.new _ same (c.in-Ok.ensures.sound, c.in-Ok.ensures.tree, words));
      err = c.compacted_after_cleans.ensures.err;
    })
