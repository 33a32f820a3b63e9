use Rattle.std.proofs.Common.{refl}
use Rattle.flush_log.specs.AfterFlush.{after_flush}
use Rattle.flush_log.specs.FlushText.{HasFrames}
use Rattle.flush_log.specs.declared.text.CommitKind.TheVariants as texts
use Rattle.engine.specs.Refusal.{is_crew}
use Rattle.engine.proofs.AsBefore.{text_as_before}
use Rattle.engine.proofs.ClaimWritten.{flush-is_synced, written-contents, written-crash, written-durable, written-fails, written-state}
use Rattle.engine.proofs.ordered_store.by_pages.StoreOrderedStore.flush.Goals as goal

pub returns-clause-contents : goal.returns-clause-contents
returns-clause-contents g c =
    let e = text_as_before g.D.Disk.view g.D.Disk.failed (is_crew c.args.crew) (texts.Flush c.args.self.now.store.version) c.args.self.now c.flush.new.self refl c.flush.result c.flush.ensures.step in
    written-contents after_flush (λ s st. HasFrames s (texts.Flush st.version) st.tree) c.what_was_flushed_is_what_is_read.ensures.tree g.D.Disk.view c.args.self.now c.flush.new.self e.sound.0
    c.flush.result e.store e.unchanged e.device

pub returns-clause-durable : goal.returns-clause-durable
returns-clause-durable g c honest =
    let e = text_as_before g.D.Disk.view g.D.Disk.failed (is_crew c.args.crew) (texts.Flush c.args.self.now.store.version) c.args.self.now c.flush.new.self refl c.flush.result c.flush.ensures.step in
    written-durable after_flush (λ s st. HasFrames s (texts.Flush st.version) st.tree) c.what_was_flushed_is_what_is_read.ensures.tree g.D.Disk.view c.args.self.now c.flush.new.self e.sound.0
    c.what_was_flushed_is_what_is_read.ensures.read c.flush.result e.failed honest (e.bytes honest) e.frames

pub returns-clause-is_synced : goal.returns-clause-is_synced
returns-clause-is_synced g c is_synced =
    let e = text_as_before g.D.Disk.view g.D.Disk.failed (is_crew c.args.crew) (texts.Flush c.args.self.now.store.version) c.args.self.now c.flush.new.self refl c.flush.result c.flush.ensures.step in
    flush-is_synced g.D.Disk.view c.args.self.now c.flush.new.self c.args.crew is_synced c.flush.result e.failed e.bad_crew c.flush.ensures.nothing (e.is_synced is_synced.honest)

pub returns-clause-crash : goal.returns-clause-crash
returns-clause-crash g c fine is_synced =
    let e = text_as_before g.D.Disk.view g.D.Disk.failed (is_crew c.args.crew) (texts.Flush c.args.self.now.store.version) c.args.self.now c.flush.new.self refl c.flush.result c.flush.ensures.step in
    written-crash after_flush (λ s st. HasFrames s (texts.Flush st.version) st.tree) c.what_was_flushed_is_what_is_read.ensures.tree g.D.Disk.view c.args.self.now c.flush.new.self e.sound.0
    c.what_was_flushed_is_what_is_read.ensures.read fine is_synced (g.met.D.Disk.lawful c.args.self.now.disk is_synced.honest)
    c.flush.result e.frames e.frames_under_way e.unchanged (e.crash fine is_synced)

pub returns-clause-state : goal.returns-clause-state
returns-clause-state g c honest =
    let e = text_as_before g.D.Disk.view g.D.Disk.failed (is_crew c.args.crew) (texts.Flush c.args.self.now.store.version) c.args.self.now c.flush.new.self refl c.flush.result c.flush.ensures.step in
    written-state after_flush (λ s st. HasFrames s (texts.Flush st.version) st.tree) c.what_was_flushed_is_what_is_read.ensures.tree g.D.Disk.view c.args.self.now c.flush.new.self e.sound.0
    c.flush.result e.store (e.bytes honest)

pub returns-clause-fails : goal.returns-clause-fails
returns-clause-fails g c =
    let e = text_as_before g.D.Disk.view g.D.Disk.failed (is_crew c.args.crew) (texts.Flush c.args.self.now.store.version) c.args.self.now c.flush.new.self refl c.flush.result c.flush.ensures.step in
    written-fails c.args.self.now c.flush.new.self c.flush.result g.D.Disk.failed e.counted e.device e.unchanged

pub returns-clause-rest : goal.returns-clause-rest
returns-clause-rest g c =
    let e = text_as_before g.D.Disk.view g.D.Disk.failed (is_crew c.args.crew) (texts.Flush c.args.self.now.store.version) c.args.self.now c.flush.new.self refl c.flush.result c.flush.ensures.step in
    e.rest

pub returns-clause-failed : goal.returns-clause-failed
returns-clause-failed g c =
    let e = text_as_before g.D.Disk.view g.D.Disk.failed (is_crew c.args.crew) (texts.Flush c.args.self.now.store.version) c.args.self.now c.flush.new.self refl c.flush.result c.flush.ensures.step in
    e.failed

pub returns-clause-refused : goal.returns-clause-refused
returns-clause-refused g c =
    let e = text_as_before g.D.Disk.view g.D.Disk.failed (is_crew c.args.crew) (texts.Flush c.args.self.now.store.version) c.args.self.now c.flush.new.self refl c.flush.result c.flush.ensures.step in
    e.unchanged
