use Rattle.flush_log.specs.AfterFlush.{after_upgrade}
use Rattle.flush_log.specs.FlushText.{HasFrames}
use Rattle.flush_log.specs.declared.text.CommitKind.TheVariants as texts
use Rattle.engine.specs.Refusal.{is_crew}
use Rattle.engine.proofs.AsBefore.{text_as_before}
use Rattle.engine.proofs.ClaimWritten.{written-contents, written-crash, written-durable, written-fails, written-state}
use Rattle.engine.proofs.ordered_store.by_pages.StoreOrderedStore.upgrade.Goals as goal

pub returns-clause-contents : goal.returns-clause-contents
returns-clause-contents g c =
    let e = text_as_before g.D.Disk.view g.D.Disk.failed (is_crew c.args.crew) texts.Upgrade c.args.self.now c.upgrade.new.self tt c.upgrade.result c.upgrade.ensures.step in
    written-contents after_upgrade (λ s st. HasFrames s texts.Upgrade st.tree) c.what_was_upgraded_is_what_is_read.ensures.tree g.D.Disk.view c.args.self.now c.upgrade.new.self e.sound.0
    c.upgrade.result e.store e.unchanged e.device

pub returns-clause-durable : goal.returns-clause-durable
returns-clause-durable g c honest =
    let e = text_as_before g.D.Disk.view g.D.Disk.failed (is_crew c.args.crew) texts.Upgrade c.args.self.now c.upgrade.new.self tt c.upgrade.result c.upgrade.ensures.step in
    written-durable after_upgrade (λ s st. HasFrames s texts.Upgrade st.tree) c.what_was_upgraded_is_what_is_read.ensures.tree g.D.Disk.view c.args.self.now c.upgrade.new.self e.sound.0
    c.what_was_upgraded_is_what_is_read.ensures.read c.upgrade.result e.failed honest (e.bytes honest) e.frames

pub returns-clause-crash : goal.returns-clause-crash
returns-clause-crash g c fine is_synced =
    let e = text_as_before g.D.Disk.view g.D.Disk.failed (is_crew c.args.crew) texts.Upgrade c.args.self.now c.upgrade.new.self tt c.upgrade.result c.upgrade.ensures.step in
    written-crash after_upgrade (λ s st. HasFrames s texts.Upgrade st.tree) c.what_was_upgraded_is_what_is_read.ensures.tree g.D.Disk.view c.args.self.now c.upgrade.new.self e.sound.0
    c.what_was_upgraded_is_what_is_read.ensures.read fine is_synced (g.met.D.Disk.lawful c.args.self.now.disk is_synced.honest)
    c.upgrade.result e.frames e.frames_under_way e.unchanged (e.crash fine is_synced)

pub returns-clause-state : goal.returns-clause-state
returns-clause-state g c honest =
    let e = text_as_before g.D.Disk.view g.D.Disk.failed (is_crew c.args.crew) texts.Upgrade c.args.self.now c.upgrade.new.self tt c.upgrade.result c.upgrade.ensures.step in
    written-state after_upgrade (λ s st. HasFrames s texts.Upgrade st.tree) c.what_was_upgraded_is_what_is_read.ensures.tree g.D.Disk.view c.args.self.now c.upgrade.new.self e.sound.0
    c.upgrade.result e.store (e.bytes honest)

pub returns-clause-fails : goal.returns-clause-fails
returns-clause-fails g c =
    let e = text_as_before g.D.Disk.view g.D.Disk.failed (is_crew c.args.crew) texts.Upgrade c.args.self.now c.upgrade.new.self tt c.upgrade.result c.upgrade.ensures.step in
    written-fails c.args.self.now c.upgrade.new.self c.upgrade.result g.D.Disk.failed e.counted e.device e.unchanged

pub returns-clause-is_synced : goal.returns-clause-is_synced
returns-clause-is_synced g c =
    let e = text_as_before g.D.Disk.view g.D.Disk.failed (is_crew c.args.crew) texts.Upgrade c.args.self.now c.upgrade.new.self tt c.upgrade.result c.upgrade.ensures.step in
    λ honest. e.is_synced honest tt

pub returns-clause-rest : goal.returns-clause-rest
returns-clause-rest g c =
    let e = text_as_before g.D.Disk.view g.D.Disk.failed (is_crew c.args.crew) texts.Upgrade c.args.self.now c.upgrade.new.self tt c.upgrade.result c.upgrade.ensures.step in
    e.rest

pub returns-clause-failed : goal.returns-clause-failed
returns-clause-failed g c =
    let e = text_as_before g.D.Disk.view g.D.Disk.failed (is_crew c.args.crew) texts.Upgrade c.args.self.now c.upgrade.new.self tt c.upgrade.result c.upgrade.ensures.step in
    e.failed

pub returns-clause-refused : goal.returns-clause-refused
returns-clause-refused g c =
    let e = text_as_before g.D.Disk.view g.D.Disk.failed (is_crew c.args.crew) texts.Upgrade c.args.self.now c.upgrade.new.self tt c.upgrade.result c.upgrade.ensures.step in
    e.unchanged
