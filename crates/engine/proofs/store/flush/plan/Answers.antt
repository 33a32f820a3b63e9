use Rattle.std.proofs.Common.{arith}
use Rattle.flush_log.specs.AfterFlush.{slot_of}
use Rattle.flush_log.specs.FlushText.{version_with, commit_frames}
use Rattle.flush_log.proofs.SlotLemmas.{slot-is}
use Rattle.engine.specs.State.{store_in}
use Rattle.engine.proofs.CreateLemmas.{slot-in}
use Rattle.engine.proofs.FlushDone.{text-encoded, as-writing}
use Rattle.engine.proofs.store.flush.plan.Goals as goal

pub plan-requires-clause-numbers : goal.plan-requires-clause-numbers
plan-requires-clause-numbers g c =
    let (version, store) = c.requires.store in
    let st = store_in c.args.tree.now c.args.log version in
    let is = slot-is c.args.settings.now st.sequence (slot_of st) store.slot in
    (is.sequence.1, is.tail)

pub plan-requires-clause-log : goal.plan-requires-clause-log
plan-requires-clause-log g c =
    let (version, store) = c.requires.store in
    let st = store_in c.args.tree.now c.args.log version in
    let following = (slot-is c.args.settings.now st.sequence (slot_of st) store.slot).following in
    Prim.omega (arith, following)

pub plan-requires-clause-text : goal.plan-requires-clause-text
plan-requires-clause-text g c =
    let s = c.args.settings.now in
    let (version, store) = c.requires.store in
    let st = store_in c.args.tree.now c.args.log version in
    let same = slot-in c.args.tree.now c.args.log _ _ c.version_with.result (version_with c.args.text) c.root.ensures c.height.ensures c.version_with.ensures in
    (commit_frames c.args.text st.tree, text-encoded s c.args.text st _ _ same c.requires.some c.in_ok-images.ensures.text (c.in_ok-images.ensures.frames s store.proper))

pub returns-clause-plan : goal.returns-clause-plan
returns-clause-plan g c version =
    let s = c.args.settings.now in
    let store = c.requires.store.1 in
    let st = store_in c.args.tree.now c.args.log version in
    let same = slot-in c.args.tree.now c.args.log _ _ c.version_with.result (version_with c.args.text) c.root.ensures c.height.ensures c.version_with.ensures in
    (as-writing s c.args.text st _ c.plan.result same
    (c.plan.ensures (commit_frames c.args.text st.tree) (text-encoded s c.args.text st _ _ same c.requires.some c.in_ok-images.ensures.text (c.in_ok-images.ensures.frames s store.proper)))).0

pub returns-clause-err : goal.returns-clause-err
returns-clause-err g c =
    let s = c.args.settings.now in
    let (version, store) = c.requires.store in
    let st = store_in c.args.tree.now c.args.log version in
    let same = slot-in c.args.tree.now c.args.log _ _ c.version_with.result (version_with c.args.text) c.root.ensures c.height.ensures c.version_with.ensures in
    (as-writing s c.args.text st _ c.plan.result same
    (c.plan.ensures (commit_frames c.args.text st.tree) (text-encoded s c.args.text st _ _ same c.requires.some c.in_ok-images.ensures.text (c.in_ok-images.ensures.frames s store.proper)))).1
