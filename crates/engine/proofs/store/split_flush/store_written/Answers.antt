use Rattle.std.proofs.Common.{length, Some, ap, sym, subst, ◌∙◌}
use Rattle.mapping.specs.Levels.{contents}
use Rattle.mapping.specs.Tree.{Store, Tree}
use Rattle.mapping.specs.TreeInMemory.{TreeInMemory, tree_of}
use Rattle.flush_log.specs.AfterFlush.{store_after}
use Rattle.engine.specs.SplitFlush.{StateInMemory, state_on, with_written}
use Rattle.engine.specs.State.{IsSound, State}
use Rattle.engine.proofs.CreateLemmas.{opened-is}
use Rattle.engine.proofs.store.split_flush.store_written.Goals as goal

pub invariant_of-result : goal.invariant_of-result
invariant_of-result g c =
    let s = c.memory.inside.settings in
    let old = c.memory.inside.tree in
    let is = c.memory.invariant in
    let tree_is = ap (λ (t : TreeInMemory). tree_of t) c.flushed.ensures ∙ c.a_table_marked_as_written_holds_the_flushed_tree.ensures s old is.is.good is.is.proper in
    let store_is = opened-is c.flushed.new.self c.args.slot c.slot.inside.ends _ _ c.slot.inside.version c.slot.view_is ∙ ap (λ (t : Tree). store_after t c.args.slot) tree_is in
    let sound = subst (λ (m : StateInMemory). IsSound g.D.Disk.view (state_on (with_written (Some c.args.slot) m) c.args.disk c.args.has_failed)) (sym c.memory.view_is) c.requires in
    record {
      home = rw c.flushed.ensures is.home;
      sound = subst (λ (st : Store). IsSound g.D.Disk.view (record { settings = s; store = st; disk = c.args.disk; has_failed = c.args.has_failed })) (sym store_is) sound;
      counted = is.counted ∙ sym (ap (λ (t : TreeInMemory). length (contents (tree_of t))) c.flushed.ensures);
    }

pub returns : goal.returns
returns g c = rw (← c.memory.view_is) (
    let s = c.memory.inside.settings in
    let old = c.memory.inside.tree in
    let is = c.memory.invariant in
    let tree_is = ap (λ (t : TreeInMemory). tree_of t) c.flushed.ensures ∙ c.a_table_marked_as_written_holds_the_flushed_tree.ensures s old is.is.good is.is.proper in
    let store_is = opened-is c.flushed.new.self c.args.slot c.slot.inside.ends _ _ c.slot.inside.version c.slot.view_is ∙ ap (λ (t : Tree). store_after t c.args.slot) tree_is in
    ap (λ (st : Store). (let x : State g.row.D.Denot = record { settings = s; store = st; disk = c.args.disk; has_failed = c.args.has_failed } in x)) store_is)
