use Rattle.std.proofs.Common.{◌≡◌, ◌∙◌, sym}
use Rattle.mapping.specs.TreeInMemory.{AreAllHome, tree_of}
use Rattle.page_runs.specs.LeafWork.{leaf_held_of}
use Rattle.climb_plan.specs.Plan.{planned_tree}
use Rattle.engine.specs.Batch.{IsLaterFault}
use Rattle.engine.proofs.OneLeaf.{ready_still, for_still, quiet_home, held_back, still_away}
use Rattle.engine.proofs.execute_one.bring_home.Goals as goal

pub put_leaf_back-requires : goal.put_leaf_back-requires
put_leaf_back-requires g c = still_away c.args.tree.now (leaf_held_of c.undo.result) c.args.done.held (c.undo.ensures ∙ c.take_reply.ensures.held) c.requires.away

pub returns-in_default-clause-back : goal.returns-in_default-clause-back
returns-in_default-clause-back g c = held_back c.args.tree.now _ (leaf_held_of c.undo.result) c.args.done.held (c.undo.ensures ∙ c.take_reply.ensures.held) c.put_leaf_back.ensures

pub put_home-requires : goal.put_home-requires
put_home-requires g c = rw (c.take_reply.ensures.updated, c.requires.same) c.requires.away

pub returns-then-is_quiet-clause-planned : goal.returns-then-is_quiet-clause-planned
returns-then-is_quiet-clause-planned g c =
    quiet_home c.args.work.now.settings c.args.tree.now c.args.done.made.updated c.take_reply.new.done.made.updated c.take_reply.ensures.updated c.requires.fan (sym c.is_quiet.ensures ∙ c.if-is_quiet.true) _ c.put_home.ensures

pub climb_from-requires-clause-ready : goal.climb_from-requires-clause-ready
climb_from-requires-clause-ready g c κs within = ready_still c.args.work.now.settings c.args.tree.now c.args.done.made.updated c.take_reply.new.done.made.updated c.take_reply.ensures.updated c.requires.ready

pub climb_from-requires-clause-away : goal.climb_from-requires-clause-away
climb_from-requires-clause-away g c κs within = still_away c.args.tree.now c.take_reply.new.done.held c.args.done.held c.take_reply.ensures.held c.requires.away

pub returns-in-Ok-climb_from-clause-planned : goal.returns-in-Ok-climb_from-clause-planned
returns-in-Ok-climb_from-clause-planned g c =
    for_still c.args.work.now.settings c.args.tree.now c.args.done.made.updated c.take_reply.new.done.made.updated c.take_reply.ensures.updated
    (λ t cs. AreAllHome c.climb_from.new.tree × (tree_of c.climb_from.new.tree ≡ planned_tree c.args.work.now.settings t cs)) c.in-Ok-climb_from.ensures.planned

pub returns-in-Err-clause-back : goal.returns-in-Err-clause-back
returns-in-Err-clause-back g c = held_back c.args.tree.now _ c.take_reply.new.done.held c.args.done.held c.take_reply.ensures.held c.in-Err.ensures.back

pub returns-in-Err-clause-fault : goal.returns-in-Err-clause-fault
returns-in-Err-clause-fault g c =
    for_still c.args.work.now.settings c.args.tree.now c.args.done.made.updated c.take_reply.new.done.made.updated c.take_reply.ensures.updated
    (λ t cs. IsLaterFault c.args.work.now.settings t cs c.in-Err.fault) c.in-Err.ensures.fault
