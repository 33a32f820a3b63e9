use Rattle.std.proofs.Common.{◌≡◌, ◌∙◌, ℕ, ap, slice_get}
use Rattle.mapping.specs.Levels.{contents}
use Rattle.mapping.specs.TreeInMemory.{AreAllHome, tree_of}
use Rattle.replies.specs.ByPlace.{reply_at}
use Rattle.engine.specs.Tasks.{changed_of, pieces_of}
use Rattle.engine.proofs.Routed.{IsFaultOf, as_store, sound_planned, on_any_error, sound_rising, all_routes, answered, as_a_map, some_ready, for_this, again_away, again_back}
use Rattle.engine.proofs.TaskLemmas.{through}
use Rattle.engine.proofs.execute.execute_routed.Goals as goal

pub work_leaves-requires-clause-routes : goal.work_leaves-requires-clause-routes
work_leaves-requires-clause-routes g c κs within = all_routes c.args.work.now.settings c.args.tree.now c.args.work.now.commands.now c.requires.sound c.args.page_runs.items c.requires.routed

pub returns-in_err-dones-clause-sound : goal.returns-in_err-dones-clause-sound
returns-in_err-dones-clause-sound g c = rw (c.in_err-dones.ensures.err (sound_rising c.args.work.now.settings c.args.tree.now c.requires.sound)) c.requires.sound

pub returns-in_err-dones-clause-err : goal.returns-in_err-dones-clause-err
returns-in_err-dones-clause-err g c = on_any_error c.from_residual-in_err-dones.result (c.in_err-dones.ensures.err (sound_rising c.args.work.now.settings c.args.tree.now c.requires.sound))

pub take_replies-replies-requires-clause-answered : goal.take_replies-replies-requires-clause-answered
take_replies-replies-requires-clause-answered g c = answered c.args.work.now.settings c.args.tree.now c.args.work.now.commands.now c.requires.sound c.args.page_runs.items c.requires.routed (pieces_of c.in_ok-dones.dones.items) c.in_ok-dones.ensures.answers

pub finish-requires-clause-ready : goal.finish-requires-clause-ready
finish-requires-clause-ready g c κs within = some_ready c.args.work.now.settings c.args.tree.now c.args.work.now.commands.now c.requires.sound c.args.page_runs.items c.requires.routed (changed_of c.in_ok-dones.dones.items) c.take_replies-replies.new.leaves.items c.take_replies-replies.ensures.leaves c.work_leaves.new.tree c.in_ok-dones.ensures.taken c.in_ok-dones.ensures.made

pub undo_leaves-requires : goal.undo_leaves-requires
undo_leaves-requires g c = again_away c.args.work.now.settings c.args.tree.now c.args.work.now.commands.now c.requires.sound c.args.page_runs.items c.requires.routed (changed_of c.in_ok-dones.dones.items) c.take_replies-replies.new.leaves.items c.take_replies-replies.ensures.leaves c.work_leaves.new.tree c.in_ok-dones.ensures.taken c.in_ok-dones.ensures.held c.in-Err.leaves.items c.in-Err.ensures.back c.finish.new.tree c.in-Err.ensures.err

pub returns-in-Ok-clause-replies : goal.returns-in-Ok-clause-replies
returns-in-Ok-clause-replies g c =
    as_a_map c.args.work.now.settings c.args.tree.now c.args.work.now.commands.now c.requires.sound c.args.page_runs.items c.requires.routed (pieces_of c.in_ok-dones.dones.items) c.in_ok-dones.ensures.answers c.pairs_can_be_counted.ensures c.in-Ok.replies.items
    (through c.take_replies-replies.result (λ v. v.items) c.in-Ok.replies.items (λ rs. (place : ℕ) → slice_get rs place ≡ reply_at c.args.work.now.commands.now (pieces_of c.in_ok-dones.dones.items) place) c.in-Ok.ensures.replies c.take_replies-replies.ensures.replies)

pub returns-in-Ok-clause-tree : goal.returns-in-Ok-clause-tree
returns-in-Ok-clause-tree g c =
    (for_this c.args.work.now.settings c.args.tree.now c.args.work.now.commands.now c.requires.sound c.args.page_runs.items c.requires.routed (changed_of c.in_ok-dones.dones.items) c.take_replies-replies.new.leaves.items c.take_replies-replies.ensures.leaves c.work_leaves.new.tree c.in_ok-dones.ensures.taken c.in_ok-dones.ensures.made (λ planned. AreAllHome c.finish.new.tree × (tree_of c.finish.new.tree ≡ planned)) c.in-Ok.ensures.planned).1

pub returns-in-Ok-clause-contents : goal.returns-in-Ok-clause-contents
returns-in-Ok-clause-contents g c =
    ap contents (for_this c.args.work.now.settings c.args.tree.now c.args.work.now.commands.now c.requires.sound c.args.page_runs.items c.requires.routed (changed_of c.in_ok-dones.dones.items) c.take_replies-replies.new.leaves.items c.take_replies-replies.ensures.leaves c.work_leaves.new.tree c.in_ok-dones.ensures.taken c.in_ok-dones.ensures.made (λ planned. AreAllHome c.finish.new.tree × (tree_of c.finish.new.tree ≡ planned)) c.in-Ok.ensures.planned).1
    ∙ c.the_plan_holds_the_map_after_the_commands.ensures c.args.work.now.settings (as_store (tree_of c.args.tree.now)) c.args.work.now.commands.now c.requires.sound.sound.settings c.requires.sound.sound.proper

pub returns-in-Ok-clause-sound : goal.returns-in-Ok-clause-sound
returns-in-Ok-clause-sound g c =
    sound_planned c.args.work.now.settings c.args.tree.now c.finish.new.tree c.args.work.now.commands.now c.requires.sound
    (for_this c.args.work.now.settings c.args.tree.now c.args.work.now.commands.now c.requires.sound c.args.page_runs.items c.requires.routed (changed_of c.in_ok-dones.dones.items) c.take_replies-replies.new.leaves.items c.take_replies-replies.ensures.leaves c.work_leaves.new.tree c.in_ok-dones.ensures.taken c.in_ok-dones.ensures.made (λ planned. AreAllHome c.finish.new.tree × (tree_of c.finish.new.tree ≡ planned)) c.in-Ok.ensures.planned) c.in-Ok.ensures.low
    (c.the_plan_of_a_proper_store_is_proper.ensures c.args.work.now.settings (as_store (tree_of c.args.tree.now)) c.args.work.now.commands.now c.requires.sound.sound.settings c.requires.sound.sound.proper c.requires.short)
    (c.the_log_states_stay_true.ensures c.args.work.now.settings (as_store (tree_of c.args.tree.now)) c.args.work.now.commands.now c.requires.sound.sound.settings c.requires.sound.sound.proper c.requires.sound.sound.logs)

pub returns-in-Err-clause-sound : goal.returns-in-Err-clause-sound
returns-in-Err-clause-sound g c = rw (again_back c.args.work.now.settings c.args.tree.now c.args.work.now.commands.now c.requires.sound c.args.page_runs.items c.requires.routed (changed_of c.in_ok-dones.dones.items) c.take_replies-replies.new.leaves.items c.take_replies-replies.ensures.leaves c.work_leaves.new.tree c.in_ok-dones.ensures.taken c.in_ok-dones.ensures.held c.in-Err.leaves.items c.in-Err.ensures.back c.finish.new.tree c.in-Err.ensures.err c.undo_leaves.new.tree c.undo_leaves.ensures) c.requires.sound

pub returns-in-Err-clause-err : goal.returns-in-Err-clause-err
returns-in-Err-clause-err g c = again_back c.args.work.now.settings c.args.tree.now c.args.work.now.commands.now c.requires.sound c.args.page_runs.items c.requires.routed (changed_of c.in_ok-dones.dones.items) c.take_replies-replies.new.leaves.items c.take_replies-replies.ensures.leaves c.work_leaves.new.tree c.in_ok-dones.ensures.taken c.in_ok-dones.ensures.held c.in-Err.leaves.items c.in-Err.ensures.back c.finish.new.tree c.in-Err.ensures.err c.undo_leaves.new.tree c.undo_leaves.ensures

pub returns-in-Err-clause-fault : goal.returns-in-Err-clause-fault
returns-in-Err-clause-fault g c =
    for_this c.args.work.now.settings c.args.tree.now c.args.work.now.commands.now c.requires.sound c.args.page_runs.items c.requires.routed (changed_of c.in_ok-dones.dones.items) c.take_replies-replies.new.leaves.items c.take_replies-replies.ensures.leaves c.work_leaves.new.tree c.in_ok-dones.ensures.taken c.in_ok-dones.ensures.made (λ planned. IsFaultOf planned c.in-Err.fault) c.in-Err.ensures.fault
