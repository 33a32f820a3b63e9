use Rattle.std.proofs.Common.{◌≡◌, ◌∙◌, ℕ, [], ap, map, slice_get}
use Rattle.keys.specs.Lists.{flat}
use Rattle.mapping.specs.Levels.{contents}
use Rattle.mapping.specs.TreeInMemory.{AreAllHome, tree_of}
use Rattle.page_runs.specs.Reads.{route_answers}
use Rattle.replies.specs.ByPlace.{reply_at}
use Rattle.engine.proofs.ReadBatch.{all_readable, answers_read, none_taken, none_made}
use Rattle.engine.proofs.Routed.{IsFaultOf, as_store, sound_planned, all_routes, answered, as_a_map, some_ready, for_this}
use Rattle.engine.proofs.TaskLemmas.{through}
use Rattle.engine.proofs.execute.read_routed.Goals as goal

pub read_replies-replies-requires-clause-routes : goal.read_replies-replies-requires-clause-routes
read_replies-replies-requires-clause-routes g c κs within =
    let there = all_routes c.args.work.now.settings c.args.tree.now c.args.work.now.commands.now c.requires.sound c.args.page_runs.items c.requires.routed in
    all_readable c.args.tree.now c.args.work.now.commands.now c.args.page_runs.items there.home there.places

pub read_replies-replies-requires-clause-answers : goal.read_replies-replies-requires-clause-answers
read_replies-replies-requires-clause-answers g c κs within = answered c.args.work.now.settings c.args.tree.now c.args.work.now.commands.now c.requires.sound c.args.page_runs.items c.requires.routed (flat (map (route_answers c.args.tree.now c.args.work.now.commands.now) c.args.page_runs.items)) (answers_read c.args.work.now.settings c.args.work.now.commands.now c.args.tree.now c.args.page_runs.items (all_routes c.args.work.now.settings c.args.tree.now c.args.work.now.commands.now c.requires.sound c.args.page_runs.items c.requires.routed).home)

pub finish-requires-clause-ready : goal.finish-requires-clause-ready
finish-requires-clause-ready g c κs within = some_ready c.args.work.now.settings c.args.tree.now c.args.work.now.commands.now c.requires.sound c.args.page_runs.items c.requires.routed ([]) c.no_leaves-none.result.items c.no_leaves-none.ensures c.args.tree.now (none_taken c.args.work.now.commands.now c.requires.looks c.args.tree.now c.args.page_runs.items) (none_made c.args.work.now.commands.now c.requires.looks c.args.work.now.settings c.args.tree.now c.args.page_runs.items)

pub returns-in-Ok-clause-replies : goal.returns-in-Ok-clause-replies
returns-in-Ok-clause-replies g c =
    as_a_map c.args.work.now.settings c.args.tree.now c.args.work.now.commands.now c.requires.sound c.args.page_runs.items c.requires.routed (flat (map (route_answers c.args.tree.now c.args.work.now.commands.now) c.args.page_runs.items)) (answers_read c.args.work.now.settings c.args.work.now.commands.now c.args.tree.now c.args.page_runs.items (all_routes c.args.work.now.settings c.args.tree.now c.args.work.now.commands.now c.requires.sound c.args.page_runs.items c.requires.routed).home) c.pairs_can_be_counted.ensures c.in-Ok.replies.items
    (through c.read_replies-replies.result (λ v. v.items) c.in-Ok.replies.items (λ rs. (place : ℕ) → slice_get rs place ≡ reply_at c.args.work.now.commands.now (flat (map (route_answers c.args.tree.now c.args.work.now.commands.now) c.args.page_runs.items)) place) c.in-Ok.ensures.replies c.read_replies-replies.ensures)

pub returns-in-Ok-clause-tree : goal.returns-in-Ok-clause-tree
returns-in-Ok-clause-tree g c =
    (for_this c.args.work.now.settings c.args.tree.now c.args.work.now.commands.now c.requires.sound c.args.page_runs.items c.requires.routed ([]) c.no_leaves-none.result.items c.no_leaves-none.ensures c.args.tree.now (none_taken c.args.work.now.commands.now c.requires.looks c.args.tree.now c.args.page_runs.items) (none_made c.args.work.now.commands.now c.requires.looks c.args.work.now.settings c.args.tree.now c.args.page_runs.items) (λ planned. AreAllHome c.finish.new.tree × (tree_of c.finish.new.tree ≡ planned)) c.in-Ok.ensures.planned).1

pub returns-in-Ok-clause-contents : goal.returns-in-Ok-clause-contents
returns-in-Ok-clause-contents g c =
    ap contents (for_this c.args.work.now.settings c.args.tree.now c.args.work.now.commands.now c.requires.sound c.args.page_runs.items c.requires.routed ([]) c.no_leaves-none.result.items c.no_leaves-none.ensures c.args.tree.now (none_taken c.args.work.now.commands.now c.requires.looks c.args.tree.now c.args.page_runs.items) (none_made c.args.work.now.commands.now c.requires.looks c.args.work.now.settings c.args.tree.now c.args.page_runs.items) (λ planned. AreAllHome c.finish.new.tree × (tree_of c.finish.new.tree ≡ planned)) c.in-Ok.ensures.planned).1
    ∙ c.the_plan_holds_the_map_after_the_commands.ensures c.args.work.now.settings (as_store (tree_of c.args.tree.now)) c.args.work.now.commands.now c.requires.sound.sound.settings c.requires.sound.sound.proper

pub returns-in-Ok-clause-sound : goal.returns-in-Ok-clause-sound
returns-in-Ok-clause-sound g c =
    sound_planned c.args.work.now.settings c.args.tree.now c.finish.new.tree c.args.work.now.commands.now c.requires.sound
    (for_this c.args.work.now.settings c.args.tree.now c.args.work.now.commands.now c.requires.sound c.args.page_runs.items c.requires.routed ([]) c.no_leaves-none.result.items c.no_leaves-none.ensures c.args.tree.now (none_taken c.args.work.now.commands.now c.requires.looks c.args.tree.now c.args.page_runs.items) (none_made c.args.work.now.commands.now c.requires.looks c.args.work.now.settings c.args.tree.now c.args.page_runs.items) (λ planned. AreAllHome c.finish.new.tree × (tree_of c.finish.new.tree ≡ planned)) c.in-Ok.ensures.planned) c.in-Ok.ensures.low
    (c.the_plan_of_a_proper_store_is_proper.ensures c.args.work.now.settings (as_store (tree_of c.args.tree.now)) c.args.work.now.commands.now c.requires.sound.sound.settings c.requires.sound.sound.proper c.requires.short)
    (c.the_log_states_stay_true.ensures c.args.work.now.settings (as_store (tree_of c.args.tree.now)) c.args.work.now.commands.now c.requires.sound.sound.settings c.requires.sound.sound.proper c.requires.sound.sound.logs)

pub returns-in-Err-clause-sound : goal.returns-in-Err-clause-sound
returns-in-Err-clause-sound g c = rw c.in-Err.ensures.err c.requires.sound

pub returns-in-Err-clause-fault : goal.returns-in-Err-clause-fault
returns-in-Err-clause-fault g c =
    for_this c.args.work.now.settings c.args.tree.now c.args.work.now.commands.now c.requires.sound c.args.page_runs.items c.requires.routed ([]) c.no_leaves-none.result.items c.no_leaves-none.ensures c.args.tree.now (none_taken c.args.work.now.commands.now c.requires.looks c.args.tree.now c.args.page_runs.items) (none_made c.args.work.now.commands.now c.requires.looks c.args.work.now.settings c.args.tree.now c.args.page_runs.items) (λ planned. IsFaultOf planned c.in-Err.fault) c.in-Err.ensures.fault
