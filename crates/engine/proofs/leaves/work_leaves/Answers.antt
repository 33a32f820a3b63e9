use Rattle.std.proofs.Common.{◌∙◌}
use denote.Exit.{no}
use denote.Param.Send.{param_send, arg_send, sendable}
use Rattle.engine.proofs.Crossing.{task_done_send, work_sync}
use Rattle.engine.proofs.TaskLemmas.{written_home, written_distinct, may_be_updated, made_is, as_many, answers_there, changed_there, held_there, again_away, again_before}
use Rattle.engine.proofs.leaves.work_leaves.Goals as goal

pub take_leaves-requires : goal.take_leaves-requires
take_leaves-requires g c = (c.requires.routes.home, c.requires.routes.distinct)

pub run_round-requires-after_bounds : goal.run_round-requires-after_bounds
run_round-requires-after_bounds g c κs within =
    may_be_updated c.args.work.now.settings c.args.work.now.commands.now c.args.tree.now _ c.args.page_runs.items c.requires.routes c.in_ok-tasks.ensures.taken c.in_ok-tasks.tasks.items c.in_ok-tasks.ensures.held

pub run_round-requires-send-W-Done : goal.run_round-requires-send-W-Done
run_round-requires-send-W-Done g c κs within = param_send _ _ (arg_send _ no _ task_done_send)

pub run_round-requires-sync-W : goal.run_round-requires-sync-W
run_round-requires-sync-W g c κs within = search (sendable, work_sync)

pub put_back-requires : goal.put_back-requires
put_back-requires g c =
    again_away c.args.work.now.commands.now c.args.tree.now _ c.args.page_runs.items c.requires.routes c.in_ok-tasks.tasks.items c.in-Err.tasks.items c.in_ok-tasks.ensures.taken c.in_ok-tasks.ensures.held c.in-Err.ensures.held
    (written_distinct c.args.tree.now.table c.args.work.now.commands.now c.args.page_runs.items c.requires.routes)

pub returns-in-Ok-clause-count : goal.returns-in-Ok-clause-count
returns-in-Ok-clause-count g c =
    as_many c.args.work.now.commands.now c.args.tree.now.table c.args.page_runs.items c.in-Ok.dones.items _ c.in-Ok.ensures.origin c.in_ok-tasks.ensures.held

pub returns-in-Ok-clause-answers : goal.returns-in-Ok-clause-answers
returns-in-Ok-clause-answers g c =
    answers_there c.args.work.now.commands.now c.args.tree.now.table c.args.work.now.settings c.args.page_runs.items c.in-Ok.dones.items
    (made_is c.args.work.now.settings c.args.work.now.commands.now c.args.tree.now _ c.args.page_runs.items c.requires.routes c.in_ok-tasks.ensures.taken _ _ c.in_ok-tasks.ensures.held c.in-Ok.ensures.made)

pub returns-in-Ok-clause-made : goal.returns-in-Ok-clause-made
returns-in-Ok-clause-made g c =
    changed_there c.args.work.now.commands.now c.args.tree.now.table c.args.work.now.settings c.args.page_runs.items c.in-Ok.dones.items
    (made_is c.args.work.now.settings c.args.work.now.commands.now c.args.tree.now _ c.args.page_runs.items c.requires.routes c.in_ok-tasks.ensures.taken _ _ c.in_ok-tasks.ensures.held c.in-Ok.ensures.made)

pub returns-in-Ok-clause-held : goal.returns-in-Ok-clause-held
returns-in-Ok-clause-held g c =
    held_there c.args.work.now.commands.now c.args.tree.now.table c.args.page_runs.items c.in-Ok.dones.items (c.in-Ok.ensures.origin ∙ c.in_ok-tasks.ensures.held)

pub returns-in-Err-clause-err : goal.returns-in-Err-clause-err
returns-in-Err-clause-err g c rising =
    again_before c.args.work.now.commands.now c.args.tree.now _ c.args.page_runs.items c.requires.routes c.in_ok-tasks.tasks.items c.in-Err.tasks.items c.in_ok-tasks.ensures.taken c.in_ok-tasks.ensures.held c.in-Err.ensures.held
    _ c.put_back.ensures (written_home c.args.tree.now.table c.args.work.now.commands.now c.args.page_runs.items c.requires.routes) rising
