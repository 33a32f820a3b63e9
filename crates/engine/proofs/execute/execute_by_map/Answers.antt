use Rattle.std.proofs.Common.{◌∙◌}
use Rattle.std.proofs.lemmas.Result.{err_from_is_err_and}
use Rattle.mapping.specs.TreeInMemory.{tree_of}
use Rattle.engine.proofs.PointsLemmas.{points_are_short, points_leave_the_map, points_have_the_plan, points_have_the_fault}
use Rattle.engine.proofs.execute.execute_by_map.Goals as goal

pub change_by_points-requires-clause-short : goal.change_by_points-requires-clause-short
change_by_points-requires-clause-short g c κs within =
    points_are_short c.args.work.now.settings (tree_of c.args.tree.now) c.args.work.now.commands.now c.deref.result.now c.requires.sound.sound.proper
    (c.deref.ensures.value ∙ c.in_ok-replies.ensures.points) c.requires.short

pub returns-in_err-change_by_points-clause-fault : goal.returns-in_err-change_by_points-clause-fault
returns-in_err-change_by_points-clause-fault g c =
    let p = err_from_is_err_and c.from_residual-in_err-change_by_points.result c.from_residual-in_err-change_by_points.ensures.1 in
    rw (p.1, p.2)
    (points_have_the_fault c.args.work.now.settings (tree_of c.args.tree.now) c.args.work.now.commands.now c.deref.result.now c.requires.sound.sound.proper
    (c.deref.ensures.value ∙ c.in_ok-replies.ensures.points) c.in_err-change_by_points.field-0.0 c.in_err-change_by_points.ensures.fault)

pub returns-clause-tree : goal.returns-clause-tree
returns-clause-tree g c =
    c.in_ok-change_by_points.ensures.tree
    ∙ points_have_the_plan c.args.work.now.settings (tree_of c.args.tree.now) c.args.work.now.commands.now c.deref.result.now c.requires.sound.sound.proper
    (c.deref.ensures.value ∙ c.in_ok-replies.ensures.points)

pub returns-clause-contents : goal.returns-clause-contents
returns-clause-contents g c =
    c.in_ok-change_by_points.ensures.contents
    ∙ points_leave_the_map c.args.work.now.settings (tree_of c.args.tree.now) c.args.work.now.commands.now c.deref.result.now c.requires.sound.sound.proper
    (c.deref.ensures.value ∙ c.in_ok-replies.ensures.points)
