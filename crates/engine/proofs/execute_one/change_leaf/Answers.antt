use Rattle.std.proofs.Common.{◌≡◌}
use Rattle.keys.specs.Step.{replies_to}
use Rattle.mapping.specs.Levels.{contents}
use Rattle.mapping.specs.TreeInMemory.{tree_of}
use Rattle.page_runs.specs.LeafWork.{leaf_held_of}
use Rattle.engine.specs.Batch.{IsLaterFault}
use Rattle.engine.proofs.EndedRoutes.{weaker_ok}
use Rattle.engine.proofs.OneLeaf.{at_home, may_work, answered, as_a_map, pieces_are, ready, away, same_pid, back, on_ok, on_err, if_err}
use Rattle.engine.proofs.execute_one.change_leaf.Goals as goal

pub take-page-requires : goal.take-page-requires
take-page-requires g c = rw c.pid.ensures (at_home c.args.work.now.settings c.args.tree.now c.args.work.now.commands.now c.requires.sound c.args.page_run c.requires.only)

pub work-requires : goal.work-requires
work-requires g c = may_work c.args.work.now.settings c.args.tree.now c.args.work.now.commands.now c.requires.sound c.args.page_run c.requires.only c.take-page.result (rw c.pid.ensures at c.take-page.ensures.page)

pub bring_home-requires-clause-answered : goal.bring_home-requires-clause-answered
bring_home-requires-clause-answered g c κs within =
    answered c.args.work.now.settings c.args.tree.now c.args.work.now.commands.now c.requires.sound c.args.page_run c.requires.only _
    (pieces_are c.args.work.now.settings c.args.tree.now c.args.work.now.commands.now c.requires.sound c.args.page_run c.requires.only c.take-page.result (rw c.pid.ensures at c.take-page.ensures.page) c.take-page.new.self (rw c.pid.ensures at c.take-page.ensures.tree) c.in-Done.done c.in-Done.ensures.origin c.in-Done.ensures.made)

pub bring_home-requires-clause-ready : goal.bring_home-requires-clause-ready
bring_home-requires-clause-ready g c κs within = (
  tree_of c.args.tree.now,
  c.args.work.now.commands.now,
  ready c.args.work.now.settings c.args.tree.now c.args.work.now.commands.now c.requires.sound c.args.page_run c.requires.only c.take-page.result (rw c.pid.ensures at c.take-page.ensures.page) c.take-page.new.self (rw c.pid.ensures at c.take-page.ensures.tree) c.in-Done.done c.in-Done.ensures.origin c.in-Done.ensures.made,
)

pub bring_home-requires-clause-away : goal.bring_home-requires-clause-away
bring_home-requires-clause-away g c κs within =
    away c.args.work.now.settings c.args.tree.now c.args.work.now.commands.now c.requires.sound c.args.page_run c.requires.only c.take-page.result (rw c.pid.ensures at c.take-page.ensures.page) c.take-page.new.self (rw c.pid.ensures at c.take-page.ensures.tree) c.in-Done.done.held c.in-Done.ensures.origin

pub bring_home-requires-clause-same : goal.bring_home-requires-clause-same
bring_home-requires-clause-same g c κs within =
    same_pid c.args.work.now.settings c.args.tree.now c.args.work.now.commands.now c.requires.sound c.args.page_run c.requires.only c.take-page.result (rw c.pid.ensures at c.take-page.ensures.page) c.take-page.new.self (rw c.pid.ensures at c.take-page.ensures.tree) c.in-Done.done c.in-Done.ensures.origin c.in-Done.ensures.made

pub returns-in-Done-clause-replies : goal.returns-in-Done-clause-replies
returns-in-Done-clause-replies g c =
    weaker_ok _ (λ replies. replies.items ≡ replies_to (contents (tree_of c.args.tree.now)) c.args.work.now.commands.now) c.bring_home.result
    (λ replies at. as_a_map c.args.work.now.settings c.args.tree.now c.args.work.now.commands.now c.requires.sound c.args.page_run c.requires.only _
    (pieces_are c.args.work.now.settings c.args.tree.now c.args.work.now.commands.now c.requires.sound c.args.page_run c.requires.only c.take-page.result (rw c.pid.ensures at c.take-page.ensures.page) c.take-page.new.self (rw c.pid.ensures at c.take-page.ensures.tree) c.in-Done.done c.in-Done.ensures.origin c.in-Done.ensures.made) c.requires.few replies.items at)
    c.bring_home.ensures.replies

pub returns-in-Done-clause-planned : goal.returns-in-Done-clause-planned
returns-in-Done-clause-planned g c =
    on_ok c.bring_home.result
    (λ planned. planned (tree_of c.args.tree.now) c.args.work.now.commands.now (ready c.args.work.now.settings c.args.tree.now c.args.work.now.commands.now c.requires.sound c.args.page_run c.requires.only c.take-page.result (rw c.pid.ensures at c.take-page.ensures.page) c.take-page.new.self (rw c.pid.ensures at c.take-page.ensures.tree) c.in-Done.done c.in-Done.ensures.origin c.in-Done.ensures.made))
    c.bring_home.ensures.planned

pub returns-in-Done-clause-err : goal.returns-in-Done-clause-err
returns-in-Done-clause-err g c =
    on_err c.bring_home.result
    (λ put. back c.args.work.now.settings c.args.tree.now c.args.work.now.commands.now c.requires.sound c.args.page_run c.requires.only c.take-page.result (rw c.pid.ensures at c.take-page.ensures.page) c.take-page.new.self (rw c.pid.ensures at c.take-page.ensures.tree) c.in-Done.done.held c.in-Done.ensures.origin _ put)
    c.bring_home.ensures.back

pub returns-in-Done-clause-fault : goal.returns-in-Done-clause-fault
returns-in-Done-clause-fault g c =
    if_err _ (λ fault. IsLaterFault c.args.work.now.settings (tree_of c.args.tree.now) c.args.work.now.commands.now fault) c.bring_home.result
    (λ fault h. h (tree_of c.args.tree.now) c.args.work.now.commands.now (ready c.args.work.now.settings c.args.tree.now c.args.work.now.commands.now c.requires.sound c.args.page_run c.requires.only c.take-page.result (rw c.pid.ensures at c.take-page.ensures.page) c.take-page.new.self (rw c.pid.ensures at c.take-page.ensures.tree) c.in-Done.done c.in-Done.ensures.origin c.in-Done.ensures.made))
    c.bring_home.ensures.fault

pub put_leaf_back-requires : goal.put_leaf_back-requires
put_leaf_back-requires g c =
    away c.args.work.now.settings c.args.tree.now c.args.work.now.commands.now c.requires.sound c.args.page_run c.requires.only c.take-page.result (rw c.pid.ensures at c.take-page.ensures.page) c.take-page.new.self (rw c.pid.ensures at c.take-page.ensures.tree) (leaf_held_of c.in-Back.job) c.in-Back.ensures.back

pub returns-in-Back-clause-err : goal.returns-in-Back-clause-err
returns-in-Back-clause-err g c =
    back c.args.work.now.settings c.args.tree.now c.args.work.now.commands.now c.requires.sound c.args.page_run c.requires.only c.take-page.result (rw c.pid.ensures at c.take-page.ensures.page) c.take-page.new.self (rw c.pid.ensures at c.take-page.ensures.tree) (leaf_held_of c.in-Back.job) c.in-Back.ensures.back _ c.put_leaf_back.ensures
