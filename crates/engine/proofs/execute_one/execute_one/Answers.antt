use Rattle.std.proofs.Common.{◌∙◌, ap, sym}
use Rattle.mapping.specs.Levels.{contents}
use Rattle.mapping.specs.Tree.{Store}
use Rattle.mapping.specs.TreeInMemory.{tree_of}
use Rattle.engine.proofs.Routed.{as_store}
use Rattle.engine.proofs.OneLeaf.{only_by, nothing_by, sound_after, on_ok}
use Rattle.engine.proofs.execute_one.execute_one.Goals as goal

pub read_leaf-requires-clause-only : goal.read_leaf-requires-clause-only
read_leaf-requires-clause-only g c = only_by c.args.work.now.commands.now c.args.command.now c.of_one-page_run.result c.leaf_of.result c.requires.one c.of_one-page_run.ensures (tree_of c.args.tree.now) c.leaf_of.ensures

pub change_leaf-requires-clause-only : goal.change_leaf-requires-clause-only
change_leaf-requires-clause-only g c κs within = only_by c.args.work.now.commands.now c.args.command.now c.of_one-page_run.result c.leaf_of.result c.requires.one c.of_one-page_run.ensures (tree_of c.args.tree.now) c.leaf_of.ensures

pub returns-then-is_only_read-clause-tree : goal.returns-then-is_only_read-clause-tree
returns-then-is_only_read-clause-tree g c =
    sym (ap (λ (st : Store). st.tree) (c.commands_that_come_to_nothing_change_nothing.ensures.store c.args.work.now.settings (as_store (tree_of c.args.tree.now)) c.args.work.now.commands.now c.requires.sound.sound.proper
    (nothing_by c.args.work.now.commands.now c.args.command.now c.of_one-page_run.result c.leaf_of.result c.requires.one c.of_one-page_run.ensures (sym c.is_only_read.ensures ∙ c.if-is_only_read.true) (contents (tree_of c.args.tree.now)))))

pub returns-then-is_only_read-clause-contents : goal.returns-then-is_only_read-clause-contents
returns-then-is_only_read-clause-contents g c =
    sym (ap (λ (st : Store). contents st.tree) (c.commands_that_come_to_nothing_change_nothing.ensures.store c.args.work.now.settings (as_store (tree_of c.args.tree.now)) c.args.work.now.commands.now c.requires.sound.sound.proper
    (nothing_by c.args.work.now.commands.now c.args.command.now c.of_one-page_run.result c.leaf_of.result c.requires.one c.of_one-page_run.ensures (sym c.is_only_read.ensures ∙ c.if-is_only_read.true) (contents (tree_of c.args.tree.now)))))
    ∙ c.the_plan_holds_the_map_after_the_commands.ensures c.args.work.now.settings (as_store (tree_of c.args.tree.now)) c.args.work.now.commands.now c.requires.sound.sound.settings c.requires.sound.sound.proper

pub returns-clause-tree : goal.returns-clause-tree
returns-clause-tree g c = on_ok c.change_leaf.result (λ planned. planned.1) c.change_leaf.ensures.planned

pub returns-clause-contents : goal.returns-clause-contents
returns-clause-contents g c =
    on_ok c.change_leaf.result
    (λ planned. ap contents planned.1 ∙ c.the_plan_holds_the_map_after_the_commands.ensures c.args.work.now.settings (as_store (tree_of c.args.tree.now)) c.args.work.now.commands.now c.requires.sound.sound.settings c.requires.sound.sound.proper)
    c.change_leaf.ensures.planned

pub returns-clause-sound : goal.returns-clause-sound
returns-clause-sound g c =
    sound_after c.change_leaf.result c.args.work.now.settings c.args.tree.now c.change_leaf.new.tree c.args.work.now.commands.now c.requires.sound
    (c.the_plan_of_a_proper_store_is_proper.ensures c.args.work.now.settings (as_store (tree_of c.args.tree.now)) c.args.work.now.commands.now c.requires.sound.sound.settings c.requires.sound.sound.proper c.requires.short)
    (c.the_log_states_stay_true.ensures c.args.work.now.settings (as_store (tree_of c.args.tree.now)) c.args.work.now.commands.now c.requires.sound.sound.settings c.requires.sound.sound.proper c.requires.sound.sound.logs)
    c.change_leaf.ensures.planned c.change_leaf.ensures.low c.change_leaf.ensures.err
