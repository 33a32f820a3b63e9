use Rattle.std.proofs.Common.{◌≡◌, ◌∙◌}
use Rattle.keys.specs.Step.{replies_to}
use Rattle.mapping.specs.Levels.{contents}
use Rattle.mapping.specs.TreeInMemory.{tree_of}
use Rattle.engine.proofs.EndedRoutes.{weaker_ok}
use Rattle.engine.proofs.OneLeaf.{may_read, read_is, answered, as_a_map}
use Rattle.engine.proofs.execute_one.read_leaf.Goals as goal

pub work-requires : goal.work-requires
work-requires c = may_read c.args.work.now.settings c.args.tree.now c.args.work.now.commands.now c.requires.sound c.args.page_run c.requires.only

pub replies_of-requires : goal.replies_of-requires
replies_of-requires c =
    answered c.args.work.now.settings c.args.tree.now c.args.work.now.commands.now c.requires.sound c.args.page_run c.requires.only _
    (c.into_pieces.ensures ∙ c.in-Done.ensures.made ∙ read_is c.args.work.now.settings c.args.tree.now c.args.work.now.commands.now c.requires.sound c.args.page_run c.requires.only)

pub returns-in-Done : goal.returns-in-Done
returns-in-Done c =
    weaker_ok _ (λ replies. replies.items ≡ replies_to (contents (tree_of c.args.tree.now)) c.args.work.now.commands.now) c.replies_of.result
    (λ replies at. as_a_map c.args.work.now.settings c.args.tree.now c.args.work.now.commands.now c.requires.sound c.args.page_run c.requires.only _
    (c.into_pieces.ensures ∙ c.in-Done.ensures.made ∙ read_is c.args.work.now.settings c.args.tree.now c.args.work.now.commands.now c.requires.sound c.args.page_run c.requires.only) c.requires.few replies.items at) c.replies_of.ensures
