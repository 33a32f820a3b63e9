use Rattle.climb_plan.proofs.ParentWay.{parent_way, parent_found}
use Rattle.climb_plan.proofs.family.parent_of.Goals as goal

pub descend-requires : goal.descend-requires
descend-requires c = let h = c.requires in parent_way c.args.tree.now c.args.depth h.0 h.1 h.2 c.args.key.now

pub returns : goal.returns
returns c = λ ps ups h. parent_found c.args.tree.now c.args.depth ps ups h c.args.key.now c.descend.result c.descend.ensures
