use Rattle.split_plan.proofs.MovingLemmas.{next_leaf}
use Rattle.split_plan.proofs.moving.Source.go_on.Goals as goal

pub returns-clause-left : goal.returns-clause-left
returns-clause-left c = next_leaf c.chain_of.result c.args.self.now.leaves.items c.pop_front.new.self.items c.in-Some.leaf c.in-Some.ensures.items c.requires.leaves c.requires.rising c.chain_of.ensures.entries c.chain_of.ensures.order
