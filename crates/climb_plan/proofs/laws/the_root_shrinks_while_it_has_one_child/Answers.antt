use Rattle.climb_plan.proofs.Kept.{kept_and_left, lone-left, top_is_not_lone}
use Rattle.climb_plan.proofs.laws.the_root_shrinks_while_it_has_one_child.Goals as goal

pub returns : goal.returns
returns c = record {
  joined = kept_and_left;
  lone = lone-left;
  top = top_is_not_lone;
}
