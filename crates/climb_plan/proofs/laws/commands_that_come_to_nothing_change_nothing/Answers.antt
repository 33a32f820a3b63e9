use Rattle.std.specs.Prelude.{◌≡◌}
use Rattle.std.proofs.Common.{ap}
use Rattle.mapping.specs.Tree.{Tree, Store, with_tree}
use Rattle.mapping.specs.Levels.{contents}
use Rattle.climb_plan.proofs.Untouched.{tree_stays, nothing_outdated, gets, net_run-gets}
use Rattle.climb_plan.proofs.laws.commands_that_come_to_nothing_change_nothing.Goals as goal

-- the store round a tree
store_same : (st : Store) (t : Tree) → t ≡ st.tree → with_tree st t ≡ st
store_same st t e = ap (λ (x : Tree). with_tree st x) e

pub returns : goal.returns
returns g c = record {
  store = λ s st cs proper nothing. store_same st _ (tree_stays s st.tree cs proper nothing);
  outdated = λ s st cs proper nothing. nothing_outdated s st.tree cs proper nothing;
  gets = λ s st keys proper. store_same st _ (tree_stays s st.tree (gets _ keys) proper (net_run-gets _ (contents st.tree) keys));
}
