use Rattle.climb_plan.proofs.Planned.{several, planned_is_proper}
use Rattle.climb_plan.proofs.laws.the_plan_of_a_proper_store_is_proper.Goals as goal

pub returns : goal.returns
returns g c = λ s st cs checked proper short. planned_is_proper s st.tree cs (several s checked) proper short
