use Rattle.climb_plan.proofs.Planned.{several, contents_of_planned}
use Rattle.climb_plan.proofs.laws.the_plan_holds_the_map_after_the_commands.Goals as goal

pub returns : goal.returns
returns g c = λ s st cs checked proper. contents_of_planned s st.tree cs (several s checked) proper
