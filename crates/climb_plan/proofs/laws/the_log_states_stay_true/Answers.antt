use Rattle.climb_plan.proofs.Planned.{several}
use Rattle.climb_plan.proofs.Logs.{logs_stay_true}
use Rattle.climb_plan.proofs.laws.the_log_states_stay_true.Goals as goal

pub returns : goal.returns
returns g c = λ s st cs checked proper logs. logs_stay_true s st.tree cs (several s checked) proper logs
