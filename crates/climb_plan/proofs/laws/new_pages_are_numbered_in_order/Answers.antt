use Rattle.climb_plan.proofs.Planned.{several}
use Rattle.climb_plan.proofs.FreshOrder.{numbered_in_order}
use Rattle.climb_plan.proofs.laws.new_pages_are_numbered_in_order.Goals as goal

pub returns : goal.returns
returns g c = λ s st cs checked proper. numbered_in_order s st.tree cs proper (several s checked)
