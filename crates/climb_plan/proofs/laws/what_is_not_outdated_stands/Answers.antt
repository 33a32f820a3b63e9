use Rattle.climb_plan.proofs.Planned.{several}
use Rattle.climb_plan.proofs.Logs.{logged_after, page_stands}
use Rattle.climb_plan.proofs.laws.what_is_not_outdated_stands.Goals as goal

pub returns : goal.returns
returns g c = record {
  logged = λ s st cs pid. logged_after s st.tree cs pid;
  stands = λ s st cs pid p checked proper h e. page_stands s st.tree cs (several s checked) proper pid p h e;
}
