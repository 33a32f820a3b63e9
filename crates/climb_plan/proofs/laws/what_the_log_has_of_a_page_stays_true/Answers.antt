use Rattle.climb_plan.proofs.Planned.{several}
use Rattle.climb_plan.proofs.Logs.{no_stays, upto_was, logged_page_stands}
use Rattle.climb_plan.proofs.laws.what_the_log_has_of_a_page_stays_true.Goals as goal

pub returns : goal.returns
returns g c = record {
  none = λ s st cs pid. no_stays s st.tree cs pid;
  upto = λ s st cs pid k h. upto_was s st.tree cs pid k h;
  stands = λ s st cs pid k p checked proper h e. logged_page_stands s st.tree cs (several s checked) proper pid k p h e;
}
