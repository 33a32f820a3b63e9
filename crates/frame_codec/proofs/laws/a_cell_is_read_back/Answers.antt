use Rattle.keys.specs.Cells.{value_cell, pid_cell}
use Rattle.keys.proofs.CellLemmas.{counted-back, counted-encoded, pid-back, pid-encoded, one_encoding}
use Rattle.frame_codec.proofs.laws.a_cell_is_read_back.Goals as goal

pub returns : goal.returns
returns c = record {
  value = counted-back;
  pid = pid-back;
  values = counted-encoded;
  pids = pid-encoded;
  one_value = λ v w u o lv lw e. one_encoding value_cell v w (counted-back v lv) (counted-back w lw) u o e;
  one_pid = λ p q u o lp lq e. one_encoding pid_cell p q (pid-back p lp) (pid-back q lq) u o e;
}
