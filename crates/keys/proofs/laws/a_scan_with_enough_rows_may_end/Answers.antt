use Rattle.keys.proofs.NarrowedLemmas.{same_rows, replies-with_ends, map_all-with_ends}
use Rattle.keys.proofs.laws.a_scan_with_enough_rows_may_end.Goals as goal

pub returns : goal.returns
returns g c = record {
  rows = λ keys m lo hi limit end r h. same_rows lo hi end h.before limit m r h.rows;
  replies = replies-with_ends;
  map = map_all-with_ends;
}
