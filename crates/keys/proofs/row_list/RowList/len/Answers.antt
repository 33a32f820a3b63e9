use Rattle.std.proofs.Common.{sym}
use Rattle.keys.proofs.RowLemmas.{length-rows}
use Rattle.keys.proofs.row_list.RowList.len.Goals as goal

pub returns : goal.returns
returns g c = rw (← c.self.view_is) (sym (length-rows c.self.inside.count c.self.inside.bytes.items))
