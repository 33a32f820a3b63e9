use Rattle.std.proofs.Common.{length}
use Rattle.std.specs.Int.{to_le_bytes, w64}
use Rattle.keys.proofs.RowLemmas.{four_more}
use Rattle.keys.proofs.row_list.push_row.Goals as goal

pub returns-clause-ok : goal.returns-clause-ok
returns-clause-ok g c =
    four_more c.args.bytes.now.items (to_le_bytes w64 (length c.args.key.now)) (to_le_bytes w64 (length c.args.value.now)) c.args.key.now c.args.value.now
    c.extend_from_slice.new.self.items c.extend_from_slice-2.new.self.items c.extend_from_slice-3.new.self.items c.extend_from_slice-4.new.self.items
    (rw (c.in_ok-reserve.ensures.items, c.to_le_bytes.ensures) at c.in_ok-extend_from_slice.ensures.items) (rw c.to_le_bytes-2.ensures at c.in_ok-extend_from_slice-2.ensures.items) c.in_ok-extend_from_slice-3.ensures.items c.in_ok-extend_from_slice-4.ensures.items
