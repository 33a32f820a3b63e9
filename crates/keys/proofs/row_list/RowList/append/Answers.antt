use Rattle.std.proofs.Common.{arith}
use Rattle.keys.proofs.RowLemmas.{AreRows-append, counts_fit, rows-append}
use Rattle.keys.proofs.row_list.RowList.append.Goals as goal

pub overflow_add-self : goal.overflow_add-self
overflow_add-self g c =
    let fit =
    counts_fit c.self.inside.count c.other.inside.count c.self.inside.bytes.items c.other.inside.bytes.items c.extend_from_slice.new.self.items c.self.invariant c.other.invariant
    (rw (c.deref.ensures.value, c.in_ok-make_room.ensures) at c.in_ok-extend_from_slice.ensures.items) (omega (arith, c.len-within.ensures, c.len-within.type_inv)) in
    omega (arith, fit)

pub invariant_of-self-2 : goal.invariant_of-self-2
invariant_of-self-2 g c =
    rw (c.in_ok-extend_from_slice.ensures.items, c.deref.ensures.value, c.in_ok-make_room.ensures)
    (AreRows-append c.self.inside.count c.other.inside.count c.self.inside.bytes.items c.other.inside.bytes.items c.self.invariant c.other.invariant)

pub returns-clause-ok : goal.returns-clause-ok
returns-clause-ok g c =
    rw (c.in_ok-extend_from_slice.ensures.items, c.deref.ensures.value, c.in_ok-make_room.ensures, ← c.self.view_is, ← c.other.view_is)
    (rows-append c.self.inside.count c.other.inside.count c.self.inside.bytes.items c.other.inside.bytes.items c.self.invariant)
