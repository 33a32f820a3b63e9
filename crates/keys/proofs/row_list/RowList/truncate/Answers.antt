use Rattle.std.proofs.Common.{arith, sym}
use Rattle.std.proofs.lemmas.List.{take_all}
use Rattle.keys.specs.RowBytes.{rows_in}
use Rattle.keys.proofs.RowLemmas.{AreRows-take, StartWithRows-fewer, after_rows-upto, length-rows, rows-take}
use Rattle.keys.proofs.row_list.RowList.truncate.Goals as goal

pub after_rows-left_out-requires : goal.after_rows-left_out-requires
after_rows-left_out-requires g c = rw c.deref.ensures.value (StartWithRows-fewer c.args.len c.self.inside.count c.self.inside.bytes.items c.self.invariant (omega (arith, c.if-len-self.true)))

pub overflow_sub-len : goal.overflow_sub-len
overflow_sub-len g c =
    rw (c.after_rows-left_out.ensures, c.len.ensures, ← c.deref.ensures.len, c.deref.ensures.value)
    (after_rows-upto c.args.len c.self.inside.count c.self.inside.bytes.items c.self.invariant (omega (arith, c.if-len-self.true)))

pub invariant_of-self : goal.invariant_of-self
invariant_of-self g c =
    rw (c.shrink_to_fit.ensures.items, c.truncate.ensures.items, c.after_rows-left_out.ensures, c.len.ensures, ← c.deref.ensures.len, c.deref.ensures.value)
    (AreRows-take c.args.len c.self.inside.count c.self.inside.bytes.items c.self.invariant (omega (arith, c.if-len-self.true)))

pub returns-then-len-self : goal.returns-then-len-self
returns-then-len-self g c =
    rw (c.shrink_to_fit.ensures.items, c.truncate.ensures.items, c.after_rows-left_out.ensures, c.len.ensures, ← c.deref.ensures.len, c.deref.ensures.value, ← c.self.view_is)
    (rows-take c.args.len c.self.inside.count c.self.inside.bytes.items c.self.invariant (omega (arith, c.if-len-self.true)))

pub returns-else-len-self : goal.returns-else-len-self
returns-else-len-self g c =
    rw (← c.self.view_is)
    (sym (take_all c.args.len (rows_in c.self.inside.count c.self.inside.bytes.items) (omega (arith, c.if-len-self.false, length-rows c.self.inside.count c.self.inside.bytes.items))))
