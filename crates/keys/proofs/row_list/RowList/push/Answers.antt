use Rattle.std.proofs.Common.{arith}
use Rattle.keys.proofs.RowLemmas.{AreRows-push, count_within, rows-push}
use Rattle.keys.proofs.row_list.RowList.push.Goals as goal

pub overflow_add-self : goal.overflow_add-self
overflow_add-self g c = omega (arith, count_within c.self.inside.count c.self.inside.bytes.items c.self.invariant, c.len-len.ensures, c.len-len.type_inv)

pub invariant_of-self : goal.invariant_of-self
invariant_of-self g c =
    rw c.in-Ok.ensures.ok (AreRows-push c.self.inside.count c.self.inside.bytes.items c.args.key.now c.args.value.now c.self.invariant c.in-Ok.ensures.key c.in-Ok.ensures.value)

pub returns-in-Ok-clause-ok : goal.returns-in-Ok-clause-ok
returns-in-Ok-clause-ok g c =
    rw (c.in-Ok.is, c.in-Ok.ensures.ok, ← c.self.view_is)
    (rows-push c.self.inside.count c.self.inside.bytes.items c.args.key.now c.args.value.now c.self.invariant c.in-Ok.ensures.key c.in-Ok.ensures.value)
