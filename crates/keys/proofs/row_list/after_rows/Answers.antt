use Rattle.std.proofs.Common.{◌≡◌, arith}
use Rattle.keys.proofs.RowLemmas.{first_is_whole, StartWithRows-next, after_rows-next}
use Rattle.keys.proofs.row_list.after_rows.Goals as goal

pub first_row-requires : goal.first_row-requires
first_row-requires c = first_is_whole c.loop-left.left c.loop-left.rest.now c.loop-left.invariant.whole (λ e. omega (arith, e, c.loop-left-test.true))

pub loop-left-preserved : goal.loop-left-preserved
loop-left-preserved c =
    let some : c.loop-left.left ≡ 0 → ⊥ = λ e. omega (arith, e, c.loop-left-test.true) in
    record {
      same = rw (c.first_row.ensures.after, after_rows-next c.loop-left.left c.loop-left.rest.now some) c.loop-left.invariant.same;
      whole = rw c.first_row.ensures.after (StartWithRows-next c.loop-left.left c.loop-left.rest.now c.loop-left.invariant.whole some);
    }
