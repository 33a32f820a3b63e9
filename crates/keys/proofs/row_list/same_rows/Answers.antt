use Rattle.std.proofs.Common.{◌∙◌}
use Rattle.keys.proofs.RowLemmas.{bytes_decide, counts_decide}
use Rattle.keys.proofs.row_list.same_rows.Goals as goal

pub returns-then-count-other_count : goal.returns-then-count-other_count
returns-then-count-other_count c =
    c.eq.ensures ∙ bytes_decide c.args.count c.args.other_count c.args.bytes.now c.args.other_bytes.now (λ i. (c.type_inv.bytes i).fits) (λ i. (c.type_inv.other_bytes i).fits)
    c.requires.rows c.requires.others c.if-count-other_count.true

pub returns-else-count-other_count : goal.returns-else-count-other_count
returns-else-count-other_count c = counts_decide c.args.count c.args.other_count c.args.bytes.now c.args.other_bytes.now c.if-count-other_count.false
