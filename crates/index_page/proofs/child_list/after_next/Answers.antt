use Rattle.std.proofs.Common.{sym, arith}
use Rattle.std.specs.Option.{option_copied}
use Rattle.index_page.proofs.WithinLemmas.{passes_here, left_at-end, left_at-past}
use Rattle.index_page.proofs.child_list.after_next.Goals as goal
use Rattle.index_page.proofs.child_list.after_next.Goals.{then-at-len-via-then-at-len, then-at-len-via-else-at-len+then-not-is_before}

pub returns-then-at-len : goal.returns-then-at-len
returns-then-at-len g c = elim c.then-at-len.branch [
  | then-at-len-via-then-at-len w ↦ left_at-past (option_copied c.args.end) c.args.at c.args.list.now (omega (arith, w.if-at-len.true, c.len.ensures.count))
  | then-at-len-via-else-at-len+then-not-is_before w ↦ left_at-end (option_copied c.args.end) c.args.at c.args.list.now _ c.len.ensures.rising w.key.ensures (sym w.if-not-is_before.ensures)
]

pub returns : goal.returns
returns g c = passes_here (option_copied c.args.end) c.args.at c.args.list.now _ (omega (arith, c.if-at-len.false, c.len.ensures.count)) c.key.ensures (sym c.if-not-is_before.ensures)
