use Rattle.std.proofs.Common.{◌∙◌, ap, arith}
use Rattle.claim_board.specs.declared.rule.Slot.TheVariants.{Kept}
use Rattle.claim_board.proofs.Sharing.{hands_over, joins}
use Rattle.claim_board.proofs.draw.Board.gather.Goals as goal

pub split_seat-whole-requires : goal.split_seat-whole-requires
split_seat-whole-requires g c =
    let b = c.args.self.now in let about = b.table.shared.key in
    (c.requires.pass.same_table, (let h = b.one_word in omega arith), hands_over about.pieces.value.items (Kept about.list.value) about.passes c.args.pass.seat.id c.args.pass.seat.me.0)

pub join_seat-requires : goal.join_seat-requires
join_seat-requires g c =
    let b = c.args.self.now in let about = b.table.shared.key in let e = c.split_seat-whole.ensures in (
      c.requires.all.0,
      e.3 ∙ c.requires.pass.same_table,
      ap (λ m. m.1) e.4,
      (let h = b.one_word in omega arith),
      joins about.pieces.value.items (Kept about.list.value) about.passes c.args.all.now.id c.args.all.now.me.0 c.split_seat-whole.result.id c.split_seat-whole.result.me.0 c.requires.all.1,
    )
