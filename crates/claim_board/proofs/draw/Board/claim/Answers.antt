use Rattle.std.proofs.Common.{◌≡◌, ◌<◌, ◌∷◌, length, ◌∙◌, sym, ap, subst, arith}
use Rattle.atomic_table.specs.Table.{rest}
use Rattle.claim_board.specs.declared.rule.Slot.TheVariants.{Piece, Kept}
use Rattle.std.specs.Prelude.{Some, slice_get}
use mathlib.Core.Option.{some}
use lib.ListN.{get_elem?}
use Rattle.claim_board.proofs.Slots.{same_taken, slice_get_at}
use Rattle.claim_board.proofs.Claiming.{claims}
use Rattle.claim_board.proofs.draw.Board.claim.Goals as goal

pub fetch_add-number-requires : goal.fetch_add-number-requires
fetch_add-number-requires g c =
    let b = c.args.self.now in let about = b.table.shared.key in let r = c.requires in (
      r.same_table,
      (let h = b.one_word in omega arith),
      claims about.pieces.value.items (Kept about.list.value) about.passes b.table.shared.table_id.slots c.args.pass.now.seat.id c.args.pass.now.seat.me.0 c.args.pass.now.seat.me.1
          about.few r.same_pieces (let o = r.one in omega arith) (r.not_spent c.if-pass.false),
    )

pub exchange-taken-requires : goal.exchange-taken-requires
exchange-taken-requires g c =
    let b = c.args.self.now in let r = c.requires in
    let count : c.piece_count.result ≡ length b.table.shared.key.pieces.value.items = c.piece_count.ensures in
    let below : c.fetch_add-number.result < length c.args.pass.now.seat.me.0.pieces = (let p = ap length r.same_pieces in let n = c.if-number-piece_count.false in omega arith) in
    let t = c.fetch_add-number.ensures.2.0 below in (
      c.fetch_add-number.ensures.0 ∙ r.same_table,
      (Piece t.piece, t.taken ∙ ap (λ l. (c.fetch_add-number.result, Piece t.piece) ∷ l) (sym (ap rest t.taken))),
    )

pub returns-clause-piece : goal.returns-clause-piece
returns-clause-piece g c =
    let r = c.requires in let n = c.fetch_add-number.result in
    let all = c.args.self.now.table.shared.key.pieces.value.items in
    let count : c.piece_count.result ≡ length all = c.piece_count.ensures in
    let below : n < length c.args.pass.now.seat.me.0.pieces = (let p = ap length r.same_pieces in let t = c.if-number-piece_count.false in omega arith) in
    let t = c.fetch_add-number.ensures.2.0 below in
    let taken = same_taken c.fetch_add-number.new.seat.me.1 n (Piece t.piece) c.exchange-taken.result _ _ t.taken c.exchange-taken.ensures.2 in
    let same : t.piece ≡ c.in-Piece.piece = cc (taken, c.in-Piece.is) in
    subst (λ x. slice_get all n ≡ Some x) same (slice_get_at all n t.piece (subst (λ l. get_elem? l n ≡ some t.piece) r.same_pieces t.piece_is))
