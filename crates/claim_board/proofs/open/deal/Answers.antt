use Rattle.std.proofs.Common.{false, refl, ◌≡◌, ◌+◌, ◌-◌, [], ◌∷◌, length, ap, ◌∙◌, arith, length-append}
use Rattle.std.proofs.lemmas.List.Elements.{All-push}
use Rattle.claim_board.specs.Passes.{IsNewPassOf}
use Rattle.claim_board.specs.declared.rule.Slot.TheVariants.{Kept}
use Rattle.claim_board.proofs.Sharing.{cuts_one}
use Rattle.claim_board.proofs.open.deal.Goals as goal

pub split_seat-other-requires : goal.split_seat-other-requires
split_seat-other-requires g c =
    let b = c.args.board.now in let about = b.table.shared.key in
    let e = c.loop.invariant.1 in let p = ap (λ m. m.0.passes) e in let t = c.loop-test.true in (
      c.loop.invariant.0,
      (let h = b.one_word in omega arith),
      cuts_one about.pieces.value.items (Kept about.list.value) about.passes c.loop.seat.id c.loop.seat.me.0 (omega arith) (ap (λ m. m.0.misses) e) (ap (λ m. m.0.drawn) e),
    )

pub push_reserved-requires : goal.push_reserved-requires
push_reserved-requires g c = let at = c.loop.invariant in omega (arith, at.2, at.3, c.loop-test.true, c.loop.dealt.ok)

pub push_reserved-requires-2 : goal.push_reserved-requires-2
push_reserved-requires-2 g c =
    let at = c.loop.invariant in let end = c.loop.auto.counter-end (omega (arith, c.requires.passes)) in
    omega (arith, at.2, at.3, end, c.loop.dealt.ok)

pub returns-clause-as_many : goal.returns-clause-as_many
returns-clause-as_many g c =
    let end = c.loop.auto.counter-end (omega (arith, c.requires.passes)) in
    let pushed = ap length c.push_reserved-2.ensures.items in
    omega (arith, pushed, length-append c.loop.dealt.items (record { seat = c.loop.seat; is_spent = false } ∷ []), c.loop.invariant.2, end, c.loop-test.false)

pub returns-clause-new : goal.returns-clause-new
returns-clause-new g c =
    let at = c.loop.invariant in let board = c.args.board.now in
    let end = c.loop.auto.counter-end (omega (arith, c.requires.passes)) in
    let one : c.args.passes + 1 - c.loop.counter ≡ 1 = omega (arith, end, c.loop-test.false) in
    let last : IsNewPassOf board (record { seat = c.loop.seat; is_spent = false }) = (
      record {
        same_table = at.0;
        same_pieces = ap (λ m. m.0.pieces) at.1;
        one = ap (λ m. m.0.passes) at.1 ∙ one;
        not_spent = λ _. ap (λ m. m.0.misses) at.1;
        spent = λ no. absurd (cc);
      },
      ap (λ m. m.0.drawn) at.1,
      refl,
    ) in
    rw c.push_reserved-2.ensures.items (All-push (IsNewPassOf board) c.loop.dealt.items (record { seat = c.loop.seat; is_spent = false }) at.4 last)
