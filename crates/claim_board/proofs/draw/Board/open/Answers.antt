use Rattle.std.proofs.Common.{[], ◌∷◌, length, sym, ap, subst, ◌∙◌, arith, length-append}
use Rattle.std.proofs.lemmas.List.{length-map}
use Rattle.atomic_table.specs.Table.{opening}
use Rattle.claim_board.specs.declared.rule.Slot.TheVariants.{Piece, Kept}
use Rattle.claim_board.specs.Rule.{Keeps, hand}
use Rattle.claim_board.proofs.Opening.{opens}
use Rattle.claim_board.proofs.Slots.{laid}
use Rattle.claim_board.proofs.draw.Board.open.Goals as goal

pub new-requires : goal.new-requires
new-requires g c =
    let all = c.of-given.result.value.items in let last = Kept c.of.result.value in let count = c.args.passes in
    let slots = laid all c.args.pieces.items last (Kept c.lay.new.pieces) c.lay.new.slots.items c.push_reserved.new.self.items
    (ap (λ v. v.items) c.of-given.ensures) c.lay.ensures.slots c.push_reserved.ensures.items (ap Kept c.of.ensures) in
    subst (λ xs. Keeps all last count (opening (0 ∷ []) xs (hand all count [] 0))) (sym slots) (opens all last count)

pub lay-requires : goal.lay-requires
lay-requires g c =
    let room = c.in-Ok-with_capacity.ensures in
    (room.items, omega (arith, room.len, room.capacity, c.len.ensures))

pub invariant_of-board : goal.invariant_of-board
invariant_of-board g c =
    let made = c.in-Ok-new.ensures.ok in
    let laid_there = ap length c.lay.ensures.slots in let count = length-map c.args.pieces.items Piece in
    let pushed = ap length c.push_reserved.ensures.items in let joined = length-append c.lay.new.slots.items (Kept c.lay.new.pieces ∷ []) in
    let given = ap (λ k. length k.pieces.value.items) made.5 in let same = ap (λ v. length v.items) c.of-given.ensures in
    record { one_word = made.0; slots = omega (arith, made.1, laid_there, count, pushed, joined, given, same) }

pub deal-requires-clause-seat : goal.deal-requires-clause-seat
deal-requires-clause-seat g c = let made = c.in-Ok-new.ensures.ok in (made.2, rw made.5 made.4)

pub deal-requires-clause-dealt : goal.deal-requires-clause-dealt
deal-requires-clause-dealt g c =
    let room = c.in-Ok.ensures in
    (room.items, omega (arith, room.len, room.capacity))

pub take_back-requires : goal.take_back-requires
take_back-requires g c =
    c.in-Err.ensures.err
    ∙ laid c.of-given.result.value.items c.args.pieces.items (Kept c.of.result.value) (Kept c.lay.new.pieces) c.lay.new.slots.items c.push_reserved.new.self.items
    (ap (λ v. v.items) c.of-given.ensures) c.lay.ensures.slots c.push_reserved.ensures.items (ap Kept c.of.ensures)

pub returns-in-Ok-new-clause-pieces : goal.returns-in-Ok-new-clause-pieces
returns-in-Ok-new-clause-pieces g c = ap (λ k. k.pieces.value.items) c.in-Ok-new.ensures.ok.5 ∙ ap (λ v. v.items) c.of-given.ensures

pub returns-in-Ok-new-clause-passes : goal.returns-in-Ok-new-clause-passes
returns-in-Ok-new-clause-passes g c = ap (λ k. k.passes) c.in-Ok-new.ensures.ok.5

pub returns-in-Ok-new-clause-as_many : goal.returns-in-Ok-new-clause-as_many
returns-in-Ok-new-clause-as_many g c = c.deal.ensures.as_many

pub returns-in-Ok-new-clause-new : goal.returns-in-Ok-new-clause-new
returns-in-Ok-new-clause-new g c = c.deal.ensures.new

pub returns-in-Err-clause-refused : goal.returns-in-Err-clause-refused
returns-in-Err-clause-refused g c = c.take_back.ensures ∙ ap (λ v. v.items) c.of-given.ensures
