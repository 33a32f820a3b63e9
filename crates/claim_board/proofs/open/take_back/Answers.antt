use Rattle.std.proofs.Common.{◌≡◌, [], map, reverse, arith, rules}
use Rattle.claim_board.specs.declared.rule.Slot.TheVariants.{Piece}
use Rattle.claim_board.proofs.Slots.{popped, one_back, all_back}
use Rattle.claim_board.proofs.open.take_back.Goals as goal

pub unreachable-requires-in_default-slot : goal.unreachable-requires-in_default-slot
unreachable-requires-in_default-slot g c =
    let all = c.args.about.now.pieces.value.items in
    let piece = popped c.loop-slot.slots.items c.pop-in-loop-slot.new.self.items c.in-Some-pop.slot (reverse c.loop-slot.pieces.items) all c.loop-slot.invariant.0 c.in-Some-pop.ensures.items in
    c.in_default-slot.not-Piece piece.0 piece.1

pub push_reserved-requires : goal.push_reserved-requires
push_reserved-requires g c = omega (arith, c.loop-slot.invariant.1, c.in-Some-pop.ensures.len)

pub loop-slot-preserved : goal.loop-slot-preserved
loop-slot-preserved g c = (
  rw c.push_reserved.ensures.items (one_back c.loop-slot.slots.items c.pop-in-loop-slot.new.self.items (map Piece c.args.about.now.pieces.value.items) c.in-Some-pop.slot c.loop-slot.pieces.items c.in-Piece.piece
      c.in-Some-pop.ensures.items c.in-Piece.is c.loop-slot.invariant.0),
  omega (arith, c.loop-slot.invariant.1, c.in-Some-pop.ensures.len, c.push_reserved.ensures.len, c.push_reserved.ensures.capacity),
)

pub returns : goal.returns
returns g c =
    let none : c.loop-slot.slots.items ≡ [] = search rules in
    all_back c.loop-slot.slots.items (reverse c.loop-slot.pieces.items) c.args.about.now.pieces.value.items c.reverse.new.self.items none c.loop-slot.invariant.0 c.reverse.ensures.items
