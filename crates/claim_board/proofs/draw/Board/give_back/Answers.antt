use Rattle.std.proofs.Common.{◌≡◌, ◌+◌, ◌-◌, ◌<◌, ◌≤◌, length, take, drop, vec_len, vec_capacity, sym, ap, subst, ◌∙◌, arith, rules, refl}
use lib.ListN.{get_elem?}
use mathlib.Core.Logic.{dite}
use native.Mathlib.Decide.{dec_le}
use Rattle.claim_board.specs.declared.rule.Slot.TheVariants.{Kept}
use Rattle.claim_board.proofs.Closing.{ends, last_is, piece_is, more, fewer, rest_is, Taken, taken_next, taken_last}
use Rattle.claim_board.proofs.draw.Board.give_back.Goals as goal

pub unreachable-requires : goal.unreachable-requires
unreachable-requires g c =
    let about = c.args.self.table.shared.key in let all = about.pieces.value.items in let last = Kept about.list.value in
    let v = c.args.all.me.0 in let w = c.word-draws.result in let slots = c.close_with-closed.result.slots.items in
    let e = ends all last about.passes c.args.all.id v c.close_with-closed.result.words.items slots w c.requires.all.1 c.word-draws.ensures c.close_with-closed.ensures.values.2 in
    let count : c.slot_count-count.result - 1 ≡ length all = (let b = c.args.self in let s = c.slot_count-count.ensures in omega arith) in
    c.in_default.not-Kept about.list.value (last_is all last about.passes w v slots (c.slot_count-count.result - 1) c.take-last.result e count c.take-last.ensures.value)

pub loop-i-init : goal.loop-i-init
loop-i-init g c =
    let about = c.args.self.table.shared.key in let all = about.pieces.value.items in let last = Kept about.list.value in
    let v = c.args.all.me.0 in let w = c.word-draws.result in let slots = c.close_with-closed.result.slots.items in
    let e = ends all last about.passes c.args.all.id v c.close_with-closed.result.words.items slots w c.requires.all.1 c.word-draws.ensures c.close_with-closed.ensures.values.2 in
    let count : c.slot_count-count.result - 1 ≡ length all = (let b = c.args.self in let s = c.slot_count-count.ensures in omega arith) in
    let same = last_is all last about.passes w v slots (c.slot_count-count.result - 1) c.take-last.result e count c.take-last.ensures.value in
    let list : c.in-Kept.left ≡ about.list.value = cc (same, c.in-Kept.is) in
    let zero_taken : 0 - w ≡ 0 = omega arith in (
      subst (λ f. Taken 0 (c.slot_count-count.result - 1) f) (sym c.take-last.ensures.others.1)
          (taken_last c.close_with-closed.result.slots.filled (c.slot_count-count.result - 1) (λ k lt. c.close_with-closed.ensures.values.1 k (omega arith) (let b = c.args.self in let s = c.slot_count-count.ensures in let n = c.close_with-closed.ensures.counts.1 in omega arith))),
      refl,
      (let l = c.take-last.ensures.others.2 in omega arith),
      ap (λ l. l.items) list ∙ about.is_empty.0 ∙ sym (ap (λ k. take k (drop w all)) zero_taken),
      (let none = about.is_empty.1 in let same_len = ap vec_len list in omega arith),
      (let room = about.has_room in let same_room = ap vec_capacity list in omega arith),
    )

pub loop-i-preserved : goal.loop-i-preserved
loop-i-preserved g c =
    let about = c.args.self.table.shared.key in let all = about.pieces.value.items in let last = Kept about.list.value in
    let v = c.args.all.me.0 in let w = c.word-draws.result in let slots = c.close_with-closed.result.slots.items in
    let e = ends all last about.passes c.args.all.id v c.close_with-closed.result.words.items slots w c.requires.all.1 c.word-draws.ensures c.close_with-closed.ensures.values.2 in
    let count : c.slot_count-count.result - 1 ≡ length all = (let b = c.args.self in let s = c.slot_count-count.ensures in omega arith) in
    let i = c.loop-i.i in let left = c.loop-i.left.items in let inv = c.loop-i.invariant in
    let inside : i < length all = (let t = c.loop-i-test.true in omega arith) in (
      subst (λ f. Taken (i + 1) (c.slot_count-count.result - 1) f) (sym c.take.ensures.others.1) (taken_next c.loop-i.closed.slots.filled i (c.slot_count-count.result - 1) (omega arith) inv.0),
      c.take.ensures.others.0 ∙ inv.1,
      c.take.ensures.others.2 ∙ inv.2,
      dite (dec_le w i)
          (λ y.
          let x = piece_is all last about.passes w v slots i c.take.result e inside y (ap (λ l. get_elem? l i) (sym (inv.1 ∙ c.take-last.ensures.others.0)) ∙ c.take.ensures.value) in
          c.put_back.ensures.left x.0 (search rules) x.2 ∙ more all left w i x.0 y inside x.1 inv.3)
          (λ no. c.put_back.ensures.drawn (search rules) ∙ fewer all left w i (omega arith) inv.3),
      (let m = c.put_back.ensures.as_many in omega arith),
      (let r = c.put_back.ensures.room in omega arith),
    )

pub returns : goal.returns
returns g c =
    let about = c.args.self.table.shared.key in let all = about.pieces.value.items in let last = Kept about.list.value in
    let v = c.args.all.me.0 in let w = c.word-draws.result in let slots = c.close_with-closed.result.slots.items in
    let e = ends all last about.passes c.args.all.id v c.close_with-closed.result.words.items slots w c.requires.all.1 c.word-draws.ensures c.close_with-closed.ensures.values.2 in
    let count : c.slot_count-count.result - 1 ≡ length all = (let b = c.args.self in let s = c.slot_count-count.ensures in omega arith) in
    let end : length all ≤ c.loop-i.i = (let t = c.loop-i-test.false in omega arith) in
    record {
      once = e.once;
      within = let m = e.many in omega arith;
      left_are = c.loop-i.invariant.3 ∙ rest_is all w c.loop-i.i end ∙ ap (λ k. drop k all) (sym e.many);
      none_left = λ d. let past = e.miss_past_end d in let m = e.many in omega arith;
    }
