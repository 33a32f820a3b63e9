use Rattle.std.proofs.Common.{◌∙◌, arith, refl}
use Rattle.keys.proofs.WordLemmas.{Cut, are_bytes, rest_of_cut, same_words, lesser_word, greater_word}
use Rattle.keys.proofs.order.compare.Goals as goal

pub loop-word-init : goal.loop-word-init
loop-word-init c = record {
  left = are_bytes c.args.one.now (λ i. (c.type_inv.one i).fits);
  right = are_bytes c.args.other.now (λ i. (c.type_inv.other i).fits);
  decides = refl;
}

pub returns-then-word-other_word : goal.returns-then-word-other_word
returns-then-word-other_word c =
    let w = c.in-Some-Some.ensures.cases in
    let v = c.in-Some-Some.ensures'.cases in
    lesser_word c.loop-word.left.now c.in-Some-Some.word.now c.in-Some-Some.rest.now c.loop-word.right.now c.in-Some-Some.other_word.now c.in-Some-Some.other_rest.now
    c.from_be_bytes-word.result c.from_be_bytes-other_word.result
    (record { bytes = c.loop-word.invariant.left; word = w.0; following = w.1; long = w.2 })
    (record { bytes = c.loop-word.invariant.right; word = v.0; following = v.1; long = v.2 })
    c.from_be_bytes-word.ensures c.from_be_bytes-other_word.ensures c.if-word-other_word.true
    ∙ c.loop-word.invariant.decides

pub returns-then-word-other_word-2 : goal.returns-then-word-other_word-2
returns-then-word-other_word-2 c =
    let w = c.in-Some-Some.ensures.cases in
    let v = c.in-Some-Some.ensures'.cases in
    greater_word c.loop-word.left.now c.in-Some-Some.word.now c.in-Some-Some.rest.now c.loop-word.right.now c.in-Some-Some.other_word.now c.in-Some-Some.other_rest.now
    c.from_be_bytes-word.result c.from_be_bytes-other_word.result
    (record { bytes = c.loop-word.invariant.left; word = w.0; following = w.1; long = w.2 })
    (record { bytes = c.loop-word.invariant.right; word = v.0; following = v.1; long = v.2 })
    c.from_be_bytes-word.ensures c.from_be_bytes-other_word.ensures c.if-word-other_word-2.true
    ∙ c.loop-word.invariant.decides

pub loop-word-preserved : goal.loop-word-preserved
loop-word-preserved c =
    let w = c.in-Some-Some.ensures.cases in
    let v = c.in-Some-Some.ensures'.cases in
    let one : Cut c.loop-word.left.now c.in-Some-Some.word.now c.in-Some-Some.rest.now = record { bytes = c.loop-word.invariant.left; word = w.0; following = w.1; long = w.2 } in
    let other : Cut c.loop-word.right.now c.in-Some-Some.other_word.now c.in-Some-Some.other_rest.now = record { bytes = c.loop-word.invariant.right; word = v.0; following = v.1; long = v.2 } in
    record {
      left = rest_of_cut c.loop-word.left.now c.in-Some-Some.word.now c.in-Some-Some.rest.now one;
      right = rest_of_cut c.loop-word.right.now c.in-Some-Some.other_word.now c.in-Some-Some.other_rest.now other;
      decides =
          same_words c.loop-word.left.now c.in-Some-Some.word.now c.in-Some-Some.rest.now c.loop-word.right.now c.in-Some-Some.other_word.now c.in-Some-Some.other_rest.now
          c.from_be_bytes-word.result c.from_be_bytes-other_word.result one other
          c.from_be_bytes-word.ensures c.from_be_bytes-other_word.ensures (omega (arith, c.if-word-other_word.false, c.if-word-other_word-2.false))
          ∙ c.loop-word.invariant.decides;
    }
