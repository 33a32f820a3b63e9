use Rattle.std.proofs.Common.{refl, ◌∙◌, arith, add-one}
use Rattle.delta_chain.proofs.Exchanging.{keys-exchanged_at}
use Rattle.split_plan.proofs.MovingLemmas.{length_keys, none_filled, one_filled, all_filled, next_left, past_end}
use Rattle.split_plan.proofs.moving.filled.Goals as goal

pub loop-at-init : goal.loop-at-init
loop-at-init c = record { keys = refl; filled = λ base es k h. (none_filled c.args.blank base k, h) }

pub key_ref-requires : goal.key_ref-requires
key_ref-requires c = let same = length_keys c.loop-at.base c.args.blank c.loop-at.invariant.keys in omega (arith, same, c.len-at-end.ensures.count, c.loop-at-test.true)

pub take-value-requires : goal.take-value-requires
take-value-requires c =
    let all = c.loop-at.invariant.filled c.requires.0 c.requires.1 c.requires.2 c.requires.3 in
    let next = next_left c.loop-at.source.chain c.loop-at.source.leaves.items c.loop-at.base c.requires.0 c.requires.1 c.loop-at.at _ (c.loop-at.invariant.keys ∙ c.requires.2) c.key_ref.ensures all.1 in
    (next.0, _, next.2)

pub exchange-blank-requires : goal.exchange-blank-requires
exchange-blank-requires c = let same = length_keys c.loop-at.base c.args.blank c.loop-at.invariant.keys in omega (arith, same, c.len-at-end.ensures.count, c.loop-at-test.true)

pub loop-at-preserved : goal.loop-at-preserved
loop-at-preserved c =
    let count = length_keys c.loop-at.base c.args.blank c.loop-at.invariant.keys in
    record {
      keys = rw c.exchange-blank.ensures.new (keys-exchanged_at c.loop-at.base c.loop-at.at c.take-value.result ∙ c.loop-at.invariant.keys);
      filled = λ base es k h.
          let all = c.loop-at.invariant.filled base es k h in
          let next = next_left c.loop-at.source.chain c.loop-at.source.leaves.items c.loop-at.base base es c.loop-at.at _ (c.loop-at.invariant.keys ∙ k) c.key_ref.ensures all.1 in
          let moved = c.take-value.ensures next.0 _ next.2 in
          (rw (c.exchange-blank.ensures.new, add-one, moved.0) (one_filled c.loop-at.base base _ c.loop-at.at _ next.0 all.0 (omega (arith, count, c.len-at-end.ensures.count, c.loop-at-test.true)) next.1), rw add-one moved.1);
    }

pub returns : goal.returns
returns c = λ base es k h.
    let all = c.loop-at.invariant.filled base es k h in
    let count = length_keys c.loop-at.base c.args.blank c.loop-at.invariant.keys in
    let same = length_keys c.args.blank base k in
    (all_filled c.loop-at.base base c.loop-at.at all.0 (omega (arith, count, c.len-at-end.ensures.count, c.loop-at-test.false)), past_end c.loop-at.source.chain c.loop-at.source.leaves.items base es c.loop-at.at (omega (arith, same, c.len-at-end.ensures.count, c.loop-at-test.false)) all.1)
