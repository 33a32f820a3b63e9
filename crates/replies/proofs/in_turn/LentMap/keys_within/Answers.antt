use Rattle.std.proofs.Common.{◌≡◌, true, sym, ◌∙◌}
use Rattle.std.proofs.lemmas.Map.Keys.{sorted_tail}
use Rattle.std.specs.Map.{keys_of}
use Rattle.keys.specs.Order.{order}
use Rattle.keys.specs.Range.{is_before}
use Rattle.replies.proofs.LentRows.{keys-from, rising-from, key-added, keys-past, keys-none}
use Rattle.replies.proofs.in_turn.LentMap.keys_within.Goals.{in-None, in-Some+then-not-is_before_end}
use Rattle.replies.proofs.in_turn.LentMap.keys_within.Goals as goal

pub loop-key-init : goal.loop-key-init
loop-key-init c = record {
  all = rw (c.new-keys.ensures.items, ← c.self.view_is, c.into_iter-key-iterator.ensures.into_iter_gives, c.range-key-items.ensures.between _, c.new-low.ensures) (keys-from c.args.lo.now c.args.hi.now c.self.inside.pairs.entries);
  rising = rw (c.into_iter-key-iterator.ensures.into_iter_gives, c.range-key-items.ensures.between _) (rising-from c.new-low.result c.self.inside.pairs.entries c.len-rising.ensures.ordered);
}

pub loop-key-preserved : goal.loop-key-preserved
loop-key-preserved c =
    let next = c.in-Some.ensures.steps in
    let before : is_before c.args.hi.now c.in-Some.key.now ≡ true = sym (rw c.as_bytes.ensures at c.is_before_end.ensures) ∙ c.if-not-is_before_end.false in
    record {
      all = rw (c.in_ok-push.ensures.items, c.again.ensures) (key-added c.args.hi.now c.loop-key.keys.items _ c.in-Some.key.now c.in-Some._value.now c.next.new.self before (rw next at c.loop-key.invariant.all));
      rising = sorted_tail order c.in-Some.key.now (keys_of c.next.new.self) (rw next at c.loop-key.invariant.rising);
    }

pub returns-clause-keys : goal.returns-clause-keys
returns-clause-keys c = elim c.match-next.branch [
  | in-None w ↦ keys-none c.args.hi.now c.loop-key.keys.items _ c.loop-key.key-iterator w.in-None.ensures.steps.0 c.loop-key.invariant.all
  | in-Some+then-not-is_before_end w ↦
      (let next = w.in-Some.ensures.steps in
      keys-past c.args.hi.now c.loop-key.keys.items _ w.in-Some.key.now w.in-Some._value.now c.next.new.self (rw next at c.loop-key.invariant.rising) (sym (rw w.as_bytes.ensures at w.is_before_end.ensures) ∙ w.if-not-is_before_end.true) (rw next at c.loop-key.invariant.all))
]
