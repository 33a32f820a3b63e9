use Rattle.std.proofs.Common.{◌≡◌, ◌<◌, true, length, sym, ◌∙◌, arith}
use Rattle.std.proofs.lemmas.Map.Keys.{sorted_tail}
use Rattle.std.specs.Map.{keys_of}
use Rattle.keys.specs.Order.{order}
use Rattle.keys.specs.Range.{is_before}
use Rattle.replies.proofs.LentRows.{rows-from, rising-from, row-added, rows-full, rows-past, rows-none}
use Rattle.replies.proofs.in_turn.LentMap.rows.Goals.{in-None, in-Some+then-len-limit, then-len-limit-via-then-len-limit, then-len-limit-via-else-len-limit+then-not-is_before_end}
use Rattle.replies.proofs.in_turn.LentMap.rows.Goals as goal

pub loop-key-init : goal.loop-key-init
loop-key-init c = record {
  all = rw (c.empty-rows.ensures, ← c.self.view_is, c.into_iter-key-iterator.ensures.into_iter_gives, c.range-key-items.ensures.between _, c.new-low.ensures) (rows-from c.args.lo.now c.args.hi.now c.args.limit c.self.inside.pairs.entries);
  rising = rw (c.into_iter-key-iterator.ensures.into_iter_gives, c.range-key-items.ensures.between _) (rising-from c.new-low.result c.self.inside.pairs.entries c.len-rising.ensures.ordered);
}

pub loop-key-preserved : goal.loop-key-preserved
loop-key-preserved c =
    let next = c.in-Some.ensures.steps in
    let few : length c.loop-key.rows < c.args.limit = omega (arith, c.len.ensures) in
    let before : is_before c.args.hi.now c.in-Some.key.now ≡ true = sym (rw c.as_bytes.ensures at c.is_before_end.ensures) ∙ c.if-not-is_before_end.false in
    record {
      all = rw (c.in_ok-push.ensures.ok, c.as_bytes-in-loop-key.ensures, c.value.view_is) (row-added c.args.hi.now c.args.limit c.loop-key.rows _ c.in-Some.key.now c.in-Some.value.now c.next.new.self few before (rw next at c.loop-key.invariant.all));
      rising = sorted_tail order c.in-Some.key.now (keys_of c.next.new.self) (rw next at c.loop-key.invariant.rising);
    }

pub returns : goal.returns
returns c = elim c.match-next.branch [
  | in-None w ↦ rows-none c.args.hi.now _ c.loop-key.rows _ c.loop-key.key-iterator w.in-None.ensures.steps.0 c.loop-key.invariant.all
  | in-Some+then-len-limit w ↦ elim w.then-len-limit.branch [
    | then-len-limit-via-then-len-limit w' ↦ rows-full c.args.hi.now c.args.limit c.loop-key.rows _ c.loop-key.key-iterator (omega (arith, w.len.ensures)) c.loop-key.invariant.all
    | then-len-limit-via-else-len-limit+then-not-is_before_end w' ↦ (let next = w.in-Some.ensures.steps in rows-past c.args.hi.now _ c.loop-key.rows _ w.in-Some.key.now w.in-Some.value.now c.next.new.self (rw next at c.loop-key.invariant.rising) (sym (rw w'.as_bytes.ensures at w'.is_before_end.ensures) ∙ w'.if-not-is_before_end.true) (rw next at c.loop-key.invariant.all))
  ]
]
