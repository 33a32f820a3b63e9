use Rattle.std.proofs.Common.{rules, ◌<◌, ◌≤◌, length, refl, arith, add-one, Less, Equal}
use Rattle.delta_chain.specs.Layers.{with_run}
use Rattle.delta_chain.specs.Lent.{pairs_lent}
use Rattle.delta_chain.proofs.LayerLemmas.{rising-with_run}
use Rattle.delta_chain.proofs.Lending.{pairs_lent-push}
use Rattle.delta_chain.proofs.Merges.{fewer_pairs, fewer_changes, less_step, equal_step, greater_step, there_is_one, all_changes}
use Rattle.delta_chain.proofs.merging.with_run.Goals as goal

pub loop-at-init : goal.loop-at-init
loop-at-init g c = record {
  place = omega arith;
  turn = omega arith;
  count = omega (arith, c.in_ok-lent.ensures.len);
  room = search rules;
  made = rw c.in_ok-lent.ensures.items refl;
}

pub loop-at-smaller-in-Less : goal.loop-at-smaller-in-Less
loop-at-smaller-in-Less g c =
    fewer_pairs c.loop-at.from (length c.args.under.now) c.loop-at.at (length c.args.run.now) (there_is_one c.args.under.now c.loop-at.from c.key-key.result.now Less c.in-Less.ensures (λ e. cc))

pub loop-at-smaller-in-Equal : goal.loop-at-smaller-in-Equal
loop-at-smaller-in-Equal g c =
    fewer_pairs c.loop-at.from (length c.args.under.now) c.loop-at.at (length c.args.run.now) (there_is_one c.args.under.now c.loop-at.from c.key-key.result.now Equal c.in-Equal.ensures (λ e. cc))

pub loop-at-smaller : goal.loop-at-smaller
loop-at-smaller g c =
    fewer_changes c.loop-at.from (length c.args.under.now) c.loop-at.at (length c.args.run.now) (omega (arith, c.loop-at-test.true, c.len-changes.ensures))

pub loop-at-preserved-in-Less : goal.loop-at-preserved-in-Less
loop-at-preserved-in-Less g c =
    let n : c.loop-at.from < length c.args.under.now = there_is_one c.args.under.now c.loop-at.from c.key-key.result.now Less c.in-Less.ensures (λ e. cc) in
    record {
      place = omega arith;
      turn = c.loop-at.invariant.turn;
      count = omega (arith, c.push_reserved.ensures.len);
      room = rw c.push_reserved.ensures.capacity c.loop-at.invariant.room;
      made = simp add-one (rw (c.push_reserved.ensures.items, pairs_lent-push) (less_step c.args.under.now c.args.run.now c.loop-at.from c.loop-at.at c.key.result.now c.key-key.result.now c.cell.result.now (pairs_lent c.loop-at.lent.items) _ c.requires.changes c.key.ensures c.cell.ensures c.key-key.ensures c.in-Less.ensures c.loop-at.invariant.made));
    }

pub loop-at-preserved-in-Equal : goal.loop-at-preserved-in-Equal
loop-at-preserved-in-Equal g c =
    let n : c.loop-at.from < length c.args.under.now = there_is_one c.args.under.now c.loop-at.from c.key-key.result.now Equal c.in-Equal.ensures (λ e. cc) in
    record {
      place = omega arith;
      turn = c.loop-at.invariant.turn;
      count = omega arith;
      room = c.loop-at.invariant.room;
      made = simp add-one (equal_step c.args.under.now c.args.run.now c.loop-at.from c.loop-at.at c.key-key.result.now (pairs_lent c.loop-at.lent.items) _ c.requires.pairs n c.key-key.ensures c.in-Equal.ensures c.loop-at.invariant.made);
    }

pub loop-at-preserved : goal.loop-at-preserved
loop-at-preserved g c =
    record {
      place = c.loop-at.invariant.place;
      turn = omega (arith, c.len-changes.ensures);
      count = omega (arith, c.push_change.ensures.count);
      room = rw c.push_change.ensures.room c.loop-at.invariant.room;
      made = simp add-one (rw c.push_change.ensures.pairs (greater_step c.args.under.now c.args.run.now c.loop-at.from c.loop-at.at c.key-key.result.now _ (pairs_lent c.loop-at.lent.items) _ c.requires.pairs c.requires.changes c.key-key.ensures (rw c.as_ref.ensures.value c.cell-in-Greater.ensures) c.in-Greater.ensures c.loop-at.invariant.made));
    }

pub push_reserved-requires : goal.push_reserved-requires
push_reserved-requires g c =
    let at = c.loop-at.invariant in omega (arith, at.place, at.count, at.room, c.loop-at-test.true, c.len-changes.ensures)

pub push_change-requires : goal.push_change-requires
push_change-requires g c =
    let at = c.loop-at.invariant in omega (arith, at.place, at.count, at.room, c.loop-at-test.true, c.len-changes.ensures)

pub push_rest-requires : goal.push_rest-requires
push_rest-requires g c =
    let at = c.loop-at.invariant in omega (arith, at.place, at.turn, at.count, at.room)

pub returns-clause-entries : goal.returns-clause-entries
returns-clause-entries g c =
    let n : length c.args.run.now ≤ c.loop-at.at = omega (arith, c.loop-at-test.false, c.len-changes.ensures) in
    rw (c.of_list.ensures, c.push_rest.ensures) (all_changes c.args.under.now c.args.run.now c.loop-at.from c.loop-at.at (pairs_lent c.loop-at.lent.items) (with_run c.args.under.now c.args.run.now) n c.loop-at.invariant.made)

pub returns-clause-rising : goal.returns-clause-rising
returns-clause-rising g c = rw (returns-clause-entries g c) (rising-with_run c.args.under.now c.args.run.now c.requires.pairs)
