use Rattle.std.proofs.Common.{◌≡◌, ◌⊎◌, ◌∙◌, ◌<◌, ◌≤◌, ◌+◌, inl, inr, ⊎_elim, refl, sym, subst, arith}
use borrow.Author.Tests.{ltb-true, ltb-false}
use Rattle.engine.proofs.AsBefore.{refused_clean}
use Rattle.engine.proofs.CleansLemmas.{none_on, one_head, one_on, stopped_on}
use Rattle.engine.proofs.RowsLemmas.{machine_or_refused}
use Rattle.engine.proofs.store.Store.clean_all_read.Goals as goal
use Rattle.engine.proofs.store.Store.clean_all_read.Goals.{then-done-most-via-then-done-most, then-done-most-via-else-done-most+then-not-has}

pub each-init : goal.each-init
each-init g c = record {
  few = c.requires.some;
  fine = c.requires.fine;
  read = c.requires.read;
  next = c.requires.next;
  limit = refl;
  head = omega arith;
  same = λ _. refl;
  on = none_on g.D.Disk.view g.D.Disk.failed g.met.D.Disk.lawful c.args.self.now;
}

pub returns-in-Err-clause-stopped : goal.returns-in-Err-clause-stopped
returns-in-Err-clause-stopped g c =
    let at = c.each in
    let refused = c.in-Err.ensures.refused in
    let next = at.invariant.next in
    let limit = at.invariant.limit in
    let head = at.invariant.head in (
      at.invariant.few,
      omega (arith, next, limit, head),
      λ none. (refused_clean g.D.Disk.view g.D.Disk.failed at.self c.clean_by_reading.new.self c.in-Err.fault refused).unchanged ∙ at.invariant.same none,
      stopped_on g.D.Disk.view g.D.Disk.failed g.met.D.Disk.lawful c.args.self.now at.done at.self at.invariant.on c.clean_by_reading.new.self c.in-Err.fault refused,
      machine_or_refused g.D.Disk.view g.D.Disk.failed g.met.D.Disk.lawful at.self c.clean_by_reading.new.self c.in-Err.fault refused,
    )

-- one of the two tests ended the row: so many were done as were asked for, or the reading has no more segments
pub returns-then-done-most-clause-done : goal.returns-then-done-most-clause-done
returns-then-done-most-clause-done g c =
    let at = c.each in
    let reading = c.clean_by_reading.new.reading in
    let next = c.clean_by_reading.new.self in
    let more = at.invariant.few in
    let below = at.invariant.next in
    let limit = c.clean_by_reading.ensures.limit ∙ at.invariant.limit in
    let stays = c.clean_by_reading.ensures.limit in
    let head = at.invariant.head in
    let now = one_head g.D.Disk.view g.D.Disk.failed at.self next c.in-Ok._head c.in-Ok.ensures.done.0 in
    let ends : (at.done + 1 ≡ c.args.most) ⊎ (reading.limit ≤ next.store.head) = elim c.then-done-most.branch [
      | then-done-most-via-then-done-most w ↦ inl w.if-done-most.true
      | then-done-most-via-else-done-most+then-not-has w ↦ inr (subst (λ x. reading.limit ≤ x.store.head) c.self.view_is (ltb-false c.self.inside.log.head reading.limit (sym w.if-not-has.ensures)))
    ] in (
      omega arith,
      omega (arith, more),
      ⊎_elim (λ all. omega (arith, more, below, limit, stays, head, now, all)) (λ none. omega (arith, more, below, limit, stays, head, now, none)) ends,
      one_on g.D.Disk.view g.D.Disk.failed g.met.D.Disk.lawful c.args.self.now at.done at.self at.invariant.on next c.in-Ok._head at.invariant.fine c.in-Ok.ensures.done.0,
    )

pub each-preserved : goal.each-preserved
each-preserved g c =
    let at = c.each in
    let more = at.invariant.few in
    let head = at.invariant.head in
    let (done, read) = c.in-Ok.ensures.done in
    let now = one_head g.D.Disk.view g.D.Disk.failed at.self c.clean_by_reading.new.self c.in-Ok._head done in
    record {
      few = (let other = c.if-done-most.false in omega (arith, more, other));
      fine = done.counted.0 ∙ at.invariant.fine;
      read = read;
      next = subst (λ x. x.store.head < c.clean_by_reading.new.reading.limit) c.self.view_is (ltb-true c.self.inside.log.head c.clean_by_reading.new.reading.limit (sym c.if-not-has.ensures));
      limit = c.clean_by_reading.ensures.limit ∙ at.invariant.limit;
      head = omega (arith, now, head);
      same = λ none. absurd (omega (arith, none));
      on = one_on g.D.Disk.view g.D.Disk.failed g.met.D.Disk.lawful c.args.self.now at.done at.self at.invariant.on c.clean_by_reading.new.self c.in-Ok._head at.invariant.fine done;
    }
