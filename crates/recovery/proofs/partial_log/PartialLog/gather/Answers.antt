use Rattle.std.proofs.Common.{fold, refl, arith}
use Rattle.std.specs.Vec.Iter.{into_iter_items}
use Rattle.std.proofs.lemmas.List.{nil_from_length}
use Rattle.flush_log.specs.Reading.{followed_by}
use Rattle.recovery.proofs.SoFarLemmas.{left-ok, left-err, left-none}
use Rattle.recovery.proofs.partial_log.PartialLog.gather.Goals as goal

pub loop-done-preserved : goal.loop-done-preserved
loop-done-preserved c = record {
  none = c.loop-done.invariant.none;
  left = λ w state read same is.
      left-ok w c.loop-done.self.gathering c.loop-done.self.fault (fold followed_by state read) (into_iter_items c.loop-done.done-iterator) (into_iter_items c.next.new.self) c.in-Some.done c.in-Some.ensures.steps.0
      c.loop-done.invariant.none (c.loop-done.invariant.left w state read same is) c.add_all.new.gathering c.in-Some.done.segment.number c.in-Ok.frames refl c.in-Ok.is (c.in_ok-add_all-in-Ok.ensures.ok w);
}

pub returns-in-Err-clause-ok : goal.returns-in-Err-clause-ok
returns-in-Err-clause-ok c w state read same is =
    left-err w c.loop-done.self.gathering c.loop-done.self.fault (fold followed_by state read) (into_iter_items c.loop-done.done-iterator) (into_iter_items c.next.new.self) c.in-Some.done c.in-Some.ensures.steps.0
    c.loop-done.invariant.none (c.loop-done.invariant.left w state read same is) c.in-Err.fault c.in-Err.is

pub returns-clause-ok : goal.returns-clause-ok
returns-clause-ok c w state read same is =
    left-none w c.loop-done.self.gathering c.loop-done.self.fault (fold followed_by state read) (into_iter_items c.loop-done.done-iterator) (nil_from_length _ (omega (arith, c.in-None.ensures.steps.0))) (c.loop-done.invariant.left w state read same is)
