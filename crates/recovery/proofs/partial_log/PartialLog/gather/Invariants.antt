use Rattle.std.proofs.Common.{◌≡◌, List, map, fold, None}
use Rattle.std.specs.Vec.Iter.{into_iter_items}
use Rattle.flush_log.specs.Reading.{followed_by}
use Rattle.recovery.specs.Gathered.{IsPartialLog}
use Rattle.recovery.specs.Scan.{said_of, said_by_scan}
use Rattle.recovery.specs.declared.gather.Wanted.{Wanted}
use Rattle.recovery.proofs.SoFarLemmas.{ReadResult, AreLeft}
use Rattle.recovery.proofs.partial_log.PartialLog.gather.Given as goal

abbrev pub invariant-loop-done : goal.invariant-loop-done
invariant-loop-done l = record {
  none : l.self.fault ≡ None;
  left : (w : Wanted) (state : ReadResult) (read : List ReadResult) → map said_of read ≡ map said_by_scan l.fn.scans.items → IsPartialLog w l.fn.self.gathering l.fn.self.fault state
      → AreLeft w l.self.gathering l.self.fault (fold followed_by state read) (into_iter_items l.done-iterator);
}
