use Rattle.std.proofs.Common.{◌≡◌, ◌++◌, List, map}
use Rattle.std.specs.Vec.Iter.{into_iter_items}
use Rattle.flush_log.specs.Reading.{Found}
use Rattle.recovery.specs.Gathered.{AreLive}
use Rattle.recovery.specs.Scan.{held_frame, said_of_frame}
use Rattle.recovery.specs.declared.gather.Wanted.{Wanted}
use Rattle.recovery.proofs.SoFarLemmas.{AreAfter}
use Rattle.recovery.proofs.partial_log.add_all.Given as goal

abbrev pub invariant-loop-frame : goal.invariant-loop-frame
invariant-loop-frame l =
    (w : Wanted) (found more : List Found) → map said_of_frame more ≡ map (held_frame l.fn.number) l.fn.frames.items → AreLive w l.fn.gathering found
    → AreAfter w l.gathering l.fn.number (found ++ more) (into_iter_items l.frame-iterator)
