use Rattle.std.specs.Prelude.{◌≡◌, ◌+◌, IfSome, List}
use Rattle.engine.specs.Cleaning.{CleanRow, IsHeld, count_of}
use Rattle.engine.proofs.CleaningLemmas.{AreDone}
use Rattle.engine.proofs.store.Store.flush_in_rows.Given as goal

-- rows of cleans are done, as many more may follow as are left of the segments, and a reading that is held is one of the log
abbrev pub invariant-room : goal.invariant-room
invariant-room g l =
    (rows : List CleanRow) × AreDone g.D.Disk.view g.D.Disk.failed l.fn.self rows l.self × (count_of rows + l.left ≡ l.fn.self.settings.segments) × IfSome l.held (IsHeld g.D.Disk.view l.self)

abbrev pub decreases-room : goal.decreases-room
decreases-room g l = l.left
