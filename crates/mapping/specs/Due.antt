-- Which pids a flush may have to write.
use Rattle.std.specs.Prelude.{◌≡◌, ℕ, Bool, false, ◌||◌, List, Option, Some, None}
use Rattle.index_page.specs.Page.{PageOfKind}
use Rattle.mapping.specs.Tree.{Logged}
use Rattle.mapping.specs.Tree.Logged.{No, Upto}
use Rattle.mapping.specs.FreshPids.{is_among}
use Rattle.mapping.specs.Table.{Mapping, place_of, log_of}
use Rattle.mapping.specs.Flushed.{depth_counted}

-- the log state of a place after all pages in the table are written
abbrev pub log_then : Option (Option PageOfKind) → Logged
log_then None = No
log_then (Some None) = No
log_then (Some (Some p)) = Upto (depth_counted p)

-- the log state of the pid is already what it is after a flush
abbrev pub IsWritten : Mapping PageOfKind → ℕ → Type 0
IsWritten t pid = log_of t pid ≡ log_then (place_of t pid)

-- this holds for each pid that is not in the list
abbrev pub AreDue : Mapping PageOfKind → List ℕ → Type 0
AreDue t pids = (pid : ℕ) → is_among pid pids ≡ false → IsWritten t pid

-- the recorded pids, and whether any pid may be due
pub record DuePids : Type 0 where
  pub pids : List ℕ
  pub are_all : Bool

-- whether the pid may be due
abbrev pub may_be_due : DuePids → ℕ → Bool
may_be_due d pid = d.are_all || is_among pid d.pids

-- pids that are not recorded are written
abbrev pub AreNoted : Mapping PageOfKind → DuePids → Type 0
AreNoted t d = (pid : ℕ) → may_be_due d pid ≡ false → IsWritten t pid
