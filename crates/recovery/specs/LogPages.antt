-- The pages that the frames of a log determine, or the first page whose frames do not fit together.
use Rattle.std.specs.Prelude.{ℕ, nat_eq, if◌then◌else◌, List, [], ◌∷◌, map, flat_map, Option, Some, None}
use Rattle.std.specs.List.{filter}
use Rattle.keys.specs.Bytes.{Bytes}
use Rattle.index_page.specs.Page.{PageOfKind}
use Rattle.mapping.specs.Finding.{Finding}
use Rattle.mapping.specs.Slots.{entry_if}
use Rattle.mapping.specs.Table.{with_numbers}
use Rattle.frame_codec.specs.Frame.{Content, Frame}
use Rattle.recovery.specs.PageByLog.{InLog, page_by_log, page_in, is_broken}

-- the contents of a pid's frames, in order
abbrev pub contents_of : ℕ → List Frame → List Content
contents_of pid fs = map (λ f. f.content) (filter (λ f. nat_eq f.pid pid) fs)

-- the page that the log determines under a pid
abbrev pub in_log : List Frame → ℕ → InLog
in_log fs pid = page_by_log (contents_of pid fs)

-- the pids of frames, each once, in rising order
abbrev pub pids_of : List Frame → List ℕ
pids_of fs = with_numbers (map (λ f. f.pid) fs) []

-- those of these pids that have a page, with their pages
abbrev pub pages_under : List Frame → Bytes → List (ℕ × PageOfKind)
pages_under fs pids = flat_map (λ pid. entry_if pid (page_in (in_log fs pid))) pids

-- the pages of a log, by rising pid
abbrev pub pages_of : List Frame → List (ℕ × PageOfKind)
pages_of fs = pages_under fs (pids_of fs)

-- the first of these pids whose frames do not fit together
abbrev pub broken_under : List Frame → Bytes → Option Finding
broken_under fs [] = None
broken_under fs (pid ∷ pids) = if is_broken (in_log fs pid) then Some (record { rule = 1; pid = pid }) else broken_under fs pids

-- finding 1 of a log, by the least pid
abbrev pub broken_in : List Frame → Option Finding
broken_in fs = broken_under fs (pids_of fs)
