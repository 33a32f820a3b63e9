-- The table that is built from the pages of a log, page by page.
use Rattle.std.specs.Prelude.{ℕ, List, ◌++◌, map, flat_map, Option, Some}
use Rattle.index_page.specs.Page.{PageOfKind}
use Rattle.mapping.specs.Slots.{entry_if}
use Rattle.mapping.specs.Table.{Mapping}
use Rattle.frame_codec.specs.declared.format.Format.{Format}
use Rattle.recovery.specs.PageByLog.{page_in}
use Rattle.recovery.specs.Rebuild.{HeldLog, held_log, page_of_frames}
use Rattle.recovery.specs.declared.gather.Kept.{Kept}
use Rattle.recovery.specs.declared.rebuild.Rebuilt.{Rebuilt}

-- pages in their places, none of them checked out
abbrev pub in_places : List (ℕ × PageOfKind) → List (ℕ × Option PageOfKind)
in_places ps = map (λ p. (p.0, Some p.1)) ps

-- the pids of logs
abbrev pub log_pids : List HeldLog → List ℕ
log_pids hs = map (λ h. h.pid) hs

-- the pages that are built from these logs
abbrev pub pages_of_logs : Format → List HeldLog → List (ℕ × PageOfKind)
pages_of_logs s hs = flat_map (λ h. entry_if h.pid (page_in (page_of_frames s h.frames))) hs

-- the logs of built pages, and the pages
abbrev pub logs_made : List Rebuilt → List HeldLog
logs_made rs = map (λ r. held_log r.log) rs

abbrev pub pages_made : List Rebuilt → List (ℕ × PageOfKind)
pages_made rs = flat_map (λ r. entry_if r.log.pid r.page) rs

-- the table with these pages after its own
abbrev pub filled : Mapping PageOfKind → List (ℕ × PageOfKind) → Mapping PageOfKind
filled t ps = record { places = t.places ++ in_places ps; logged = t.logged }

-- the retained log of a page, under its pid
abbrev pub log_under : ℕ × Kept → HeldLog
log_under e = record { pid = e.0; frames = e.1.frames.items }
