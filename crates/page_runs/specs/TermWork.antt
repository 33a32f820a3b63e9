-- The input and the output of the work on an index page.
use Rattle.std.specs.Prelude.{ℕ, Option}
use Rattle.keys.specs.Bytes.{Changes, Separators}
use Rattle.keys.specs.declared.settings.Settings.{Settings}
use Rattle.index_page.specs.ChildList.{IsListOf}
use Rattle.index_page.specs.Page.{PageOfKind, index_of}
use Rattle.index_page.specs.Page.PageOfKind.{Leaf, Index}
use Rattle.mapping.specs.Levels.{Placed}
use Rattle.page_runs.specs.Outcome.{page_before, run_before, CanUndo, class_now, is_replaced_now}
use Rattle.page_runs.specs.Updated.{Updated, updated}
use Rattle.page_runs.specs.declared.page_after.WayBack.{WayBack}
use Rattle.page_runs.specs.declared.term_work.TermJob.{TermJob}

-- a page, its pid, and the run of its terms
pub record TermHeld : Type 0 where
  pub page : PageOfKind
  pub pid : ℕ
  pub terms : Changes ℕ

-- the index page under its pid
abbrev pub placed_index : TermHeld → Placed ℕ
placed_index h = record { pid = h.pid; page = index_of h.page }

-- the output: the index page after the run of its terms
abbrev pub index_made : Settings → TermHeld → Updated ℕ
index_made s h = updated s (placed_index h) h.terms

-- the input in a job
abbrev pub term_held_of : TermJob → TermHeld
term_held_of j = record { page = j.page; pid = j.pid; terms = j.terms }

-- the work on an index page: its input and its output
pub record IndexUpdate : Type 0 where
  pub held : TermHeld
  pub made : Updated ℕ

-- the work on a page, from the page now and what undoes the run
abbrev pub index_updated : PageOfKind → WayBack ℕ → ℕ → IndexUpdate
index_updated page way_back pid =
    let now = index_of page in
    record {
      held = record {
        page = Index (record { low = now.low; layers = page_before now.layers way_back });
        pid = pid;
        terms = run_before now.layers way_back;
      };
      made = record { placed = record { pid = pid; page = now }; class = class_now way_back; replaced = is_replaced_now way_back };
    }

-- the page is an index page, the run on it can be undone, and the retained list of children is that of the page before
abbrev pub IsWorkedIndex : PageOfKind → WayBack ℕ → Option Separators → Type 0
IsWorkedIndex (Leaf p) way_back list = ⊥
IsWorkedIndex (Index p) way_back list = CanUndo p.layers way_back × IsListOf (page_before p.layers way_back) list
