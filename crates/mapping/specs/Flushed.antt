-- What the log contains after all pages are written.
use Rattle.std.specs.Prelude.{ℕ, ◌-◌, ◌^◌, min, List, map, Option, if◌then◌else◌}
use Rattle.delta_chain.specs.Layers.{depth_of}
use Rattle.index_page.specs.Page.{PageOfKind}
use Rattle.index_page.specs.Page.PageOfKind.{Leaf, Index}
use Rattle.mapping.specs.Tree as tree
use Rattle.mapping.specs.Tree.Logged.{Upto as upto}
use Rattle.mapping.specs.Table.{Mapping}
use Rattle.mapping.specs.FreshPids.{is_among}
use Rattle.mapping.specs.TreeInMemory.{home_pages}
use Rattle.mapping.specs.declared.logged.Logged.{Logged}
use Rattle.mapping.specs.declared.logged.Logged.TheVariants.{No, Upto}
use Rattle.mapping.specs.declared.slots.TablePlace.{TablePlace}
use Rattle.mapping.specs.declared.slots.TablePlace.TheVariants.{Vacant, Away, Home}
use Rattle.mapping.specs.declared.slots.TableSlot.{TableSlot}

-- how many runs a page has, whatever its kind
abbrev pub page_depth : PageOfKind → ℕ
page_depth (Leaf p) = depth_of p.layers
page_depth (Index p) = depth_of p.layers

-- that number as the code counts it: capped at the greatest `u64`
abbrev pub depth_counted : PageOfKind → ℕ
depth_counted p = min (page_depth p) (2 ^ 64 - 1)

-- each page in the table, with all its runs
abbrev pub logged_home_pages : List (ℕ × Option PageOfKind) → List (ℕ × tree.Logged)
logged_home_pages es = map (λ e. (e.0, upto (depth_counted e.1))) (home_pages es)

-- the table after the log contains each of its pages with all its runs, and nothing of any other pid
abbrev pub marked_as_written : Mapping PageOfKind → Mapping PageOfKind
marked_as_written t = record { places = t.places; logged = logged_home_pages t.places }

-- the code's log state of a slot's place after a flush
abbrev pub logged_then : TablePlace PageOfKind → Logged
logged_then Vacant = No
logged_then Away = No
logged_then (Home p) = Upto (depth_counted p)

-- the slot after a flush
abbrev pub slot_then : TableSlot PageOfKind → TableSlot PageOfKind
slot_then s = record { pid = s.pid; page = s.page; logged = logged_then s.page }

-- the slots after those of these pids are updated
abbrev pub marked : List (TableSlot PageOfKind) → List ℕ → List (TableSlot PageOfKind)
marked ss pids = map (λ s. if is_among s.pid pids then slot_then s else s) ss
