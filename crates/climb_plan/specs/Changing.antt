-- The families of a level that change, the pages of the level as seen by their parents, and the table after the changes.
use Rattle.std.specs.Prelude.{◌≡◌, ℕ, ◌+◌, Bool, false, ◌||◌, List, [], ◌∷◌, map, flat_map, take, drop, length, Some, None}
use Rattle.std.specs.List.{filter, AllByRecursion}
use Rattle.keys.specs.declared.settings.Settings.{Settings}
use Rattle.index_page.specs.Page.{Page, PageOfKind}
use Rattle.index_page.specs.Page.PageOfKind.{Leaf, Index}
use Rattle.mapping.specs.Levels.{Placed, entries}
use Rattle.mapping.specs.Table.{Mapping, place_of}
use Rattle.page_runs.specs.declared.class.Class.{Class}
use Rattle.page_runs.specs.declared.class.Class.TheVariants.{Same}
use Rattle.page_runs.specs.LeafWork.{LeafUpdate}
use Rattle.page_runs.specs.TermWork.{IndexUpdate}
use Rattle.page_runs.specs.Updated.{Updated, is_thin_class, is_fat_class, is_thin}
use Rattle.split_plan.specs.Groups.{groups}
use Rattle.split_plan.specs.Change.{Change, is_rewritten, changes, fresh_of}
use Rattle.split_plan.specs.Terms.{freed_of}

-- ---- pages after their runs

-- a page of a level after its run, as seen by its parent
pub record SeenPage : Type 0 where
  pub pid : ℕ
  pub page : PageOfKind
  pub class : Class
  pub replaced : Bool

-- a page after its run under its pid, as a page of the kind that `of` makes
abbrev pub page_seen : {V : Type 0} → (Page V → PageOfKind) → Updated V → SeenPage
page_seen of w = record { pid = w.placed.pid; page = of w.placed.page; class = w.class; replaced = w.replaced }

-- leaves after their runs, as seen by their parents
abbrev pub leaves_seen : List LeafUpdate → List SeenPage
leaves_seen ds = map (λ d. page_seen Leaf d.made.updated) ds

-- index pages after their runs, likewise
abbrev pub parents_seen : List IndexUpdate → List SeenPage
parents_seen ds = map (λ d. page_seen Index d.made) ds

-- a page that got no run
abbrev pub same_page : {V : Type 0} → Placed V → Updated V
same_page p = record { placed = p; class = Same; replaced = false }

-- the pages of a level, after their runs, that are checked out, in order; each other page got no run and is in the table
pub data AreSeen {V : Type 0} (of : Page V → PageOfKind) (t : Mapping PageOfKind) : List SeenPage → List (Updated V) → Type 0 where
  none : AreSeen of t [] []
  updated : {xs : List SeenPage} {ws : List (Updated V)} → (w : Updated V) → place_of t w.placed.pid ≡ Some None → AreSeen of t xs ws → AreSeen of t (page_seen of w ∷ xs) (w ∷ ws)
  at_home : {xs : List SeenPage} {ws : List (Updated V)} → (p : Placed V) → place_of t p.pid ≡ Some (Some (of p.page)) → AreSeen of t xs ws → AreSeen of t xs (same_page p ∷ ws)

-- whether the class is thin or fat
abbrev pub needs_restructuring : Class → Bool
needs_restructuring c = is_thin_class c || is_fat_class c

-- ---- families that change

-- a parent with the groups of its children that are rewritten
pub record Changing (V : Type 0) : Type 0 where
  pub parent : Placed ℕ
  pub groups : List (List (Updated V))

-- those groups of one parent's children that are rewritten
abbrev pub groups_to_rewrite : {V : Type 0} → List (Updated V) → List (List (Updated V))
groups_to_rewrite f = filter is_rewritten (groups is_thin f)

-- a parent with those groups of its children
abbrev pub changing_family : {V : Type 0} → Placed ℕ → List (Updated V) → Changing V
changing_family p f = record { parent = p; groups = groups_to_rewrite f }

-- the list with this parent in front, unless it has no such groups
abbrev pub with_changing : {V : Type 0} → List (List (Updated V)) → Changing V → List (Changing V) → List (Changing V)
with_changing [] c cs = cs
with_changing (g ∷ gs) c cs = c ∷ cs

-- the parents of a level some of whose children's groups are rewritten, with these groups, from left to right
abbrev pub changing_families : {V : Type 0} → List (Placed ℕ) → List (Updated V) → List (Changing V)
changing_families [] ws = []
changing_families (p ∷ ps) ws =
    let c : Changing _ = changing_family p (take (length (entries p)) ws) in
    with_changing c.groups c (changing_families ps (drop (length (entries p)) ws))

-- these parents
abbrev pub parents_of : {V : Type 0} → List (Changing V) → List (Placed ℕ)
parents_of chs = map (λ c. c.parent) chs

-- all of their groups
abbrev pub changing_groups : {V : Type 0} → List (Changing V) → List (List (Updated V))
changing_groups chs = flat_map (λ c. c.groups) chs

-- the changes of these groups, given that i fresh pids are already allocated
abbrev pub changing_changes : {V : Type 0} → Settings → List ℕ → ℕ → List (Changing V) → List (List (Change V))
changing_changes s used i [] = []
changing_changes s used i (c ∷ chs) =
    let d : List (Change _) = changes s used i c.groups in
    d ∷ changing_changes s used (i + length (fresh_of d)) chs

-- the pages that are freed, for all parents of a level
abbrev pub all_freed : {V : Type 0} → List (List (Change V)) → List (Placed V)
all_freed css = flat_map freed_of css

-- ---- tables

-- the pages are in the table
abbrev pub AreHome : {V : Type 0} → (Page V → PageOfKind) → Mapping PageOfKind → List (Placed V) → Type 0
AreHome of t ps = AllByRecursion (λ p. place_of t p.pid ≡ Some (Some (of p.page))) ps
