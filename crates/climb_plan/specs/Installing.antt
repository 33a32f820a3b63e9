-- The changes of a climb to the mapping table, one page after the other.
use Rattle.std.specs.Prelude.{◌≡◌, ℕ, suc, ◌+◌, ◌<◌, ⊤, false, List, [], ◌∷◌, ◌++◌, map, flat_map, drop, length, Option, Some, None, IsSome, if◌then◌else◌}
use Rattle.std.specs.List.{AllByRecursion}
use Rattle.keys.specs.Bytes.{Changes, Separators}
use Rattle.keys.specs.declared.settings.Settings.{Settings}
use Rattle.index_page.specs.Page.{PageOfKind}
use Rattle.index_page.specs.Page.PageOfKind.{Leaf, Index}
use Rattle.mapping.specs.FreshPids.{is_among, unused}
use Rattle.mapping.specs.Levels.{Placed, pids, names, top_pid}
use Rattle.mapping.specs.Proper.{Distinct, AreRisingPids}
use Rattle.mapping.specs.Table.{Mapping, pids_in_use, place_of, page_of, with_place, freed, freed_all, IsOldWithoutPlace, log_outdated}
use Rattle.page_runs.specs.TermWork.{TermHeld}
use Rattle.split_plan.specs.Pieces.{CanJoin, group_made}
use Rattle.climb_plan.specs.Changing.{SeenPage}
use Rattle.climb_plan.specs.Climb.{grown_levels}
use Rattle.mapping.specs.TreeInMemory.{TreeInMemory}
use Rattle.climb_plan.specs.Rewriting.{Remade}

-- ---- checking pages out and putting them back

-- the table after these pages were checked out
abbrev pub all_taken : Mapping PageOfKind → List ℕ → Mapping PageOfKind
all_taken t [] = t
all_taken t (pid ∷ pids) = all_taken (with_place t pid None) pids

-- the table after these pages were put back
abbrev pub all_put : Mapping PageOfKind → List (ℕ × PageOfKind) → Mapping PageOfKind
all_put t [] = t
all_put t (e ∷ es) = all_put (with_place t e.0 (Some e.1)) es

-- these distinct pages are checked out
abbrev pub AreAway : Mapping PageOfKind → List ℕ → Type 0
AreAway t pids = AllByRecursion (λ pid. place_of t pid ≡ Some None) pids × Distinct pids

-- ---- parents

-- the input of a parent's work, with the run of its terms
abbrev pub page_or_none : Option PageOfKind → PageOfKind
page_or_none None = Leaf (record { low = []; layers = record { runs = []; base = [] } })
page_or_none (Some p) = p

abbrev pub parent_held : Mapping PageOfKind → ℕ × Changes ℕ → TermHeld
parent_held t termed = record { page = page_or_none (page_of t termed.0); pid = termed.0; terms = termed.1 }

-- these distinct pids have index pages in the table
abbrev pub IsIndexAt : Option PageOfKind → Type 0
IsIndexAt None = ⊥
IsIndexAt (Some (Leaf p)) = ⊥
IsIndexAt (Some (Index p)) = ⊤

abbrev pub AreParentsHome : Mapping PageOfKind → List ℕ → Type 0
AreParentsHome t pids = AllByRecursion (λ pid. IsIndexAt (page_of t pid)) pids × Distinct pids

-- ---- putting pages back after their runs

-- the table after a page was put back after its run; if it was replaced, its log state becomes outdated
abbrev pub come_home : Mapping PageOfKind → SeenPage → Mapping PageOfKind
come_home t x = with_place (if x.replaced then log_outdated t x.pid else t) x.pid (Some x.page)

abbrev pub all_come_home : Mapping PageOfKind → List SeenPage → Mapping PageOfKind
all_come_home t [] = t
all_come_home t (x ∷ xs) = all_come_home (come_home t x) xs

-- ---- replacing groups

-- the table without these members
abbrev pub members_freed : Mapping PageOfKind → List ℕ → Mapping PageOfKind
members_freed t [] = t
members_freed t (pid ∷ pids) = members_freed (freed (with_place t pid None) pid) pids

-- the pages in the table under these pids
abbrev pub pages_under : Mapping PageOfKind → List ℕ → List PageOfKind
pages_under t pids = map (λ pid. page_or_none (page_of t pid)) pids

-- the table after the pages of a group were checked out: the first one's log state becomes outdated, and the other places are freed
abbrev pub members_taken : Mapping PageOfKind → List ℕ → Mapping PageOfKind
members_taken t [] = t
members_taken t (pid ∷ pids) = members_freed (log_outdated (with_place t pid None) pid) pids

-- the table after pages were put under these pids
abbrev pub put_under : Mapping PageOfKind → List ℕ → List PageOfKind → Mapping PageOfKind
put_under t [] pages = t
put_under t (pid ∷ pids) [] = t
put_under t (pid ∷ pids) (p ∷ ps) = put_under (with_place t pid (Some p)) pids ps

-- the first new page replaces the first member, whose log state becomes outdated; the others have places of their own
abbrev pub first_replaced : Mapping PageOfKind → List ℕ → List PageOfKind → Mapping PageOfKind
first_replaced t [] pages = t
first_replaced t (pid ∷ pids) [] = t
first_replaced t (pid ∷ pids) (p ∷ ps) = with_place (log_outdated t pid) pid (Some p)

-- the table after a group was replaced by its new pages
abbrev pub group_installed : Mapping PageOfKind → Remade → Mapping PageOfKind
group_installed t r = put_under (members_freed (first_replaced t r.members r.pieces) (drop 1 r.members)) r.fresh (drop 1 r.pieces)

abbrev pub all_installed : Mapping PageOfKind → List Remade → Mapping PageOfKind
all_installed t [] = t
all_installed t (r ∷ rs) = all_installed (group_installed t r) rs

-- the group's new pages are those of its members, which can be joined
abbrev pub IsMade : Mapping PageOfKind → Remade → Type 0
IsMade t r = (s : Settings) × CanJoin (pages_under t r.members) × (r.pieces ≡ group_made s (pages_under t r.members))

-- a group that can be replaced: its new pages are those of its distinct members, which are in the table, the places of new pages are empty, and there
-- is a page for each
pub record CanInstall (t : Mapping PageOfKind) (r : Remade) : Type 0 where
  pub some : 0 < length r.members
  pub members : AllByRecursion (λ pid. IsSome (page_of t pid)) r.members
  pub fresh : AllByRecursion (λ pid. place_of t pid ≡ Some None) r.fresh
  pub distinct : Distinct (r.members ++ r.fresh)
  pub count : length r.pieces ≡ suc (length r.fresh)
  pub made : IsMade t r
  pub rising : AreRisingPids (pids_in_use t)

-- groups that can be replaced one after the other
abbrev pub CanInstallAll : Mapping PageOfKind → List Remade → Type 0
CanInstallAll t [] = ⊤
CanInstallAll t (r ∷ rs) = CanInstall t r × CanInstallAll (group_installed t r) rs

-- ---- adding levels

-- the next pids that the table allocates are unused numbers, given that `from` of them are already allocated
abbrev pub DrawsFrom : Mapping PageOfKind → List ℕ → ℕ → Type 0
DrawsFrom t used from = (m : ℕ) → unused (pids_in_use t) m ≡ unused used (from + m)

-- pids were allocated: their places are empty, and the next allocated pids follow them; everything else of the tree is unchanged, and freeing these
-- pids restores it
pub record AreDrawn (before after : TreeInMemory) (pids : List ℕ) : Type 0 where
  pub away : AllByRecursion (λ pid. place_of after.table pid ≡ Some None) pids
  pub others : (pid : ℕ) → is_among pid pids ≡ false → place_of after.table pid ≡ place_of before.table pid
  pub next : (m : ℕ) → unused (pids_in_use after.table) m ≡ unused (pids_in_use before.table) (length pids + m)
  pub rising : AreRisingPids (pids_in_use after.table)
  pub logged : after.table.logged ≡ before.table.logged
  pub root : after.root ≡ before.root
  pub height : after.height ≡ before.height
  pub back : IsOldWithoutPlace before.table → freed_all after.table pids ≡ before.table

-- levels of index pages were put into the table, whose pids had no places; everything else of the tree is unchanged
pub record AreGrown (before after : TreeInMemory) (ls : List (List (Placed ℕ))) : Type 0 where
  pub new : AllByRecursion (AllByRecursion (λ p. place_of after.table p.pid ≡ Some (Some (Index p.page)))) ls
  pub others : (pid : ℕ) → is_among pid (flat_map pids ls) ≡ false → place_of after.table pid ≡ place_of before.table pid
  pub rising : AreRisingPids (pids_in_use after.table)
  pub logged : after.table.logged ≡ before.table.logged
  pub root : after.root ≡ before.root
  pub height : after.height ≡ before.height

-- a property of the pages with these entries and of the levels added above them, whose pids are the next ones of the table
abbrev pub OfGrown : Settings → Mapping PageOfKind → Separators → (List (Placed ℕ) → List (List (Placed ℕ)) → Type 0) → Type 0
OfGrown s t ns P =
    (used : List ℕ) (from : ℕ) (ps : List (Placed ℕ)) → DrawsFrom t used from → names ps ≡ ns → P ps (grown_levels (length ps) s used from ps)

-- the pid of the highest page and the number of levels, after these levels were added above the highest pages of a tree of `height` levels
abbrev pub HasGrown : TreeInMemory → TreeInMemory → ℕ × ℕ → ℕ → List (Placed ℕ) → List (List (Placed ℕ)) → Type 0
HasGrown before after top height ps ls = (top.0 ≡ top_pid ps ls) × (top.1 ≡ height + length ls) × AreGrown before after ls

-- ---- shrinking the root

-- the pid of the only child in these entries, if there is exactly one
abbrev pub only_pid : Separators → Option ℕ
only_pid [] = None
only_pid (e ∷ []) = Some e.1
only_pid (e ∷ f ∷ es) = None
