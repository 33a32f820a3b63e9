-- A level during a climb: its pages in the code's form, for either kind, and in the plan's form.
use Rattle.std.specs.Prelude.{◌≡◌, ℕ, ◌+◌, List, [], ◌∷◌, map, drop, length, Some, None}
use Rattle.std.specs.List.{filter, AllByRecursion}
use Rattle.keys.specs.Bytes.{Separators}
use Rattle.keys.specs.Order.{IsRising}
use Rattle.keys.specs.declared.settings.Settings.{Settings}
use Rattle.index_page.specs.Page.{Page, PageOfKind, low_of}
use Rattle.index_page.specs.Page.PageOfKind.{Index}
use Rattle.mapping.specs.Levels.{Placed, pids, all_pids, top_pid}
use Rattle.mapping.specs.FreshPids.{IsNeverUnused}
use Rattle.mapping.specs.Proper.{next_low, Tiled, Stacked, Distinct, AreRisingPids}
use Rattle.mapping.specs.Table.{Mapping, pids_in_use, with_rooms, fresh_pids, IsOldWithoutPlace}
use Rattle.mapping.specs.TreeInMemory.{TreeInMemory}
use Rattle.page_runs.specs.TermWork.{IndexUpdate}
use Rattle.split_plan.specs.Change.{Change, is_rewritten, changes, fresh_of}
use Rattle.split_plan.specs.Pieces.{joined_pages, pages_made, group_made, CanJoin}
use Rattle.split_plan.specs.Terms.{terms}
use Rattle.split_plan.specs.UpdatedLevel.{updated_parents, placed_of}
use Rattle.climb_plan.specs.Changing.{SeenPage, page_seen, parents_seen, AreSeen, AreHome, Changing, changing_families, parents_of, changing_groups, changing_changes}
use Rattle.climb_plan.specs.Climb.{LevelPlan, climb_of}
use Rattle.climb_plan.specs.Installing.{DrawsFrom, AreGrown, all_taken}
use Rattle.climb_plan.specs.Rewriting.{Remade, cut_group, freed_names}

-- ---- kinds

-- what the climb needs of a kind of pages: they keep their low keys, their groups are rewritten as those of pages of any kind, and they can be joined
-- if their entries rise
pub record IsKind {V : Type 0} (of : Page V → PageOfKind) : Type 0 where
  pub low : (p : Page V) → low_of (of p) ≡ p.low
  pub made : (s : Settings) (p : Page V) (ps : List (Page V)) → group_made s (map of (p ∷ ps)) ≡ map of (pages_made s (p ∷ ps))
  pub join : (p : Page V) (ps : List (Page V)) → IsRising (joined_pages (p ∷ ps)) → CanJoin (map of (p ∷ ps))

-- ---- new pages of groups

-- a change in the code's form
abbrev pub remade_of : {V : Type 0} → (Page V → PageOfKind) → Change V → Remade
remade_of of c = record { members = map (λ w. w.placed.pid) c.members; pieces = map (λ q. of q.page) c.pages; fresh = pids (drop 1 c.pages) }

-- the pids of parents
abbrev pub parent_pids : {V : Type 0} → List (Changing V) → List ℕ
parent_pids chs = map (λ c. c.parent.pid) chs

-- these parents, each with the number of its groups
abbrev pub group_counts : {V : Type 0} → List (Changing V) → List (ℕ × ℕ)
group_counts chs = map (λ c. (c.parent.pid, length c.groups)) chs

-- ---- levels

-- the plan is that of a level of the tree, up to its root: those of the level's pages that were seen are checked out, and the levels above are in the
-- table
pub record IsLevel {V : Type 0} (of : Page V → PageOfKind) (t : TreeInMemory) (xs : List SeenPage) (l : LevelPlan V) : Type 0 where
  pub seen : AreSeen of t.table xs l.updated
  pub tiled : Tiled (placed_of l.updated) None
  pub first : next_low (placed_of l.updated) None ≡ Some []
  pub stacked : Stacked (placed_of l.updated) l.above
  pub home : AllByRecursion (AreHome Index t.table) l.above
  pub root : t.root ≡ top_pid (placed_of l.updated) l.above
  pub distinct : Distinct (all_pids (placed_of l.updated) l.above)
  pub old : AllByRecursion (IsNeverUnused l.used) (all_pids (placed_of l.updated) l.above)
  pub rising : AreRisingPids (pids_in_use t.table)
  pub drawn : DrawsFrom t.table l.used l.from
  pub logs : IsOldWithoutPlace t.table

-- the table after n pids were allocated and these pages checked out
abbrev pub drawn_and_taken : Mapping PageOfKind → ℕ → List ℕ → Mapping PageOfKind
drawn_and_taken t n taken = all_taken (with_rooms t (fresh_pids (pids_in_use t) n)) taken

-- the tree with that table
abbrev pub next_tree : TreeInMemory → ℕ → List ℕ → TreeInMemory
next_tree t n taken = record { table = drawn_and_taken t.table n taken; root = t.root; height = t.height }

-- ---- the changes of a level

-- the groups of a level under these parents that are rewritten, after the split, with the parents and the freed entries
pub record IsCut {V : Type 0} (s : Settings) (of : Page V → PageOfKind) (l : LevelPlan V) (ps : List (Placed ℕ)) (parents : List (ℕ × ℕ)) (freed : List Separators) (groups : List Remade) : Type 0 where
  pub counts : parents ≡ group_counts (changing_families ps l.updated)
  pub names : freed ≡ map freed_names (map (λ g. map (page_seen of) g) (changing_groups (changing_families ps l.updated)))
  pub pieces : groups ≡ map (cut_group s) (map (λ g. map (page_seen of) g) (changing_groups (changing_families ps l.updated)))

-- the groups and parents of a level after its changes, and the tree: pids for new pages were allocated, and the parents were checked out
pub record IsChanged {V : Type 0} (s : Settings) (of : Page V → PageOfKind) (before after : TreeInMemory) (l : LevelPlan V) (ps : List (Placed ℕ)) (remade : List Remade) (parents : List IndexUpdate) : Type 0 where
  pub groups : remade ≡ map (remade_of of) (changes s l.used l.from (changing_groups (changing_families ps l.updated)))
  pub made : parents_seen parents ≡ map (page_seen Index) (updated_parents s (parents_of (changing_families ps l.updated)) (map terms (changing_changes s l.used l.from (changing_families ps l.updated))))
  pub held : map {B = ℕ × PageOfKind} (λ d. (d.held.pid, d.held.page)) parents ≡ map {B = ℕ × PageOfKind} (λ p. (p.pid, Index p.page)) (parents_of (changing_families ps l.updated))
  pub tree : after ≡ next_tree before (length (fresh_of (changes s l.used l.from (changing_groups (changing_families ps l.updated))))) (parent_pids (changing_families ps l.updated))

-- the changes of the highest level, which is a group by itself, with the levels added above it: the root's pid, the number of levels, and the tree in
-- which pids for new pages were allocated and these levels were put into the table
pub record IsTopChanged {V : Type 0} (s : Settings) (of : Page V → PageOfKind) (before after : TreeInMemory) (l : LevelPlan V) (remade : List Remade) (pid levels : ℕ) : Type 0 where
  pub groups : remade ≡ map (remade_of of) (changes s l.used l.from (filter is_rewritten (l.updated ∷ [])))
  pub grown : AreGrown (next_tree before (length (fresh_of (changes s l.used l.from (filter is_rewritten (l.updated ∷ []))))) []) after (climb_of s l).tower.above
  pub root : pid ≡ top_pid (climb_of s l).tower.level (climb_of s l).tower.above
  pub height : levels ≡ before.height + length (climb_of s l).tower.above
