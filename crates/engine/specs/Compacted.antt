-- The effect of compaction on a tree and on a store, and the tables of the intermediate steps.
use Rattle.std.specs.Prelude.{◌≡◌, ◌⊎◌, ℕ, Bool, IsTrue, true, false, if◌then◌else◌, List, [], Some, None}
use Rattle.std.specs.Map.{keys_of}
use Rattle.std.specs.declared.alloc.Global.{Global}
use Rattle.keys.specs.declared.command.Command.{Command}
use Rattle.keys.specs.declared.fault.Fault.{Fault}
use Rattle.keys.specs.declared.settings.Settings.{Settings}
use Rattle.index_page.specs.Page.{PageOfKind, bare}
use Rattle.index_page.specs.Page.PageOfKind.{Leaf}
use Rattle.mapping.specs.FreshPids.{is_among}
use Rattle.mapping.specs.Flushed.{depth_counted}
use Rattle.mapping.specs.Levels.{contents}
use Rattle.mapping.specs.Outdate.{outdate_all}
use Rattle.mapping.specs.Table.{Mapping, place_of}
use Rattle.mapping.specs.Tree.{Logged, Store, Tree, first_tree, listed_at, with_tree}
use Rattle.mapping.specs.Tree.Logged.{No, Old, Upto}
use Rattle.climb_plan.specs.Plan.{planned_tree}
use Rattle.engine.specs.Batch.{IsLaterFault}
use Rattle.engine.specs.Copies.{puts_of}
use Rattle.engine.specs.Room.{is_bloated, is_two_thirds_full}
use Rattle.engine.specs.State.{State}

-- ---- a compacted store

-- the tree of a new store, with the log state `Old` for each pid of which the log had anything
abbrev pub outdated_tree : Tree → Tree
outdated_tree t = record { pages = first_tree.pages; root = first_tree.root; height = first_tree.height; logged = outdate_all (keys_of t.logged) t.logged }

-- puts of all pairs of a tree
abbrev pub all_puts : Tree → List (Command Global)
all_puts t = puts_of (contents t)

-- the tree of a batch of these puts on an empty tree
abbrev pub compacted : Settings → Tree → Tree
compacted s t = planned_tree s (outdated_tree t) (all_puts t)

-- a store has the contents of another one, and its tree is the compacted tree of that store
pub record IsCompacted (s : Settings) (old now : Store) : Type 0 where
  pub holds : contents now.tree ≡ contents old.tree
  pub planned : now ≡ with_tree old (compacted s old.tree)

-- nothing changed; or the log was two thirds full, the tree was bloated, and the store was compacted
abbrev pub IsCompactedIfBloated : {D : Type 0} → State D → State D → Type 0
IsCompactedIfBloated old new =
    (new ≡ old) ⊎ (IsTrue (is_two_thirds_full old.settings old.store) × IsTrue (is_bloated old.settings old.store.tree) × IsCompacted old.settings old.store new.store)

-- why a store is not compacted: out of memory, or the compacted tree would have too many levels
abbrev pub IsCompactFault : Settings → Tree → Fault → Type 0
IsCompactFault s t fault = IsLaterFault s (outdated_tree t) (all_puts t) fault

-- ---- the tables on the way to the outdated tree

-- the log contains a page with this page id
abbrev pub is_logged : Logged → Bool
is_logged No = false
is_logged Old = true
is_logged (Upto k) = true

-- an empty leaf
abbrev pub no_pairs : PageOfKind
no_pairs = Leaf (bare [] [])

-- a table has an empty leaf under each of these page ids, and no other place
abbrev pub HasLeavesAt : List ℕ → Mapping PageOfKind → Type 0
HasLeavesAt pids t = (q : ℕ) → place_of t q ≡ (if is_among q pids then Some (Some no_pairs) else None)

-- a table with such leaves, all of which the log had, after the leaves of some page ids were freed
pub record AreFreed (pids gone : List ℕ) (t : Mapping PageOfKind) : Type 0 where
  pub place : (q : ℕ) → place_of t q ≡ (if is_among q gone then None else if is_among q pids then Some (Some no_pairs) else None)
  pub logged : (q : ℕ) → listed_at t.logged q ≡ (if is_among q pids then Some (if is_among q gone then Old else Upto (depth_counted no_pairs)) else None)
