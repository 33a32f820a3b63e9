-- A store: its pages by pid, its root and height, and its log states.
use Rattle.std.specs.Prelude.{ℕ, List, [], ◌∷◌, Option, Some, None}
use Rattle.std.specs.Ordering.{nat_cmp, is_eq}
use Rattle.std.specs.Map.{lookup}
use Rattle.keys.specs.declared.version.Version.{Version}
use Rattle.index_page.specs.Page.{PageOfKind, bare}
use Rattle.index_page.specs.Page.PageOfKind.{Leaf}

-- the log state of a pid: the log contains no page; or a page that was replaced or freed since; or the base of the present page and its oldest k runs
pub data Logged : Type 0 where
  No : Logged
  Old : Logged
  Upto : ℕ → Logged

-- pages by rising pid; the root's pid; the number of levels; by rising pid the log states other than `No`
pub record Tree : Type 0 where
  pub pages : List (ℕ × PageOfKind)
  pub root : ℕ
  pub height : ℕ
  pub logged : List (ℕ × Logged)

-- the greatest number of levels of a tree
abbrev pub most_levels : ℕ
most_levels = 64

-- a tree; the first segment of its log; the position after the log's last frame; the number of the last flush or clean; and
-- the version of the log
pub record Store : Type 0 where
  pub tree : Tree
  pub head : ℕ
  pub tail : ℕ
  pub sequence : ℕ
  pub version : Version

-- the store with another tree; a batch does not change the log
abbrev pub with_tree : Store → Tree → Store
with_tree st tree = record { tree = tree; head = st.head; tail = st.tail; sequence = st.sequence; version = st.version }

-- the tree of a new store: one empty leaf, which the log contains
abbrev pub first_tree : Tree
first_tree = record { pages = (0, Leaf (bare [] [])) ∷ []; root = 0; height = 1; logged = (0, Upto 0) ∷ [] }

-- the entry under the pid
abbrev pub listed_at : {V : Type 0} → List (ℕ × V) → ℕ → Option V
listed_at es pid = lookup (λ n. is_eq (nat_cmp pid n)) es

-- the page under the pid
abbrev pub page_at : List (ℕ × PageOfKind) → ℕ → Option PageOfKind
page_at ps pid = listed_at ps pid

-- the listed log state, else `No`
abbrev pub or_no : Option Logged → Logged
or_no None = No
or_no (Some l) = l

-- the log state of the pid
abbrev pub logged_of : Tree → ℕ → Logged
logged_of t pid = or_no (listed_at t.logged pid)
