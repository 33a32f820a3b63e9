-- The descent of a key from the root down the levels of a tree.
use Rattle.std.specs.Prelude.{◌≡◌, ℕ, zero, suc, true, ⊤, List, [], ◌∷◌, map, Option, Some, None}
use Rattle.std.specs.List.{filter}
use Rattle.keys.specs.Bytes.{Bytes, Separators}
use Rattle.keys.specs.OrderedMap.{value_at}
use Rattle.delta_chain.specs.Layers.{entries_of}
use Rattle.index_page.specs.Page.{Page, PageOfKind}
use Rattle.index_page.specs.Page.PageOfKind.{Leaf}
use Rattle.index_page.specs.Range.{is_before}
use Rattle.index_page.specs.Children.{children, child_entries, is_place_for, HasChildFor}
use Rattle.mapping.specs.Levels.{contents}
use Rattle.mapping.specs.Tree.{Tree, page_at}

-- the pids of those pages whose range contains the key, by the separators of a level
abbrev pub pids_for : Bytes → Separators → List ℕ
pids_for k ns = map (λ at. at.pid) (filter (is_place_for k) (children ns None))

-- of the page's children, the one whose range contains the key has this pid, if the page's own range ends after the key
abbrev pub IsChildFor : Bytes → PageOfKind → ℕ → Type 0
IsChildFor k page pid = (end : Option Bytes) → is_before end k ≡ true → map (λ at. at.pid) (filter (is_place_for k) (children (child_entries page) end)) ≡ pid ∷ []

-- from the page with this pid, a descent for the key finds an index page with a child for the key, n times
abbrev pub HasWay : (ℕ → Option PageOfKind) → Bytes → ℕ → ℕ → Type 0
HasWay at k zero pid = ⊤
HasWay at k (suc n) pid = (page : PageOfKind) × (at pid ≡ Some page) × HasChildFor page k × ((child : ℕ) → IsChildFor k page child → HasWay at k n child)

-- that descent ends at this pid
abbrev pub LeadsTo : (ℕ → Option PageOfKind) → Bytes → ℕ → ℕ → ℕ → Type 0
LeadsTo at k zero pid to = pid ≡ to
LeadsTo at k (suc n) pid to = (page : PageOfKind) × (at pid ≡ Some page) × (child : ℕ) × IsChildFor k page child × LeadsTo at k n child to

-- under the pid is a leaf, which has at the key what the tree has there
pub record IsLeafFor (t : Tree) (k : Bytes) (pid : ℕ) : Type 0 where
  pub page : Page Bytes
  pub home : page_at t.pages pid ≡ Some (Leaf page)
  pub value : value_at k (entries_of page.layers) ≡ value_at k (contents t)
