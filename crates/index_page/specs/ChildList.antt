-- The list of the children of an index page, and the place of a key in it.
use Rattle.std.specs.Prelude.{◌≡◌, ℕ, ◌+◌, ◌≤◌, [], length, slice_get, Option, Some, None}
use Rattle.keys.specs.Bytes.{Bytes, Separators}
use Rattle.delta_chain.specs.Layers.{Layers, entries_of}
use Rattle.page_search.specs.Above.{above}
use Rattle.page_search.specs.Floor.{floor}

-- the list is that of the page's entries; a page without runs has none, because its base is that list
abbrev pub IsListOf : Layers ℕ → Option Separators → Type 0
IsListOf p None = p.runs ≡ []
IsListOf p (Some es) = es ≡ entries_of p

-- the first n entries have keys that aren't above k: the last of them is the last such entry, and the next entry is the first whose key is above k
pub record IsCountUpTo (k : Bytes) (es : Separators) (n : ℕ) : Type 0 where
  pub within : n ≤ length es
  pub none : n ≡ 0 → floor k es ≡ None
  pub last : (at : ℕ) → at + 1 ≡ n → floor k es ≡ slice_get es at
  pub next : above k es ≡ slice_get es n
