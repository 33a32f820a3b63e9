-- When a page is an older one with newer runs in front.
use Rattle.std.specs.Prelude.{◌≡◌, List, ◌++◌}
use Rattle.keys.specs.Bytes.{Changes}
use Rattle.index_page.specs.Page.{Page, PageOfKind}
use Rattle.index_page.specs.Page.PageOfKind.{Leaf, Index}

-- a page has the low key and the base of another, and its runs with newer ones in front
pub record IsOver {V : Type 0} (older now : Page V) : Type 0 where
  pub low : now.low ≡ older.low
  pub base : now.layers.base ≡ older.layers.base
  pub runs : (newer : List (Changes V)) × (now.layers.runs ≡ newer ++ older.layers.runs)

-- both pages are of one kind, and the new page is the old one with runs in front
abbrev pub IsPageOver : PageOfKind → PageOfKind → Type 0
IsPageOver (Leaf older) (Leaf now) = IsOver older now
IsPageOver (Index older) (Index now) = IsOver older now
IsPageOver _ _ = ⊥
