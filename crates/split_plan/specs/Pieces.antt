-- The new pages of a group, without pids.
use Rattle.std.specs.Prelude.{ℕ, zero, suc, List, [], ◌∷◌, map, flat_map}
use Rattle.std.specs.Borrow.{Bor}
use Rattle.std.specs.List.{AllByRecursion}
use Rattle.keys.specs.Bytes.{Bytes, Pairs}
use Rattle.keys.specs.Order.{IsRising}
use Rattle.keys.specs.declared.settings.Settings.{Settings}
use Rattle.index_page.specs.InMemory.{InMemory, page_shown}
use Rattle.index_page.specs.Page.{Page, PageOfKind, bare, first_key, entries, IsLeaf, IsIndex, leaf_of, index_of}
use Rattle.index_page.specs.Page.PageOfKind.{Leaf, Index}
use Rattle.split_plan.specs.Cut.{cut}

-- the pages of these pieces: the first one has this low key, each other one its own first key
abbrev pub pages_from : {V : Type 0} → Bytes → List (Pairs V) → List (Page V)
pages_from low [] = []
pages_from low (b ∷ bs) = bare low b ∷ map (λ c. bare (first_key c) c) bs

-- the low key of the piece at a place: this one for the first piece, else its own first key
abbrev pub low_at : {V : Type 0} → Bytes → ℕ → Pairs V → Bytes
low_at low zero b = low
low_at low (suc i) b = first_key b

-- the concatenated entries of pages
abbrev pub joined_pages : {V : Type 0} → List (Page V) → Pairs V
joined_pages ps = flat_map entries ps

-- the new pages of a group: its members' entries joined and split, the first page at the first member's low key
abbrev pub pages_made : {V : Type 0} → Settings → List (Page V) → List (Page V)
pages_made s [] = []
pages_made s (p ∷ ps) = pages_from p.low (cut s.fan (joined_pages (p ∷ ps)))

-- the same for pages of either kind, all of one kind
abbrev pub group_made : Settings → List PageOfKind → List PageOfKind
group_made s [] = []
group_made s (Leaf p ∷ ms) = map Leaf (pages_made s (map leaf_of (Leaf p ∷ ms)))
group_made s (Index p ∷ ms) = map Index (pages_made s (map index_of (Index p ∷ ms)))

-- the members can be joined: they are of one kind, and their entries rise
abbrev pub CanJoin : List PageOfKind → Type 0
CanJoin [] = ⊥
CanJoin (Leaf p ∷ ms) = AllByRecursion IsLeaf ms × IsRising (joined_pages (map leaf_of (Leaf p ∷ ms)))
CanJoin (Index p ∷ ms) = AllByRecursion IsIndex ms × IsRising (joined_pages (map index_of (Index p ∷ ms)))

-- the pages that references denote, in their representation in memory
abbrev pub pages_lent : List (Bor InMemory) → List PageOfKind
pages_lent lent = map (λ page. page_shown page.now) lent

-- the members of a group, and the pages that replace them
pub record GroupRemade : Type 0 where
  pub held : List PageOfKind
  pub made : List PageOfKind
