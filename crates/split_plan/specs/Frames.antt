-- New pages whose values are moved into them later: what is known of them before.
use Rattle.std.specs.Prelude.{ℕ, Bool, true, false, List, [], ◌∷◌}
use Rattle.std.specs.Map.{keys_of}
use Rattle.keys.specs.Bytes.{Bytes, Changes}
use Rattle.index_page.specs.InMemory.{InMemory}
use Rattle.index_page.specs.InMemory.InMemory.{LeafInMemory, IndexInMemory}
use Rattle.index_page.specs.Page.{Page, PageOfKind}
use Rattle.index_page.specs.Page.PageOfKind.{Leaf, Index}

-- a page without the values of a leaf's base: the low key, the runs and the base's keys of a leaf, or an index page
pub data Frame : Type 0 where
  LeafFrame : Bytes → List (Changes Bytes) → List Bytes → Frame
  IndexFrame : Page ℕ → Frame

abbrev pub frame_of : PageOfKind → Frame
frame_of (Leaf p) = LeafFrame p.low p.layers.runs (keys_of p.layers.base)
frame_of (Index p) = IndexFrame p

-- the same of a page in memory
abbrev pub frame_in : InMemory → Frame
frame_in (LeafInMemory low lazy) = LeafFrame low lazy.chain.runs (keys_of lazy.chain.base)
frame_in (IndexInMemory low chain) = IndexFrame (record { low = low; layers = chain })

-- whether the first of these pages is a leaf
abbrev pub begins_with_leaf : List PageOfKind → Bool
begins_with_leaf [] = false
begins_with_leaf (Leaf p ∷ ps) = true
begins_with_leaf (Index p ∷ ps) = false
