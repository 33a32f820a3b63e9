-- Values that are moved out of joined leaves, in key order.
use Rattle.std.specs.Prelude.{◌≡◌, List, ◌++◌, map, Some, None}
use Rattle.std.specs.List.{AllByRecursion}
use Rattle.keys.specs.Bytes.{Bytes, Pairs}
use Rattle.keys.specs.Order.{IsRising}
use Rattle.delta_chain.specs.Layers.{Layers, holds, IsInOrder}
use Rattle.index_page.specs.Page.{PageOfKind, IsLeaf, leaf_of}
use Rattle.split_plan.specs.Pieces.{joined_pages}

-- the entries that are left in a chain and in the leaves after it: the chain holds the first of them, and none of the others, which the leaves have
pub record HasLeft (c : Layers Bytes) (leaves : List PageOfKind) (es : Pairs Bytes) : Type 0 where
  pub own : Pairs Bytes
  pub parted : es ≡ own ++ joined_pages (map leaf_of leaves)
  pub held : AllByRecursion (λ e. holds c e.0 ≡ Some e.1) own
  pub others : AllByRecursion (λ e. holds c e.0 ≡ None) (joined_pages (map leaf_of leaves))
  pub in_order : IsInOrder c
  pub are_leaves : AllByRecursion IsLeaf leaves
  pub rising : IsRising es
