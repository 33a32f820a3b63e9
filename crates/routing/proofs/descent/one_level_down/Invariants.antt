use Rattle.std.proofs.Common.{◌≡◌, ◌++◌, flat_map, drop}
use Rattle.mapping.specs.TreeInMemory.{tree_of}
use Rattle.routing.specs.Shares.{lent_shares, share_below, AreKeyedShares}
use Rattle.routing.proofs.descent.one_level_down.Given as goal

-- what is below so far, and what the shares still to come become, is what all become
abbrev pub invariant-loop-share : goal.invariant-loop-share
invariant-loop-share l = record {
  shares : lent_shares l.below.items ++ flat_map (share_below (tree_of l.tree).pages l.batch) (lent_shares (drop l.share-index l.shares)) ≡ flat_map (share_below (tree_of l.tree).pages l.batch) (lent_shares l.shares);
  keys : AreKeyedShares l.batch l.below.items;
}
