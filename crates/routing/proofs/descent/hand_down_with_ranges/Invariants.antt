use Rattle.std.proofs.Common.{◌≡◌, ◌≤◌, ◌++◌, None, length, drop}
use Rattle.index_page.specs.Children.{children, child_entries}
use Rattle.routing.specs.Keyed.{places_of}
use Rattle.routing.specs.Shares.{share_of_lent, all_of, lent_shares, shares, shares_below, AreKeyedShares}
use Rattle.routing.proofs.WalkLemmas.{from_low, IsAt}
use Rattle.routing.proofs.descent.hand_down_with_ranges.Given as goal

-- what is below so far, and what the children from here on will get, is what there was, and what all children will get
abbrev pub invariant-loop-key : goal.invariant-loop-key
invariant-loop-key l = record {
  most : l.start ≤ length l.keyed;
  at : IsAt l.batch (child_entries l.page) l.low l.reaching.items (places_of (drop l.start l.keyed));
  shares : lent_shares l.below.items ++ shares l.batch (l.reaching.items ++ places_of (drop l.start l.keyed)) (children (from_low l.low (child_entries l.page)) None) ≡ lent_shares l.initial.below.items ++ shares_below l.batch l.page (all_of (share_of_lent l.share));
  keys : AreKeyedShares l.batch l.initial.below.items → AreKeyedShares l.batch l.below.items;
}

-- each step leaves fewer children
abbrev pub decreases-loop-key : goal.decreases-loop-key
decreases-loop-key l = length (from_low l.low (child_entries l.page))
