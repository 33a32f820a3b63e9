use Rattle.std.proofs.Common.{◌≡◌, ◌≤◌, ◌-◌, ◌++◌, List, length, drop}
use Rattle.std.specs.declared.alloc.Global.{Global}
use Rattle.keys.specs.declared.command.Command.{Command}
use Rattle.routing.specs.Keyed.{places_of, AreKeyed}
use Rattle.routing.specs.Shares.{lent_shares, shares_below, ArePoints, CanHandDownKeyed, AreKeyedShares}
use Rattle.routing.proofs.descent.hand_down_points.Given as goal

-- what is below so far, and what the rest will be, is what there was, and what all places will be
abbrev pub invariant-loop-start : goal.invariant-loop-start
invariant-loop-start l = record {
  most : l.start ≤ length l.keyed;
  shares : (cs : List (Command Global)) → ArePoints cs (places_of l.keyed) → CanHandDownKeyed cs l.page l.keyed → lent_shares l.below.items ++ shares_below cs l.page (places_of (drop l.start l.keyed)) ≡ lent_shares l.initial.below.items ++ shares_below cs l.page (places_of l.keyed);
  keys : (cs : List (Command Global)) → AreKeyed cs l.keyed → AreKeyedShares cs l.initial.below.items → AreKeyedShares cs l.below.items;
}

abbrev pub decreases-loop-start : goal.decreases-loop-start
decreases-loop-start l = length l.keyed - l.start
