use Rattle.std.proofs.Common.{◌-◌, ◌+◌, ◌/◌, min, ◌≤◌, length, ℕ, List}
use Rattle.page_search.specs.Digits.{binary_digits}
use Rattle.page_search.specs.Places.{AreBelowBefore, AreAboveFrom}
use Rattle.page_search.proofs.search.place.Given as goal

-- The search continues in low..high: the key is above the keys before low and below the keys from high on.
abbrev pub invariant-loop-low : goal.invariant-loop-low
invariant-loop-low g l =
    let keys : List (List ℕ) = g.L.KeyList.keys l.list in
    record {
      ordered : l.low ≤ l.high;
      within : l.high ≤ length keys;
      below : AreBelowBefore l.key keys l.low;
      above : AreAboveFrom l.key keys l.high;
      cost : l.probes + binary_digits (l.high - l.low) ≤ l.fn.probes + binary_digits (length keys);
      least : min (l.fn.probes + binary_digits ((length keys + 1) / 2)) 18446744073709551615 ≤ l.probes + binary_digits ((l.high - l.low + 1) / 2);
      kept : l.fn.probes ≤ l.probes;
    }

abbrev pub decreases-loop-low : goal.decreases-loop-low
decreases-loop-low g l = l.high - l.low
