use Rattle.std.proofs.Common.{◌≡◌, ℕ, ◌+◌, ◌-◌, ◌/◌, ◌<◌, ◌≤◌, List, [], length, slice_get, slice_index_or, Some, sym, ap, ◌∙◌, arith}
use Rattle.std.proofs.lemmas.Option.{slice_get-get_or}
use Rattle.keys.proofs.MapLemmas.{same_key, flipped_greater}
use Rattle.page_search.specs.Digits.{binary_digits}
use Rattle.page_search.proofs.DigitLemmas.{binary_digits-zero, binary_digits-half, binary_digits-twice}
use Rattle.page_search.proofs.PlaceLemmas.{below-through, above-onward}
use Rattle.page_search.proofs.search.place.Goals as goal

-- what is left after the middle, and what is left before it, has a digit less
digits_after : (low high : ℕ) → low < high → binary_digits (high - (low + (high - low) / 2 + 1)) + 1 ≤ binary_digits (high - low)
digits_after low high l = binary_digits-half (high - (low + (high - low) / 2 + 1)) (high - low) (omega arith) (omega arith)

digits_before : (low high : ℕ) → low < high → binary_digits (low + (high - low) / 2 - low) + 1 ≤ binary_digits (high - low)
digits_before low high l = binary_digits-half (low + (high - low) / 2 - low) (high - low) (omega arith) (omega arith)

-- the places where the key would go, after the middle and before it, have a digit less and no fewer
gaps_after : (low high : ℕ) → low < high → binary_digits ((high - low + 1) / 2) ≤ binary_digits ((high - (low + (high - low) / 2 + 1) + 1) / 2) + 1
gaps_after low high l = binary_digits-twice ((high - (low + (high - low) / 2 + 1) + 1) / 2) ((high - low + 1) / 2) (omega arith)

gaps_before : (low high : ℕ) → low < high → binary_digits ((high - low + 1) / 2) ≤ binary_digits ((low + (high - low) / 2 - low + 1) / 2) + 1
gaps_before low high l = binary_digits-twice ((low + (high - low) / 2 - low + 1) / 2) ((high - low + 1) / 2) (omega arith)

-- there is a key in the middle
some_key : (ks : List (List ℕ)) (low high : ℕ) → low < high → high ≤ length ks → slice_get ks (low + (high - low) / 2) ≡ Some (slice_index_or ks (low + (high - low) / 2) [])
some_key ks low high l w = slice_get-get_or ks (low + (high - low) / 2) [] (omega arith)

pub loop-low-preserved-in-Less : goal.loop-low-preserved-in-Less
loop-low-preserved-in-Less g c =
    let there = some_key (g.L.KeyList.keys c.args.list.now) c.loop-low.low c.loop-low.high c.loop-low-test.true c.loop-low.invariant.within in
    record {
      ordered = omega arith;
      within = c.loop-low.invariant.within;
      below = below-through _ _ _ _ c.len-high.ensures.rising there (sym (c.in-Less.ensures.order _ there));
      above = c.loop-low.invariant.above;
      cost = omega (arith, c.compare_at.ensures.counted, digits_after c.loop-low.low c.loop-low.high c.loop-low-test.true);
      least = omega (arith, c.compare_at.ensures.counted, gaps_after c.loop-low.low c.loop-low.high c.loop-low-test.true);
      kept = omega (arith, c.compare_at.ensures.kept);
    }

pub returns-in-Equal-clause-place : goal.returns-in-Equal-clause-place
returns-in-Equal-clause-place g c =
    let there = some_key (g.L.KeyList.keys c.args.list.now) c.loop-low.low c.loop-low.high c.loop-low-test.true c.loop-low.invariant.within in
    there ∙ ap Some (same_key _ _ (sym (c.in-Equal.ensures.order _ there)) ∙ c.new-key.ensures)

pub returns-in-Equal-clause-cost : goal.returns-in-Equal-clause-cost
returns-in-Equal-clause-cost g c =
    omega (arith, c.compare_at.ensures.counted, digits_before c.loop-low.low c.loop-low.high c.loop-low-test.true)

pub loop-low-preserved : goal.loop-low-preserved
loop-low-preserved g c =
    let keys : List (List ℕ) = g.L.KeyList.keys c.args.list.now in
    let middle = c.loop-low.low + (c.loop-low.high - c.loop-low.low) / 2 in
    let there = some_key keys c.loop-low.low c.loop-low.high c.loop-low-test.true c.loop-low.invariant.within in
    record {
      ordered = omega arith;
      within = omega arith;
      below = c.loop-low.invariant.below;
      above = above-onward _ _ _ _ c.len-high.ensures.rising there (flipped_greater (slice_index_or keys middle []) c.new-key.result (sym (c.in-Greater.ensures.order _ there)));
      cost = omega (arith, c.compare_at.ensures.counted, digits_before c.loop-low.low c.loop-low.high c.loop-low-test.true);
      least = omega (arith, c.compare_at.ensures.counted, gaps_before c.loop-low.low c.loop-low.high c.loop-low-test.true);
      kept = omega (arith, c.compare_at.ensures.kept);
    }

pub returns-clause-least : goal.returns-clause-least
returns-clause-least g c =
    let settled : c.loop-low.high - c.loop-low.low ≡ 0 = omega arith in
    let least = rw settled at c.loop-low.invariant.least in
    omega (arith, binary_digits-zero)
