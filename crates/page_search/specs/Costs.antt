-- How many comparisons a search takes at most and at least.
use Rattle.std.specs.Prelude.{ℕ, ◌+◌, ◌*◌, ◌/◌, Bool, List, [], ◌∷◌, length, sum_by, Option, is_some, if◌then◌else◌}
use Rattle.std.specs.List.{list_any}
use Rattle.std.specs.Ordering.{is_eq}
use Rattle.keys.specs.Bytes.{Bytes, Pairs, Changes}
use Rattle.keys.specs.Order.{order}
use Rattle.keys.specs.OrderedMap.{value_at}
use Rattle.delta_chain.specs.Layers.{Layers, entries_of}
use Rattle.delta_chain.specs.Merging.{joined_changes}
use Rattle.page_search.specs.Above.{above}
use Rattle.page_search.specs.Digits.{binary_digits}
use Rattle.page_search.specs.Floor.{floor}
use Rattle.page_search.specs.Nearest.{count_passed}
use Rattle.page_search.specs.declared.side.Side.{Side}
use Rattle.page_search.specs.declared.side.Side.TheVariants.{UpTo, Above}

-- the most comparisons among n keys: the number of binary digits of n, whether the key is found or not
abbrev pub most_among : Bool → ℕ → ℕ
most_among is_there n = binary_digits n

-- the fewest comparisons: one if the key is found, else enough to distinguish the n + 1 places where it could be inserted
abbrev pub fewest_among : Bool → ℕ → ℕ
fewest_among is_there n = if is_there then 1 else binary_digits ((n + 1) / 2)

-- the comparisons in the lists up to and including the first run that contains the key, or in all lists, where the given function is the cost of one
-- list
abbrev pub cost_under : {V : Type 0} → (Bool → ℕ → ℕ) → Bytes → List (Changes V) → Pairs V → ℕ
cost_under cost k [] base = cost (is_some (value_at k base)) (length base)
cost_under cost k (run ∷ runs) base = cost (is_some (value_at k run)) (length run) + (if is_some (value_at k run) then 0 else cost_under cost k runs base)

-- the most comparisons of a search for the key in the page
abbrev pub find_cost : {V : Type 0} → Bytes → Layers V → ℕ
find_cost k p = cost_under most_among k p.runs p.base

-- the fewest comparisons of a search for the key in the page
abbrev pub find_least : {V : Type 0} → Bytes → Layers V → ℕ
find_least k p = cost_under fewest_among k p.runs p.base

-- whether the key is in the list
abbrev pub is_key_among : Bytes → List Bytes → Bool
is_key_among k ks = list_any (λ j. is_eq (order k j)) ks

-- the fewest comparisons of a search among these entries
abbrev pub fewest_in : {V : Type 0} → Bytes → Pairs V → ℕ
fewest_in k es = fewest_among (is_some (value_at k es)) (length es)

-- the most comparisons of one pass: a search in each run and in the base, and for each run one comparison of its nearest key with the nearest one
-- below
abbrev pub walk_most : {V : Type 0} → Layers V → ℕ
walk_most p = sum_by (λ run. binary_digits (length run) + 1) p.runs + binary_digits (length p.base)

-- the fewest comparisons of one pass: a search for the key in each run and in the base
abbrev pub walk_least : {V : Type 0} → Bytes → Layers V → ℕ
walk_least k p = sum_by (λ run. fewest_in k run) p.runs + fewest_in k p.base

-- the most comparisons of a search on this side of k that ends at this entry, or at none: one pass, and one more for each deleted key that it passes
abbrev pub nearest_most : {V : Type 0} → Side → Bytes → Option (Bytes × V) → Layers V → ℕ
nearest_most s k x p = (1 + count_passed s k x (joined_changes p.runs)) * walk_most p

-- the most comparisons of a search for the page's last entry whose key isn't above k
abbrev pub floor_most : {V : Type 0} → Bytes → Layers V → ℕ
floor_most k p = nearest_most UpTo k (floor k (entries_of p)) p

-- the most comparisons of a search for the page's first entry whose key is above k
abbrev pub above_most : {V : Type 0} → Bytes → Layers V → ℕ
above_most k p = nearest_most Above k (above k (entries_of p)) p
