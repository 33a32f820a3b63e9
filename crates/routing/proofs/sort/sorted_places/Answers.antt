use Rattle.std.proofs.Common.{◌≡◌, ◌++◌, length, take, drop, ap, ◌∙◌, arith}
use Rattle.std.specs.List.Sorted.{IsPermutation}
use Rattle.std.proofs.lemmas.List.{take_at}
use Rattle.routing.specs.Keyed.{Keyed}
use Rattle.routing.specs.Places.{places_below}
use Rattle.routing.proofs.SortLemmas.{places_of_sorted, keyed_sorted}
use Rattle.routing.proofs.sort.sorted_places.Given as given
use Rattle.routing.proofs.sort.sorted_places.Goals as goal

-- the result is the sorted list, which is a permutation of the list before
sorted : (g : given.Over) (c : goal.After-keyed-3-1 g) → (let was = c.in_ok-keyed.keyed.items in let new = c.sort_keyed.new.keyed in IsPermutation was new × (take c.in_ok-keyed.keyed.len (new ++ drop (length new) was) ≡ new))
sorted g c =
    let many : length c.sort_keyed.new.keyed ≡ c.in_ok-keyed.keyed.len = omega arith in
    (rw c.deref_mut.ensures.value at c.sort_keyed.ensures.permutation, take_at c.sort_keyed.new.keyed _ c.in_ok-keyed.keyed.len many)

pub returns-clause-sorted : goal.returns-clause-sorted
returns-clause-sorted g c =
    let s = sorted g c in
    rw s.1 (places_of_sorted c.args.batch.now (λ (entry : Keyed). entry.0) (λ (entry : Keyed). entry.1) c.in_ok-keyed.keyed.items c.sort_keyed.new.keyed (c.in_ok-keyed.ensures.places ∙ ap places_below c.len.ensures) c.in_ok-keyed.ensures.keys s.0 c.sort_keyed.ensures.sorted)

pub returns-clause-keys : goal.returns-clause-keys
returns-clause-keys g c =
    let s = sorted g c in
    rw s.1 (keyed_sorted c.args.batch.now (λ (entry : Keyed). entry.0) (λ (entry : Keyed). entry.1) c.in_ok-keyed.keyed.items c.sort_keyed.new.keyed c.in_ok-keyed.ensures.keys s.0)
