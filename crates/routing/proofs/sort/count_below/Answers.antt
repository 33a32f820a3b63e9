use Rattle.std.proofs.Common.{◌≡◌, ◌+◌, ℕ, List, subst, sym, true, false, take, drop, rules, of_calls}
use Rattle.std.specs.List.{AllByRecursion, slice_range}
use Rattle.std.specs.List.Sorted.{IsPartitionedBy}
use Rattle.std.proofs.lemmas.List.Sorted.{IsPartitionPoint-from_clause}
use Rattle.routing.specs.Keyed.{has_key_below}
use Rattle.routing.proofs.SliceLemmas.{parted_part, cut_at}
use Rattle.routing.proofs.sort.count_below.Goals as goal

-- the entries before the count are below the key, and those after it are not
cut : (c : goal.After-partition_point) → (let n = c.bounds_of_count-low.result.0 + c.partition_point.result in
    AllByRecursion (λ entry. has_key_below c.args.key.now entry ≡ true) (take n c.args.keyed.now)
    × AllByRecursion (λ entry. has_key_below c.args.key.now entry ≡ false) (drop n c.args.keyed.now))
cut c =
    let es = c.args.keyed.now in
    let below = has_key_below c.new-bound.result in
    let parted : IsPartitionedBy below es = subst (λ (x : List ℕ). IsPartitionedBy (has_key_below x) es) (sym c.new-bound.ensures) c.requires in
    let low = c.bounds_of_count-low.result.0 in
    let high = c.bounds_of_count-low.result.1 in
    let bounds = c.bounds_of_count-low.ensures in
    let n = c.partition_point.result in
    let point = IsPartitionPoint-from_clause below (slice_range es low high) n c.partition_point.ensures.partitioned (parted_part below es low high parted bounds.most) (λ a r q k. search (rules, of_calls)) in
    subst (λ (x : List ℕ). AllByRecursion (λ entry. has_key_below x entry ≡ true) (take (low + n) es) × AllByRecursion (λ entry. has_key_below x entry ≡ false) (drop (low + n) es)) c.new-bound.ensures
    (cut_at below es low high n bounds.order bounds.most bounds.below bounds.others c.partition_point.ensures.bound point)

pub returns-clause-below : goal.returns-clause-below
returns-clause-below c = (cut c).0

pub returns-clause-others : goal.returns-clause-others
returns-clause-others c = (cut c).1
