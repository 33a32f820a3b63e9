use Rattle.std.specs.Prelude.{not}
use Rattle.std.proofs.Common.{sym, rules, of_calls}
use Rattle.std.specs.List.Sorted.{IsPartitionedBy}
use Rattle.std.proofs.lemmas.List.Sorted.{IsPartitionPoint-from_clause}
use Rattle.keys.specs.Range.{is_below}
use Rattle.scan.proofs.Counting.{parted_keys, passes_up_to}
use Rattle.scan.proofs.Enough.{parted_point}
use Rattle.scan.proofs.tally.place_after.Goals as goal

pub returns : goal.returns
returns c = λ sorted.
    let keys = c.args.keys.now in
    let key = c.args.key.now in
    let parted : IsPartitionedBy (λ k. not (is_below key k)) keys = parted_keys (λ k. not (is_below key k)) keys (passes_up_to key) sorted in
    sym (parted_point (λ k. not (is_below key k)) c.partition_point.result keys c.partition_point.ensures.bound (IsPartitionPoint-from_clause (λ k. not (is_below key k)) keys c.partition_point.result c.partition_point.ensures.partitioned parted (λ a r q k. search (rules, of_calls))))
