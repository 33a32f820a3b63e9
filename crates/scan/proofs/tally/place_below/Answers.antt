use Rattle.std.proofs.Common.{sym, rules, of_calls}
use Rattle.std.specs.List.Sorted.{IsPartitionedBy}
use Rattle.std.proofs.lemmas.List.Sorted.{IsPartitionPoint-from_clause}
use Rattle.keys.specs.Range.{is_below}
use Rattle.scan.proofs.Counting.{parted_keys, passes_below}
use Rattle.scan.proofs.Enough.{parted_point}
use Rattle.scan.proofs.tally.place_below.Goals as goal

pub returns : goal.returns
returns c = λ sorted.
    let keys = c.args.keys.now in
    let key = c.args.key.now in
    let parted : IsPartitionedBy (λ k. is_below k key) keys = parted_keys (λ k. is_below k key) keys (passes_below key) sorted in
    sym (parted_point (λ k. is_below k key) c.partition_point.result keys c.partition_point.ensures.bound (IsPartitionPoint-from_clause (λ k. is_below k key) keys c.partition_point.result c.partition_point.ensures.partitioned parted (λ a r q k. search (rules, of_calls))))
