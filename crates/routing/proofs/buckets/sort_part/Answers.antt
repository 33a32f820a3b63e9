use Rattle.std.proofs.Common.{◌-◌}
use Rattle.std.proofs.lemmas.List.Sorted.{IsPermutation-put_mid}
use Rattle.routing.proofs.buckets.sort_part.Goals as goal

pub returns-then-end-keyed-clause-permutation : goal.returns-then-end-keyed-clause-permutation
returns-then-end-keyed-clause-permutation c = IsPermutation-put_mid c.args.start (c.args.end - c.args.start) c.args.keyed.now c.sort_unstable.new.self c.sort_unstable.ensures.permutation
