use Rattle.std.proofs.Common.{take}
use Rattle.routing.specs.Shares.{lent_shares, AreInBatchOrder}
use Rattle.routing.proofs.descent.each_run.Given as goal

-- the runs so far are the shares so far, each in the order of the batch
abbrev pub invariant-loop-share : goal.invariant-loop-share
invariant-loop-share l = AreInBatchOrder (lent_shares (take l.share-index l.shares)) l.runs.items
