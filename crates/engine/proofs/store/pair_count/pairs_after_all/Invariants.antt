use Rattle.std.proofs.Common.{◌≡◌, drop}
use Rattle.engine.specs.PairCount.{pairs_after_all}
use Rattle.engine.proofs.store.pair_count.pairs_after_all.Given as goal

-- the count after the remaining replies is the count after all
abbrev pub invariant-loop-reply : goal.invariant-loop-reply
invariant-loop-reply l = pairs_after_all l.pairs (drop l.reply-index l.replies) ≡ pairs_after_all l.fn.pairs l.replies
