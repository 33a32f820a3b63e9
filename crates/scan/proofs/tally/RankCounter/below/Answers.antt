use Rattle.std.proofs.Common.{ap, ◌∙◌}
use Rattle.keys.specs.Range.{is_below}
use Rattle.scan.specs.RankCounter.{RankCounter}
use Rattle.scan.proofs.Counting.{tally_passing, passes_below}
use Rattle.scan.proofs.tally.RankCounter.below.Goals as goal

pub returns : goal.returns
returns c = λ came.
    tally_passing (λ k. is_below k c.args.key.now) came c.args.self.now c.deref-2.result.now c.deref.result.now c.place_below.result c.count_before.result (passes_below c.args.key.now)
    (c.deref-2.ensures.value ∙ ap (λ (t : RankCounter). t.0) c.self.view_is) (c.deref.ensures.value ∙ ap (λ (t : RankCounter). t.1) c.self.view_is) c.place_below.ensures c.count_before.ensures
