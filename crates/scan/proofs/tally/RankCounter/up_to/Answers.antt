use Rattle.std.specs.Prelude.{not}
use Rattle.std.proofs.Common.{ap, ◌∙◌}
use Rattle.keys.specs.Range.{is_below}
use Rattle.scan.specs.RankCounter.{RankCounter}
use Rattle.scan.proofs.Counting.{tally_passing, passes_up_to}
use Rattle.scan.proofs.tally.RankCounter.up_to.Goals as goal

pub returns : goal.returns
returns c = λ came.
    tally_passing (λ k. not (is_below c.args.key.now k)) came c.args.self.now c.deref-2.result.now c.deref.result.now c.place_after.result c.count_before.result (passes_up_to c.args.key.now)
    (c.deref-2.ensures.value ∙ ap (λ (t : RankCounter). t.0) c.self.view_is) (c.deref.ensures.value ∙ ap (λ (t : RankCounter). t.1) c.self.view_is) c.place_after.ensures c.count_before.ensures
