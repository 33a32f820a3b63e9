use Rattle.std.proofs.Common.{ℕ, List, ◌-◌, ◌^◌, ◌∙◌, ap}
use Rattle.std.specs.Map.{keys_of}
use Rattle.page_search.specs.Places.{count_below}
use Rattle.scan.specs.Ends.{named_below}
use Rattle.scan.proofs.Enough.{one_list_more, last_list}
use Rattle.scan.proofs.ends.named_below.Goals as goal

pub loop-run-preserved : goal.loop-run-preserved
loop-run-preserved c =
    one_list_more (2 ^ 64 - 1) c.loop-run.named _ _ (named_below c.args.key.now c.args.chain.now) c.args.key.now c.loop-run.rest _ _
    c.in-Some.ensures c.place_from.ensures.place c.saturating_add-named.ensures c.loop-run.invariant

pub returns : goal.returns
returns c =
    last_list (2 ^ 64 - 1) c.loop-run.named _ _ (named_below c.args.key.now c.args.chain.now) c.args.key.now c.loop-run.rest
    c.in_default.ensures (c.place_from-2.ensures.place ∙ ap (λ (es : List (List ℕ × List ℕ)). count_below c.args.key.now (keys_of es)) c.base.ensures) c.saturating_add.ensures c.loop-run.invariant
