use Rattle.std.proofs.Common.{◌≡◌, ◌∙◌, [], reverse, IfOk, sym, subst}
use Rattle.delta_chain.specs.Layers.{AllRise}
use Rattle.delta_chain.specs.Merging.{overlaid, joined_changes}
use Rattle.delta_chain.proofs.Halves.{all_rise-none, all_rise-one, all_rise-halves, anyhow, rising-together, joined_changes-alone, joined_changes-halves}
use Rattle.delta_chain.proofs.merging.+merged.Goals as goal

pub returns-in_default-clause-rising : goal.returns-in_default-clause-rising
returns-in_default-clause-rising g t c = all_rise-none c.args.runs.now c.in_default.ensures.cases

pub returns-then-is_empty-clause-changes : goal.returns-then-is_empty-clause-changes
returns-then-is_empty-clause-changes g t c =
    let all = joined_changes-alone c.args.runs.now c.in-Some.others.now c.in-Some.newest.now c.in-Some.ensures.cases.0 (sym c.is_empty.ensures ∙ c.if-is_empty.true) c.lent_run.ensures.rising in
    subst (λ cs. IfOk c.lent_run.result (λ changes. changes ≡ cs)) all c.lent_run.ensures.changes

pub returns-then-is_empty-clause-rising : goal.returns-then-is_empty-clause-rising
returns-then-is_empty-clause-rising g t c =
    anyhow (AllRise (reverse c.args.runs.now) []) c.lent_run.result
    (all_rise-one c.args.runs.now c.in-Some.others.now c.in-Some.newest.now c.in-Some.ensures.cases.0 (sym c.is_empty.ensures ∙ c.if-is_empty.true) c.lent_run.ensures.rising)

pub overlaid-requires-clause-older : goal.overlaid-requires-clause-older
overlaid-requires-clause-older g t c = rw c.in_ok-under.ensures.changes (rising-together (reverse c.split_at.result.0.now) c.in_ok-under.ensures.rising)

pub overlaid-requires-clause-newer : goal.overlaid-requires-clause-newer
overlaid-requires-clause-newer g t c = rw c.in_ok-over.ensures.changes (rising-together (reverse c.split_at.result.1.now) c.in_ok-over.ensures.rising)

pub returns-clause-changes : goal.returns-clause-changes
returns-clause-changes g t c =
    let all : overlaid c.in_ok-under.under c.in_ok-over.over ≡ joined_changes (reverse c.args.runs.now) =
    rw (c.in_ok-under.ensures.changes, c.in_ok-over.ensures.changes) (joined_changes-halves c.args.runs.now c.split_at.result.0.now c.split_at.result.1.now c.split_at.ensures.by_index.0 c.in_ok-under.ensures.rising c.in_ok-over.ensures.rising) in
    subst (λ cs. IfOk c.overlaid.result (λ changes. changes ≡ cs)) all c.overlaid.ensures

pub returns-clause-rising : goal.returns-clause-rising
returns-clause-rising g t c =
    anyhow (AllRise (reverse c.args.runs.now) []) c.overlaid.result
    (all_rise-halves c.args.runs.now c.split_at.result.0.now c.split_at.result.1.now c.split_at.ensures.by_index.0 c.in_ok-under.ensures.rising c.in_ok-over.ensures.rising)
