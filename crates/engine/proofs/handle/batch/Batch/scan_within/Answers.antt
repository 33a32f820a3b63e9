use Rattle.std.proofs.Common.{◌+◌, ◌-◌, ◌^◌, ◌≤◌, ℕ, min, ap, subst, ◌∙◌}
use Rattle.std.specs.Option.{option_copied}
use Rattle.engine.specs.Tokens.{most_rows}
use Rattle.engine.proofs.BatchRows.{in_budget}
use Rattle.engine.proofs.handle.batch.Batch.scan_within.Goals as goal

pub returns-clause-added : goal.returns-clause-added
returns-clause-added c =
    let most = 2 ^ 64 - 1 in
    let counted = c.self.invariant ∙ ap (λ cs. min (most_rows cs) most) c.self.view_is in
    let summed = c.saturating_add-rows.ensures ∙ ap (λ (n : ℕ). min (c.self.inside.rows + n) most) c.from.ensures in
    let fit = subst (λ (n : ℕ). c.saturating_add-rows.result ≤ n) c.from-2.ensures c.if-rows-from.false in (
      c.in_ok-token.ensures.added,
      in_budget c.args.self.now c.scan.new.self c.args.lo.now (option_copied c.args.hi) c.self.inside.rows c.args.limit c.saturating_add-rows.result c.args.budget counted summed fit c.ranges.budget.fits c.in_ok-token.ensures.added.1,
    )
