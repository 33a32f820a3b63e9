use Rattle.std.proofs.Common.{sym}
use Rattle.std.specs.Option.{option_copied}
use Rattle.index_page.specs.Rules.{is_short_change}
use Rattle.verify.proofs.ChainLemmas.{pairs_next, pairs_fail, both_fail}
use Rattle.verify.proofs.chain_tests.fits_run.Goals as goal

pub returns-then-not-is_short_entry : goal.returns-then-not-is_short_entry
returns-then-not-is_short_entry g c =
    both_fail _ _ (pairs_fail (is_short_change c.args.settings.now (g.V.CellSize.is_short c.args.settings.now)) c.args.run.now c.loop-at.at c.key.result.now (option_copied c.change.result) _ c.key.ensures c.change.ensures (sym c.if-not-is_short_entry.ensures) c.loop-at.invariant)

pub loop-at-preserved : goal.loop-at-preserved
loop-at-preserved g c =
    pairs_next (is_short_change c.args.settings.now (g.V.CellSize.is_short c.args.settings.now)) c.args.run.now c.loop-at.at c.key.result.now (option_copied c.change.result) _ c.key.ensures c.change.ensures (sym c.if-not-is_short_entry.ensures) c.loop-at.invariant
