use Rattle.std.proofs.Common.{sym}
use Rattle.index_page.specs.Rules.{is_short_change}
use Rattle.verify.proofs.ChainLemmas.{base_next, base_fails, both_fail}
use Rattle.verify.proofs.chain_tests.fits_base.Goals as goal

pub returns-then-not-is_short_entry : goal.returns-then-not-is_short_entry
returns-then-not-is_short_entry g c =
    both_fail _ _ (base_fails (is_short_change c.args.settings.now (g.V.CellSize.is_short c.args.settings.now)) (g.B.BaseList.entries c.args.base.now) c.loop-at.at c.key_at.result.now c.cell_at.result.now _ c.key_at.ensures c.cell_at.ensures (sym c.if-not-is_short_entry.ensures) c.loop-at.invariant)

pub loop-at-preserved : goal.loop-at-preserved
loop-at-preserved g c =
    base_next (is_short_change c.args.settings.now (g.V.CellSize.is_short c.args.settings.now)) (g.B.BaseList.entries c.args.base.now) c.loop-at.at c.key_at.result.now c.cell_at.result.now _ c.key_at.ensures c.cell_at.ensures (sym c.if-not-is_short_entry.ensures) c.loop-at.invariant
