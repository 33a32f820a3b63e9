use Rattle.std.proofs.Common.{nat_le, length}
use Rattle.std.specs.List.{list_all}
use Rattle.index_page.specs.Page.{as_changes}
use Rattle.index_page.specs.Rules.{is_short_change}
use Rattle.verify.proofs.PageLemmas.{base_fits}
use Rattle.verify.proofs.chain_tests.fits_sizes.Goals as goal

pub returns : goal.returns
returns g c =
    let base = g.B.BaseList.entries c.args.base.now in
    let changes = list_all (is_short_change c.args.settings.now (g.V.CellSize.is_short c.args.settings.now)) (as_changes base) in
    base_fits c.fits_base.result (nat_le (length base) c.args.settings.now.fan) changes _ c.fits_base.ensures (rw c.in_default.is at c.loop-next.invariant)
