use Rattle.std.proofs.Common.{◌≡◌, drop}
use Rattle.std.specs.List.{list_all}
use Rattle.index_page.specs.Page.{as_changes}
use Rattle.index_page.specs.Rules.{is_short_change}
use Rattle.verify.proofs.chain_tests.fits_base.Given as goal

-- each entry before this place is short
abbrev pub invariant-loop-at : goal.invariant-loop-at
invariant-loop-at g l = list_all (is_short_change l.settings (g.V.CellSize.is_short l.settings)) (as_changes (drop l.at (g.B.BaseList.entries l.base)))
    ≡ list_all (is_short_change l.settings (g.V.CellSize.is_short l.settings)) (as_changes (g.B.BaseList.entries l.base))
