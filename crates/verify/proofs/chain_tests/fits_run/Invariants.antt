use Rattle.std.proofs.Common.{◌≡◌, drop}
use Rattle.std.specs.List.{list_all}
use Rattle.index_page.specs.Rules.{is_short_change}
use Rattle.verify.proofs.chain_tests.fits_run.Given as goal

-- each change before this place is short
abbrev pub invariant-loop-at : goal.invariant-loop-at
invariant-loop-at g l = list_all (is_short_change l.settings (g.V.CellSize.is_short l.settings)) (drop l.at l.run) ≡ list_all (is_short_change l.settings (g.V.CellSize.is_short l.settings)) l.run
