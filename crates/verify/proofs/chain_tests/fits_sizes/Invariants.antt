use Rattle.std.proofs.Common.{◌≡◌, length}
use Rattle.verify.specs.Sizes.{sizes_under}
use Rattle.verify.proofs.ChainLemmas.{runs_left}
use Rattle.verify.proofs.chain_tests.fits_sizes.Given as goal

-- each run so far is within the settings: so the page is within them if the remaining runs and the base are
abbrev pub invariant-loop-next : goal.invariant-loop-next
invariant-loop-next g l = sizes_under l.settings (g.V.CellSize.is_short l.settings) (runs_left l.next) (g.B.BaseList.entries l.base)
    ≡ sizes_under l.settings (g.V.CellSize.is_short l.settings) l.runs.runs (g.B.BaseList.entries l.base)

abbrev pub decreases-loop-next : goal.decreases-loop-next
decreases-loop-next g l = length (runs_left l.next)
