use Rattle.std.proofs.Common.{◌≡◌, length}
use Rattle.std.specs.Option.{option_copied}
use Rattle.std.specs.List.{list_all}
use Rattle.std.specs.Map.{keys_of}
use Rattle.index_page.specs.Page.{changes_over}
use Rattle.index_page.specs.Range.{is_within}
use Rattle.verify.proofs.ChainLemmas.{runs_left}
use Rattle.verify.proofs.chain_tests.names_within.Given as goal

-- each run so far lies in the range: so the page does if the remaining runs and the base do
abbrev pub invariant-loop-next : goal.invariant-loop-next
invariant-loop-next g l = list_all (is_within l.low (option_copied l.end)) (keys_of (changes_over (runs_left l.next) (g.B.BaseList.entries l.base)))
    ≡ list_all (is_within l.low (option_copied l.end)) (keys_of (changes_over l.runs.runs (g.B.BaseList.entries l.base)))

abbrev pub decreases-loop-next : goal.decreases-loop-next
decreases-loop-next g l = length (runs_left l.next)
