use Rattle.std.proofs.Common.{◌≡◌, drop}
use Rattle.std.specs.Option.{option_copied}
use Rattle.std.specs.List.{list_all}
use Rattle.std.specs.Map.{keys_of}
use Rattle.index_page.specs.Range.{is_within}
use Rattle.verify.proofs.chain_tests.base_within.Given as goal

-- each key before this place lies in the range
abbrev pub invariant-loop-at : goal.invariant-loop-at
invariant-loop-at g l = list_all (is_within l.low (option_copied l.end)) (drop l.at (keys_of (g.B.BaseList.entries l.base))) ≡ list_all (is_within l.low (option_copied l.end)) (keys_of (g.B.BaseList.entries l.base))
