use Rattle.std.proofs.Common.{take}
use Rattle.std.specs.List.{AllByRecursion}
use Rattle.climb_plan.specs.Rewriting.{all_seen, IsQuiet}
use Rattle.climb_plan.proofs.family.first_to_restructure.Given as goal

-- no page so far is thin or fat
abbrev pub invariant-loop-page : goal.invariant-loop-page
invariant-loop-page l = AllByRecursion IsQuiet (all_seen (take l.page-index l.seen))
