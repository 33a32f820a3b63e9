use Rattle.scan.proofs.Counting.{LeadsTo, AreBlank}
use Rattle.scan.proofs.level.levels_over.Given as goal

-- the levels so far lead to the next one, and nothing is recorded in them
abbrev pub invariant-loop-wide : goal.invariant-loop-wide
invariant-loop-wide l = record {
  leads : LeadsTo l.fn.places l.wide l.levels.items;
  blank : AreBlank l.levels.items;
}

abbrev pub decreases-loop-wide : goal.decreases-loop-wide
decreases-loop-wide l = l.wide
