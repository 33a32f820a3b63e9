use Rattle.std.proofs.Common.{◌≡◌, ◌++◌, ◌+◌, length}
use Rattle.keys.specs.Order.{IsRising}
use Rattle.delta_chain.specs.Layers.{with_run}
use Rattle.split_plan.specs.Terms.{absent, present}
use Rattle.split_plan.proofs.parent_run.terms.Given as goal

-- the terms so far, and those of the remaining separators, are the terms of all
abbrev pub invariant-loop-term : goal.invariant-loop-term
invariant-loop-term l = record {
  freed_rises : IsRising l.gone.items;
  fresh_rises : IsRising l.come.items;
  rises : IsRising (l.run ++ with_run (absent l.gone.items) (present l.come.items));
  made : l.run ++ with_run (absent l.gone.items) (present l.come.items) ≡ with_run (absent l.initial.gone.items) (present l.initial.come.items);
}

abbrev pub decreases-loop-term : goal.decreases-loop-term
decreases-loop-term l = length l.gone.items + length l.come.items
