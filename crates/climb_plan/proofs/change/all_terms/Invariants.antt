use Rattle.std.proofs.Common.{◌≡◌, ◌++◌, map, drop, length, vec_len}
use Rattle.std.specs.Prelude.{vec_capacity}
use Rattle.climb_plan.specs.Rewriting.{terms_by_parent, CanTakeTerms}
use Rattle.climb_plan.proofs.change.all_terms.Given as goal

-- the runs so far, and those of the parents from the place on, are all of them; and there is room for the rest
abbrev pub invariant-loop-parent : goal.invariant-loop-parent
invariant-loop-parent l = record {
  can : CanTakeTerms (drop l.parent-index l.parents) (map (λ names. names.items) l.freed.items) l.rest;
  made : l.runs.items ++ terms_by_parent (drop l.parent-index l.parents) (map (λ names. names.items) l.freed.items) l.rest ≡ terms_by_parent l.parents (map (λ names. names.items) l.initial.freed.items) l.all;
  count : vec_len l.runs ≡ l.parent-index;
  room : vec_capacity l.runs ≡ length l.parents;
}
