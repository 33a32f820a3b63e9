use Rattle.std.proofs.Common.{◌≡◌, map, take, length, vec_len}
use Rattle.std.specs.Prelude.{vec_capacity}
use Rattle.climb_plan.proofs.family.classes_of.Given as goal

-- the classes so far, and room for the rest
abbrev pub invariant-loop-child : goal.invariant-loop-child
invariant-loop-child l = record {
  made : l.classes.items ≡ map (λ x. x.class) (take l.child-index l.children);
  count : vec_len l.classes ≡ l.child-index;
  room : vec_capacity l.classes ≡ length l.children;
}
