use Rattle.std.proofs.Common.{◌≡◌, ◌<◌, ◌≤◌, ◌++◌, true, map, length, drop}
use Rattle.page_runs.specs.Updated.{is_thin_class}
use Rattle.split_plan.specs.Groups.{groups}
use Rattle.split_plan.proofs.GroupSizes.{sizes_from}
use Rattle.split_plan.proofs.grouping.groups.Given as goal

-- the sizes so far, and those that the rest of the children make of the members so far, are the groups' sizes
abbrev pub invariant-loop-class : goal.invariant-loop-class
invariant-loop-class l = record {
  fits : l.members ≤ l.class-index;
  made : l.sizes.items ++ sizes_from is_thin_class l.members l.has_begun (drop l.class-index l.classes) ≡ map length (groups is_thin_class l.classes);
  begun : l.has_begun ≡ true → 0 < l.members;
  room : 32 ≤ l.sizes.capacity;
}
