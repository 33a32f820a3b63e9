use Rattle.std.proofs.Common.{◌≡◌, ◌-◌, ◌++◌, map, take, drop}
use Rattle.keys.specs.Lists.{flat}
use Rattle.climb_plan.proofs.change.next_names.Given as goal

-- the separators so far, and those of the lists that are still to come, are all of them; and the lists after these are unchanged
abbrev pub invariant-loop-list : goal.invariant-loop-list
invariant-loop-list l = record {
  names : l.names.items ++ flat (take (l.count - l._list) (map (λ list. list.items) l.lists.items)) ≡ flat (take l.count (map (λ list. list.items) l.initial.lists.items));
  rest : drop (l.count - l._list) (map (λ list. list.items) l.lists.items) ≡ drop l.count (map (λ list. list.items) l.initial.lists.items);
}
