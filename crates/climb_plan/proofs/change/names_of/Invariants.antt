use Rattle.std.proofs.Common.{◌≡◌, ◌++◌, map, drop, length, vec_len}
use Rattle.std.specs.Prelude.{vec_capacity}
use Rattle.climb_plan.specs.Rewriting.{seen_name, all_seen}
use Rattle.climb_plan.proofs.change.names_of.Given as goal

-- the separators so far, and those from the place on, are all of them; and there is room for the rest
abbrev pub invariant-loop-seen : goal.invariant-loop-seen
invariant-loop-seen l = record {
  made : l.names.items ++ map seen_name (all_seen (drop l.seen-index l.pages)) ≡ map seen_name (all_seen l.pages);
  count : vec_len l.names ≡ l.seen-index;
  room : vec_capacity l.names ≡ length l.pages;
}
