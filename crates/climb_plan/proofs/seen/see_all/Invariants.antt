use Rattle.std.proofs.Common.{◌≡◌, map, take, length, vec_len}
use Rattle.std.specs.Prelude.{vec_capacity}
use Rattle.climb_plan.specs.Rewriting.{all_seen}
use Rattle.climb_plan.proofs.seen.see_all.Given as goal

-- the pages so far are seen, and there is room for the rest
abbrev pub invariant-loop-done : goal.invariant-loop-done
invariant-loop-done g l = record {
  made : all_seen l.all.items ≡ map g.D.UpdatedPage.seen_page (take l.done-index l.dones);
  count : vec_len l.all ≡ l.done-index;
  room : vec_capacity l.all ≡ length l.dones;
}
