use Rattle.std.proofs.Common.{◌≡◌, ◌++◌, map, drop, length, vec_len}
use Rattle.std.specs.Prelude.{vec_capacity}
use Rattle.index_page.specs.InMemory.{page_shown}
use Rattle.split_plan.specs.Pieces.{pages_lent}
use Rattle.split_plan.proofs.new_pages.snapshots.Given as goal

-- the members so far, and those from the place on, are all of them; and there is room for the rest
abbrev pub invariant-loop-member : goal.invariant-loop-member
invariant-loop-member l = record {
  made : map (λ member. page_shown member.value) l.all.items ++ pages_lent (drop l.member-index l.members) ≡ pages_lent l.members;
  count : vec_len l.all ≡ l.member-index;
  room : vec_capacity l.all ≡ length l.members;
}
