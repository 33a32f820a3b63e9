use Rattle.std.proofs.Common.{◌≡◌, ◌++◌, map, drop, length, vec_len}
use Rattle.std.specs.Prelude.{vec_capacity}
use Rattle.index_page.specs.InMemory.{page_shown}
use Rattle.climb_plan.specs.Rewriting.{named_pages}
use Rattle.climb_plan.proofs.root.names_of.Given as goal

-- the separators so far, and those of the pages from the place on, are those of all pages; and there is room for the rest
abbrev pub invariant-loop-at : goal.invariant-loop-at
invariant-loop-at l = record {
  made : l.names.items ++ named_pages (map (λ page. page_shown page.value) (drop l.at l.pages)) (drop l.at l.pids) ≡ named_pages (map (λ page. page_shown page.value) l.pages) l.pids;
  count : vec_len l.names ≡ l.at;
  room : vec_capacity l.names ≡ length l.pages;
}
