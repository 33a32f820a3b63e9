use Rattle.std.proofs.Common.{◌≡◌, ◌++◌, map}
use Rattle.std.specs.Iterator.Adapters.{zip_first, zip_second}
use Rattle.std.specs.Slice.Iter.{iter_rest}
use Rattle.index_page.specs.InMemory.{page_shown}
use Rattle.climb_plan.specs.Rewriting.{named_pages}
use Rattle.climb_plan.proofs.change.push_names.Given as goal

-- the present contents, followed by the separators of the remaining pages, are the first contents followed by the separators of all pages
abbrev pub invariant-loop-page : goal.invariant-loop-page
invariant-loop-page l = l.names.items ++ named_pages (map (λ page. page_shown page.value) (iter_rest (zip_first l.page-iterator))) (iter_rest (zip_second l.page-iterator)) ≡ l.initial.names.items ++ named_pages (map (λ page. page_shown page.value) l.pages) l.pids
