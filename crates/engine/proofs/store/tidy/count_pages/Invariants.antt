use Rattle.std.proofs.Common.{◌≡◌, ◌+◌, ◌-◌, ◌^◌, ◌≤◌, min, length}
use Rattle.mapping.specs.TreeInMemory.{tree_of}
use Rattle.engine.specs.Tidied.{counted_pages}
use Rattle.engine.proofs.store.tidy.count_pages.Given as goal

-- the count so far and the remaining pages are all pages
abbrev pub invariant-pages : goal.invariant-pages
invariant-pages l = record {
  fits : l.count ≤ 2 ^ 64 - 1;
  counted : min (l.count + length l.pid-iterator) (2 ^ 64 - 1) ≡ counted_pages (tree_of l.tree);
}
