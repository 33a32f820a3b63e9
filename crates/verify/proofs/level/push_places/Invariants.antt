use Rattle.std.proofs.Common.{◌≡◌, ◌++◌, drop}
use Rattle.std.specs.Option.{option_copied}
use Rattle.index_page.specs.Children.{children}
use Rattle.verify.proofs.level.push_places.Given as goal

-- the places so far, and those of the entries to come, are those of all
abbrev pub invariant-loop-at : goal.invariant-loop-at
invariant-loop-at l = l.below.items ++ children (drop l.at l.entries) (option_copied l.end) ≡ l.fn.below.items ++ children l.entries (option_copied l.end)
