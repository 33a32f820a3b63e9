use Rattle.std.proofs.Common.{◌≡◌, ◌++◌, None}
use Rattle.std.specs.Option.{option_copied}
use Rattle.engine.specs.Copies.{puts_of, last_key}
use Rattle.engine.proofs.store.copy.puts_of.Given as goal

-- the puts so far and those of the remaining rows are all puts; the last key of all is the last key of the remaining rows, or else the last one so
-- far
abbrev pub invariant-loop-key : goal.invariant-loop-key
invariant-loop-key l = record {
  puts : l.puts.items ++ puts_of l.key-iterator ≡ l.initial.puts.items ++ puts_of l.fn.rows;
  last : last_key (option_copied l.last) l.key-iterator ≡ last_key None l.fn.rows;
}
