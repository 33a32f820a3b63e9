-- The changes that the commands of a leaf have made so far, in either of the two representations.
use Rattle.page_runs.specs.declared.changes.KeptChanges.{KeptChanges}
use Rattle.page_runs.specs.declared.changes.KeptChanges.TheVariants.{Few, Many}
use Rattle.keys.specs.Bytes.{Bytes, Changes}

-- the changes as a run
abbrev pub changes_kept : KeptChanges → Changes Bytes
changes_kept (Few run) = run
changes_kept (Many map) = map.entries
