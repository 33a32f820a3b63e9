-- One pass in key order over a page's pairs and the changes to them.
use Rattle.std.specs.Prelude.{List, [], ◌∷◌, drop, Option, Some, None}
use Rattle.std.specs.Borrow.{Bor}
use Rattle.std.specs.Option.{option_copied}
use Rattle.keys.specs.Bytes.{Bytes, Pairs, Changes}
use Rattle.delta_chain.specs.Merging.{overlaid}
use Rattle.index_page.specs.Page.{as_changes}
use Rattle.page_runs.specs.declared.changes_from.KeptFrom.{KeptFrom}
use Rattle.page_runs.specs.declared.changes_from.KeptFrom.TheVariants.{Few, Many}

-- the pair, and the change, that references denote
abbrev pub pair_lent : Bor Bytes × Bor Bytes → Bytes × Bytes
pair_lent p = (p.0.now, p.1.now)

abbrev pub change_lent : Bor Bytes × Option (Bor Bytes) → Bytes × Option Bytes
change_lent c = (c.0.now, option_copied c.1)

-- an item that was taken out of an iterator, if there is one, followed by the remaining items
abbrev pub ahead : {L X : Type 0} → (L → X) → Option L → List X → List X
ahead shows None rest = []
ahead shows (Some x) rest = shows x ∷ rest

-- the remaining changes of an iterator, in either of the two representations
abbrev pub changes_left : KeptFrom → Changes Bytes
changes_left (Few run at) = drop at run.now
changes_left (Many range) = range

-- each key that the pairs or the changes contain, with its value or its absence after the changes
abbrev pub named_by_either : {V : Type 0} → Pairs V → Changes V → Changes V
named_by_either pairs changes = overlaid (as_changes pairs) changes
