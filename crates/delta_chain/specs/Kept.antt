-- The entries of a list in either of the two representations.
use Rattle.std.specs.Prelude.{[], ◌∷◌}
use Rattle.keys.specs.Bytes.{Pairs}
use Rattle.delta_chain.specs.declared.entries.KeptEntries.{KeptEntries}
use Rattle.delta_chain.specs.declared.entries.KeptEntries.TheVariants.{One, Many}

-- the entry that is stored in place, or those of the list
abbrev pub entries_kept : {T A : Type 0} → KeptEntries T A → Pairs T
entries_kept (One entry) = entry ∷ []
entries_kept (Many list) = list.items
