-- A page while commands are executed on it.
use Rattle.std.specs.Prelude.{ℕ, ◌+◌, ◌-◌, ◌==◌, min, List, [], ◌∷◌, None, if◌then◌else◌}
use Rattle.keys.specs.Bytes.{Bytes, Pairs, Changes}
use Rattle.keys.specs.OrderedMap.{with_pair}
use Rattle.keys.specs.declared.command.Reply.{Reply}
use Rattle.keys.specs.declared.command.Reply.TheVariants.{Value, Missing, New, Replaced, Added, Exists, Deleted, Rows, Wiped}
use Rattle.delta_chain.specs.Layers.{Layers, with_run, entries_of}

-- the current map: the page's entries with the changes so far
abbrev pub map_by_now : {V : Type 0} → Layers V → Changes V → Pairs V
map_by_now p changes = with_run (entries_of p) changes

-- changes in which each of these keys is deleted
abbrev pub with_absent : {V : Type 0} → Changes V → List Bytes → Changes V
with_absent changes [] = changes
with_absent changes (k ∷ ks) = with_absent (with_pair changes k None) ks

-- the number of entries after a command, from the number before it and its reply
abbrev pub entries_after : {A : Type 0} → ℕ → Reply A → ℕ
entries_after n (Value v) = n
entries_after n Missing = n
entries_after n New = n + 1
entries_after n Replaced = n
entries_after n Added = n + 1
entries_after n Exists = n
entries_after n Deleted = n - 1
entries_after n (Rows rows) = n
entries_after n (Wiped count) = n - count

-- the same for an upper bound on the number, capped at a greatest number, which means that no bound is known
abbrev pub most_after : {A : Type 0} → ℕ → ℕ → Reply A → ℕ
most_after greatest n r = if n == greatest then greatest else min (entries_after n r) greatest
