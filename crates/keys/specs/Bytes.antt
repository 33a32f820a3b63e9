-- The types that definitions and contracts use. A list of numbers without a name of its own is a list of page ids or of places.
use Rattle.std.specs.Prelude.{ℕ, List, Option}

-- a byte string: a key, a value, or encoded bytes such as frames or the contents of a disk
abbrev pub Bytes : Type 0
Bytes = List ℕ

-- keys with their values: a map, or the entries of a page
abbrev pub Pairs : Type 0 → Type 0
Pairs V = List (Bytes × V)

-- keys with their new values, or with None if the key is deleted: a run
abbrev pub Changes : Type 0 → Type 0
Changes V = List (Bytes × Option V)

-- low keys with the ids of their pages: the entries of an index page, and the level below as the level above describes it
abbrev pub Separators : Type 0
Separators = Pairs ℕ
