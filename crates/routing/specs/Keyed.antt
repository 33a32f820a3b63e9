-- Places of a batch beside the keys of their commands, as routing sorts and distributes them.
use Rattle.std.specs.Prelude.{◌≡◌, ℕ, Bool, List, map}
use Rattle.std.specs.List.{AllByRecursion}
use Rattle.keys.specs.Bytes.{Bytes}
use Rattle.keys.specs.declared.command.Command.{Command}
use Rattle.keys.specs.declared.key_ref.KeyRef.{KeyRef}
use Rattle.index_page.specs.Range.{is_below}
use Rattle.routing.specs.BatchKeys.{key_at}

-- a key, and a place
abbrev pub Keyed : Type 0
Keyed = KeyRef × ℕ

-- the places without the keys
abbrev pub places_of : List Keyed → List ℕ
places_of entries = map (λ entry. entry.1) entries

-- each key is that of the command at the place beside it
abbrev pub AreKeyed : {A : Type 0} → List (Command A) → List Keyed → Type 0
AreKeyed cs entries = AllByRecursion (λ entry. entry.0 ≡ key_at cs entry.1) entries

-- whether the key is below this one
abbrev pub has_key_below : Bytes → Keyed → Bool
has_key_below k entry = is_below entry.0 k
