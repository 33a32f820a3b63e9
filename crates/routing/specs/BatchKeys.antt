-- The keys of a batch's commands, by place.
use Rattle.std.specs.Prelude.{ℕ, List, [], slice_get, Option, Some, None}
use Rattle.keys.specs.Bytes.{Bytes}
use Rattle.keys.specs.CommandKey.{key_of}
use Rattle.keys.specs.declared.command.Command.{Command}

-- the key of a command, or the empty key if there is no command
abbrev pub key_or_empty : {A : Type 0} → Option (Command A) → Bytes
key_or_empty None = []
key_or_empty (Some c) = key_of c

-- the key of the command at this place
abbrev pub key_at : {A : Type 0} → List (Command A) → ℕ → Bytes
key_at cs place = key_or_empty (slice_get cs place)
