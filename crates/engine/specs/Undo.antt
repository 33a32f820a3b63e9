-- The commands that undo a batch: they give each key that the batch may change the value that it had before, or delete the key if it had none.
use Rattle.std.specs.Prelude.{◌≡◌, ℕ, ◌<◌, List, [], ◌∷◌, ◌++◌, length, Option, Some, None}
use Rattle.std.specs.declared.alloc.Global.{Global}
use Rattle.keys.specs.Bytes.{Bytes, Pairs}
use Rattle.keys.specs.OrderedMap.{value_at}
use Rattle.keys.specs.Range.{in_range, rows}
use Rattle.keys.specs.declared.command.Command.{Command}
use Rattle.keys.specs.declared.command.Command.TheVariants.{Get, Put, Add, Del, Scan, Wipe}
use Rattle.keys.specs.declared.fault.Fault.{Fault}
use Rattle.keys.specs.declared.fault.Fault.TheVariants.{BatchTooLong}
use Rattle.engine.specs.Copies.{puts_of}
use Rattle.engine.specs.Refusal.{longest_batch}

-- the command that gives a key this value, or deletes the key if there is no value
abbrev pub restore : Bytes → Option Bytes → Command Global
restore k None = Del k
restore k (Some v) = Put k v

-- the commands that undo one command on a map: for the key of a put, an add or a delete, the value that the map has there; for a wipe, all pairs of
-- its range
abbrev pub undo_of : Pairs Bytes → Command Global → List (Command Global)
undo_of m (Get k) = []
undo_of m (Put k v) = restore k (value_at k m) ∷ []
undo_of m (Add k v) = restore k (value_at k m) ∷ []
undo_of m (Del k) = restore k (value_at k m) ∷ []
undo_of m (Scan lo hi limit) = []
undo_of m (Wipe lo hi) = puts_of (in_range lo hi m)

-- the commands that undo a batch on a map
abbrev pub undo_of_all : Pairs Bytes → List (Command Global) → List (Command Global)
undo_of_all m [] = []
undo_of_all m (c ∷ cs) = undo_of m c ++ undo_of_all m cs

-- a batch that is refused because the commands that undo it are more than a batch may have
abbrev pub IsTooLongToUndo : Pairs Bytes → List (Command Global) → Fault → Type 0
IsTooLongToUndo m cs fault = (fault ≡ BatchTooLong) × (longest_batch < length (undo_of_all m cs))

-- ---- how they are made

-- how many pairs of a wipe are restored at most: one more than a batch may have commands
abbrev pub most_restored : ℕ
most_restored = 65536

-- the commands that undo one command, of which a wipe has no more than this many
abbrev pub undo_within : Pairs Bytes → Command Global → List (Command Global)
undo_within m (Get k) = []
undo_within m (Put k v) = restore k (value_at k m) ∷ []
undo_within m (Add k v) = restore k (value_at k m) ∷ []
undo_within m (Del k) = restore k (value_at k m) ∷ []
undo_within m (Scan lo hi limit) = []
undo_within m (Wipe lo hi) = puts_of (rows lo hi most_restored m)
