-- The reply to a command and its effect on an ordered map, for one command and for a list of commands.
use Rattle.std.specs.Prelude.{length, List, [], ◌∷◌, Option, Some, None, is_some, if◌then◌else◌}
use Rattle.keys.specs.Bytes.{Bytes, Pairs}
use Rattle.keys.specs.OrderedMap.{value_at, with_pair, without}
use Rattle.keys.specs.Range.{in_range, out_of_range, rows}
use Rattle.keys.specs.declared.command.Command.{Command}
use Rattle.keys.specs.declared.command.Command.TheVariants.{Get, Put, Add, Del, Scan, Wipe}
use Rattle.keys.specs.declared.command.Reply.{Reply}
use Rattle.keys.specs.declared.command.Reply.TheVariants.{Value, Missing, New, Replaced, Added, Exists, Deleted, Rows, Wiped}

-- the reply to a Get that finds this value, or none
abbrev pub found : {A : Type 0} → Option Bytes → Reply A
found None = Missing
found (Some v) = Value v

-- the reply to the command on this map
abbrev pub reply_to : {A : Type 0} → Pairs Bytes → Command A → Reply A
reply_to m (Get k) = found (value_at k m)
reply_to m (Put k v) = if is_some (value_at k m) then Replaced else New
reply_to m (Add k v) = if is_some (value_at k m) then Exists else Added
reply_to m (Del k) = if is_some (value_at k m) then Deleted else Missing
reply_to m (Scan lo hi limit) = Rows (rows lo hi limit m)
reply_to m (Wipe lo hi) = Wiped (length (in_range lo hi m))

-- the map after the command
abbrev pub map_after : {A : Type 0} → Pairs Bytes → Command A → Pairs Bytes
map_after m (Get k) = m
map_after m (Put k v) = with_pair m k v
map_after m (Add k v) = if is_some (value_at k m) then m else with_pair m k v
map_after m (Del k) = without m k
map_after m (Scan lo hi limit) = m
map_after m (Wipe lo hi) = out_of_range lo hi m

-- the replies to a list of commands, executed in order
abbrev pub replies_to : {A : Type 0} → Pairs Bytes → List (Command A) → List (Reply A)
replies_to m [] = []
replies_to m (c ∷ cs) = reply_to m c ∷ replies_to (map_after m c) cs

-- the map after all of them
abbrev pub map_after_all : {A : Type 0} → Pairs Bytes → List (Command A) → Pairs Bytes
map_after_all m [] = m
map_after_all m (c ∷ cs) = map_after_all (map_after m c) cs
