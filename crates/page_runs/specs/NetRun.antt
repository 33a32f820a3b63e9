-- The net run of a list of commands: their combined effect, key by key.
use Rattle.std.specs.Prelude.{List, [], ◌∷◌, is_some, if◌then◌else◌}
use Rattle.keys.specs.Bytes.{Bytes, Pairs, Changes}
use Rattle.std.specs.Map.{keys_of}
use Rattle.keys.specs.OrderedMap.{value_at, with_pair}
use Rattle.keys.specs.Range.{in_range}
use Rattle.keys.specs.Step.{map_after, map_after_all}
use Rattle.keys.specs.declared.command.Command.{Command}
use Rattle.keys.specs.declared.command.Command.TheVariants.{Get, Put, Add, Del, Scan, Wipe}

-- a run with the key added, with its value in this map, or as deleted
abbrev pub noted : {V : Type 0} → Pairs V → Changes V → Bytes → Changes V
noted after run k = with_pair run k (value_at k after)

-- a run with each of these keys added
abbrev pub noted_all : {V : Type 0} → Pairs V → Changes V → List Bytes → Changes V
noted_all after run [] = run
noted_all after run (k ∷ ks) = noted_all after (noted after run k) ks

-- a run with those keys of the command added that it changes: for a Put always its key, for an Add its key if the map before it lacks the key, for a
-- Del its key if the map before it has the key, for a Wipe each key of its range that the map before it has
abbrev pub noted_by : {A : Type 0} → Pairs Bytes → Pairs Bytes → Command A → Changes Bytes → Changes Bytes
noted_by after before (Get k) run = run
noted_by after before (Put k v) run = noted after run k
noted_by after before (Add k v) run = if is_some (value_at k before) then run else noted after run k
noted_by after before (Del k) run = if is_some (value_at k before) then noted after run k else run
noted_by after before (Scan lo hi limit) run = run
noted_by after before (Wipe lo hi) run = noted_all after run (keys_of (in_range lo hi before))

-- the changed keys, each with its value or absence in the map after all the commands
abbrev pub touched : {A : Type 0} → Pairs Bytes → Pairs Bytes → List (Command A) → Changes Bytes
touched after before [] = []
touched after before (c ∷ cs) = noted_by after before c (touched after (map_after before c) cs)

-- the net run on a map: the changed keys in rising order, each with its value or absence after all the commands
abbrev pub net_run : {A : Type 0} → Pairs Bytes → List (Command A) → Changes Bytes
net_run m cs = touched (map_after_all m cs) m cs
