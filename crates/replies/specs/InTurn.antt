-- Commands on single keys that make the same changes as the commands of a batch.
use Rattle.std.specs.Prelude.{List, [], ◌∷◌, ◌++◌, map}
use Rattle.std.specs.Map.{keys_of}
use Rattle.keys.specs.Bytes.{Bytes, Pairs}
use Rattle.keys.specs.Range.{in_range}
use Rattle.keys.specs.Step.{map_after}
use Rattle.keys.specs.declared.command.Command.{Command}
use Rattle.keys.specs.declared.command.Command.TheVariants.{Get, Put, Add, Del, Scan, Wipe}

-- deletes of these keys
abbrev pub dels_of : {A : Type 0} → List Bytes → List (Command A)
dels_of ks = map (λ k. Del k) ks

-- the changes that a command makes to this map, as commands on single keys: a wipe deletes each key that it finds
abbrev pub points_by : {A : Type 0} → Pairs Bytes → Command A → List (Command A)
points_by m (Get k) = []
points_by m (Put k v) = Put k v ∷ []
points_by m (Add k v) = Add k v ∷ []
points_by m (Del k) = Del k ∷ []
points_by m (Scan lo hi limit) = []
points_by m (Wipe lo hi) = dels_of (keys_of (in_range lo hi m))

-- the same for commands that are executed in the order of the list
abbrev pub points_of : {A : Type 0} → Pairs Bytes → List (Command A) → List (Command A)
points_of m [] = []
points_of m (c ∷ cs) = points_by m c ++ points_of (map_after m c) cs
