-- Batches that are executed one after the other.
use Rattle.std.specs.Prelude.{List, [], ◌∷◌}
use Rattle.keys.specs.Bytes.{Bytes, Pairs}
use Rattle.keys.specs.Step.{replies_to, map_after_all}
use Rattle.keys.specs.declared.command.Command.{Command}
use Rattle.keys.specs.declared.command.Reply.{Reply}
use Rattle.keys.specs.declared.settings.Settings.{Settings}
use Rattle.mapping.specs.Tree.{Tree}
use Rattle.climb_plan.specs.Plan.{planned_tree}

-- the replies to each batch, where each is executed on the map after the batch before it
abbrev pub replies_in_turn : {A : Type 0} → Pairs Bytes → List (List (Command A)) → List (List (Reply A))
replies_in_turn m [] = []
replies_in_turn m (b ∷ bs) = replies_to m b ∷ replies_in_turn (map_after_all m b) bs

-- the map after the last batch
abbrev pub map_in_turn : {A : Type 0} → Pairs Bytes → List (List (Command A)) → Pairs Bytes
map_in_turn m [] = m
map_in_turn m (b ∷ bs) = map_in_turn (map_after_all m b) bs

-- the tree after the last batch, where each is planned on the tree after the batch before it
abbrev pub tree_in_turn : {A : Type 0} → Settings → Tree → List (List (Command A)) → Tree
tree_in_turn s t [] = t
tree_in_turn s t (b ∷ bs) = tree_in_turn s (planned_tree s t b) bs
