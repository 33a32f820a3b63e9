-- Lemmas on batches that are executed one after the other.
use Rattle.std.specs.Prelude.{◌≡◌, ℕ, List, [], ◌∷◌, ◌++◌}
use Rattle.std.proofs.Common.{refl, sym, ap, ◌∙◌}
use Rattle.keys.specs.Lists.{flat}
use Rattle.keys.specs.Step.{replies_to, map_after_all}
use Rattle.keys.proofs.RunLemmas.{replies_to-append, map_after_all-append}
use Rattle.keys.specs.declared.command.Command.{Command}
use Rattle.keys.specs.declared.command.Reply.{Reply}
use Rattle.std.specs.List.{AllByRecursion}
use Rattle.keys.specs.declared.settings.Settings.{Settings}
use Rattle.mapping.specs.Levels.{contents}
use Rattle.mapping.specs.Proper.{AreLogsTrue, IsProper}
use Rattle.mapping.specs.Tree.{Tree}
use Rattle.climb_plan.specs.Limits.{AreShort}
use Rattle.climb_plan.specs.Plan.{planned_tree}
use Rattle.engine.specs.Batches.{replies_in_turn, map_in_turn, tree_in_turn}

pub flat-replies_in_turn : {A : Type 0} → (m : List (List ℕ × List ℕ)) (bs : List (List (Command A))) → flat (replies_in_turn m bs) ≡ replies_to m (flat bs)
flat-replies_in_turn m [] = refl
flat-replies_in_turn {A} m (b ∷ bs) =
    ap (λ (rs : List (Reply A)). replies_to m b ++ rs) (flat-replies_in_turn (map_after_all m b) bs)
    ∙ sym (replies_to-append m b (flat bs))

pub map_in_turn-flat : {A : Type 0} → (m : List (List ℕ × List ℕ)) (bs : List (List (Command A))) → map_in_turn m bs ≡ map_after_all m (flat bs)
map_in_turn-flat m [] = refl
map_in_turn-flat m (b ∷ bs) = map_in_turn-flat (map_after_all m b) bs ∙ sym (map_after_all-append m b (flat bs))

-- ---- the trees after each batch

module _ {A : Type 0} (s : Settings)
    (holds : (t : Tree) (b : List (Command A)) → IsProper s t → contents (planned_tree s t b) ≡ map_after_all (contents t) b)
    (stays : (t : Tree) (b : List (Command A)) → IsProper s t → AreShort s b → IsProper s (planned_tree s t b)) where
  pub contents_in_turn : (t : Tree) (bs : List (List (Command A))) → IsProper s t → AllByRecursion (AreShort s) bs → contents (tree_in_turn s t bs) ≡ map_in_turn (contents t) bs
  contents_in_turn t [] proper short = refl
  contents_in_turn t (b ∷ bs) proper short =
      contents_in_turn (planned_tree s t b) bs (stays t b proper short.0) short.1
      ∙ ap (λ (m : List (List ℕ × List ℕ)). map_in_turn m bs) (holds t b proper)

  pub proper_in_turn : (t : Tree) (bs : List (List (Command A))) → IsProper s t → AllByRecursion (AreShort s) bs → IsProper s (tree_in_turn s t bs)
  proper_in_turn t [] proper short = proper
  proper_in_turn t (b ∷ bs) proper short = proper_in_turn (planned_tree s t b) bs (stays t b proper short.0) short.1

  pub logs_in_turn : ((t : Tree) (b : List (Command A)) → IsProper s t → AreLogsTrue t → AreLogsTrue (planned_tree s t b)) → (t : Tree) (bs : List (List (Command A))) → IsProper s t → AllByRecursion (AreShort s) bs
      → AreLogsTrue t → AreLogsTrue (tree_in_turn s t bs)
  logs_in_turn true_after t [] proper short logs = logs
  logs_in_turn true_after t (b ∷ bs) proper short logs =
      logs_in_turn true_after (planned_tree s t b) bs (stays t b proper short.0) short.1 (true_after t b proper logs)
