-- A batch on a tree: the leaves after their answers were collected.
use Rattle.std.specs.Prelude.{◌≡◌, ◌<◌, List, [], ◌∷◌, map}
use Rattle.std.proofs.Common.{refl, ap, inl, inr}
use Rattle.std.specs.declared.alloc.Global.{Global}
use Rattle.keys.specs.declared.command.Command.{Command}
use Rattle.keys.specs.declared.settings.Settings.{Settings}
use Rattle.keys.specs.declared.fault.Fault.{Fault}
use Rattle.index_page.specs.Page.PageOfKind.{Leaf}
use Rattle.mapping.specs.Tree.{Tree}
use Rattle.page_runs.specs.LeafWork.{LeafHeld, LeafUpdate}
use Rattle.climb_plan.specs.declared.refused.Refused.{Refused}
use Rattle.climb_plan.specs.declared.refused.Refused.TheVariants.{NoMemory, TooHigh}
use Rattle.climb_plan.specs.Changing.{SeenPage, page_seen}
use Rattle.climb_plan.specs.Plan.{planned_tree}
use Rattle.engine.specs.Batch.{IsLaterFault, fault_by}
use Rattle.engine.specs.Leaves.{without_answers}

abbrev pub held_all : List LeafUpdate → List LeafHeld
held_all ds = map (λ d. d.held) ds

abbrev pub seen_leaves : List LeafUpdate → List SeenPage
seen_leaves ds = map (λ d. page_seen Leaf d.made.updated) ds

pub held_without : (ds : List LeafUpdate) → held_all (map without_answers ds) ≡ held_all ds
held_without [] = refl
held_without (d ∷ ds) = ap (λ (hs : List LeafHeld). d.held ∷ hs) (held_without ds)

pub seen_without : (ds : List LeafUpdate) → seen_leaves (map without_answers ds) ≡ seen_leaves ds
seen_without [] = refl
seen_without (d ∷ ds) = ap (λ (xs : List SeenPage). page_seen Leaf d.made.updated ∷ xs) (seen_without ds)

-- the fault that is returned if the climb fails
pub fault_is : (s : Settings) (P : Tree → List (Command Global) → Type 0) (r : Refused) (fault : Fault) → fault ≡ fault_by r → ((t : Tree) (cs : List (Command Global)) → P t cs → r ≡ TooHigh → 64 < (planned_tree s t cs).height)
    → (t : Tree) (cs : List (Command Global)) → P t cs → IsLaterFault s t cs fault
fault_is s P NoMemory fault e f t cs h = inl e
fault_is s P TooHigh fault e f t cs h = inr (e, f t cs h refl)
