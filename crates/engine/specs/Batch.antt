-- The faults of a batch whose commands are admitted, and the faults that store and commands determine.
use Rattle.std.specs.Prelude.{◌≡◌, ◌⊎◌, ℕ, ◌<◌, nat_lt, if◌then◌else◌, List, Option, Some, None}
use Rattle.std.specs.Option.{option_or}
use Rattle.keys.specs.declared.settings.Settings.{Settings}
use Rattle.keys.specs.declared.command.Command.{Command}
use Rattle.keys.specs.declared.fault.Fault.{Fault}
use Rattle.keys.specs.declared.fault.Fault.TheVariants.{NoMemory, Spent}
use Rattle.mapping.specs.Tree.{Tree, most_levels}
use Rattle.climb_plan.specs.declared.refused.Refused.{Refused}
use Rattle.climb_plan.specs.declared.refused.Refused.TheVariants as refusals
use Rattle.climb_plan.specs.Plan.{planned_tree}
use Rattle.engine.specs.Refusal.{refusal}

-- out of memory, or the planned tree would have more levels than a tree may have
abbrev pub IsLaterFault : {A : Type 0} → Settings → Tree → List (Command A) → Fault → Type 0
IsLaterFault s t cs fault = (fault ≡ NoMemory) ⊎ ((fault ≡ Spent) × (most_levels < (planned_tree s t cs).height))

-- the fault for a climb that failed
abbrev pub fault_by : Refused → Fault
fault_by refusals.NoMemory = NoMemory
fault_by refusals.TooHigh = Spent

-- the fault for a tree of `height` levels, if it has too many
abbrev pub height_fault : ℕ → Option Fault
height_fault height = if nat_lt most_levels height then Some Spent else None

-- the fault of a batch, apart from memory: the fault of its commands, or else that the planned tree would have too many levels
abbrev pub refusal_by : {A : Type 0} → Settings → Tree → List (Command A) → Option Fault
refusal_by s t cs = option_or (refusal s cs) (height_fault (planned_tree s t cs).height)
