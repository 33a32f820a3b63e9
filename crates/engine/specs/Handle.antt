-- A handle: its invariant, and what a call that executes one command promises.
use Rattle.std.specs.Prelude.{◌≡◌, ◌⊎◌, Bool, true, if◌then◌else◌, [], ◌∷◌, Result, Ok, Err, IsTrue}
use Rattle.std.specs.declared.alloc.Global.{Global}
use Rattle.keys.specs.declared.command.Command.{Command}
use Rattle.keys.specs.declared.command.Reply.{Reply}
use Rattle.keys.specs.declared.fault.Fault.{Fault}
use Rattle.keys.specs.declared.fault.Fault.TheVariants.{BadCrew, NoMemory}
use Rattle.crew.specs.Crew.{is_crew}
use Rattle.crew.specs.declared.limits.Crew.{Crew}
use Rattle.flush_log.specs.Disk.{View}
use Rattle.engine.specs.OneStep.{IsBatch}
use Rattle.engine.specs.State.{State}

-- the invariant of every handle: its crew is in range
pub record IsHandle (crew : Crew) : Type 0 where
  pub in_range : IsTrue (is_crew crew)

-- What making a handle of a store promises. `able` says whether its crew is in range.
abbrev pub IsMade : {D : Type 0} → Bool → State D → Result (State D) (Fault × State D) → Type 0
IsMade able store (Ok handle) = (able ≡ true) × (handle ≡ store)
IsMade able store (Err refused) = (refused.1 ≡ store) × (refused.0 ≡ (if able then NoMemory else BadCrew))

-- What a call that executes one command promises: it did so as a batch of this command alone, or there was no memory for the command. `answer` makes
-- the command's reply of what the call returns.
abbrev pub IsCall : {D X : Type 0} → (D → View) → State D → Command Global → Result X Fault → (X → Reply Global) → State D → Type 0
IsCall view old c result answer new = ((result ≡ Err NoMemory) × (new ≡ old)) ⊎ IsBatch view true old (c ∷ []) result (λ x. answer x ∷ []) new
