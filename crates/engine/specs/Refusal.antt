-- Which calls are refused for their crew, which batches for their commands, and with which fault.
use Rattle.std.specs.Prelude.{◌≡◌, ℕ, ◌+◌, nat_lt, length, if◌then◌else◌, Bool, true, false, List, [], ◌∷◌, Option, Some, None, Result, Err}
use Rattle.std.specs.Option.{option_or}
use Rattle.keys.specs.Bytes.{Bytes}
use Rattle.keys.specs.Footprint.{Span, One, Range, Access, Gives, span_of, access_of}
use Rattle.keys.specs.declared.settings.Settings.{Settings}
use Rattle.keys.specs.declared.command.Command.{Command}
use Rattle.keys.specs.declared.fault.Fault.{Fault}
use Rattle.keys.specs.declared.fault.Fault.TheVariants.{BadCrew, Failed, KeyTooLong, ValueTooLong, BatchTooLong}
pub use Rattle.crew.specs.Crew.{is_crew}
use Rattle.engine.specs.State.{State}

-- A call on a store that has failed returns `Failed`, and else, if the crew is out of range (`able` is false), `BadCrew`; the store is unchanged then.
pub record IsAdmitted {D X : Type 0} (able : Bool) (old : State D) (result : Result X Fault) (new : State D) : Type 0 where
  pub failed : old.has_failed ≡ true → (result ≡ Err Failed) × (new ≡ old)
  pub bad_crew : old.has_failed ≡ false → able ≡ false → (result ≡ Err BadCrew) × (new ≡ old)

-- the fault of a key of the command at this place, if it has one
abbrev pub key_fault : Settings → ℕ → Bytes → Option Fault
key_fault s place k = if nat_lt s.max_key (length k) then Some (KeyTooLong place) else None

-- the fault of a value of the command at this place, if it has one
abbrev pub value_fault : Settings → ℕ → Bytes → Option Fault
value_fault s place v = if nat_lt s.max_value (length v) then Some (ValueTooLong place) else None

-- the fault of the upper bound of the scan or wipe at this place, if it has one
abbrev pub bound_fault : Settings → ℕ → Option Bytes → Option Fault
bound_fault s place None = None
bound_fault s place (Some hi) = key_fault s place hi

-- the fault of an access to a span at this place: a key is checked before a value, and a lower bound before an upper one
abbrev pub deed_fault : Settings → ℕ → Span → Access → Option Fault
deed_fault s place (One k) (Gives v) = option_or (key_fault s place k) (value_fault s place v)
deed_fault s place (One k) deed = key_fault s place k
deed_fault s place (Range lo hi) deed = option_or (key_fault s place lo) (bound_fault s place hi)

-- the fault of the command at this place, if it has one
abbrev pub fault_at : {A : Type 0} → Settings → ℕ → Command A → Option Fault
fault_at s place c = deed_fault s place (span_of c) (access_of c)

-- the fault of the first command that has one, where the list begins at this place of the batch
abbrev pub first_fault : {A : Type 0} → Settings → ℕ → List (Command A) → Option Fault
first_fault s place [] = None
first_fault s place (c ∷ cs) = option_or (fault_at s place c) (first_fault s (place + 1) cs)

-- how many commands a batch may have at most
abbrev pub longest_batch : ℕ
longest_batch = 65535

-- why a batch is refused: it has too many commands, or else its first fault
abbrev pub refusal : {A : Type 0} → Settings → List (Command A) → Option Fault
refusal s cs = if nat_lt longest_batch (length cs) then Some BatchTooLong else first_fault s 0 cs
