-- The clauses of a store's call if the store has failed, or if its crew is out of range.
use Rattle.std.specs.Prelude.{◌≡◌, ◌≢◌, Bool, IsTrue, true, false, Result, Ok, Err, IsErrAnd}
use Rattle.std.proofs.Common.{ap, refl}
use Rattle.keys.specs.declared.fault.Fault.{Fault}
use Rattle.keys.specs.declared.fault.Fault.TheVariants.{BadCrew, Device, Failed}
use Rattle.engine.specs.Refusal.{IsAdmitted}
use Rattle.engine.specs.State.{State}

-- a flag is not both set and clear
pub not_both : (b : Bool) → b ≡ true → b ≡ false → ⊥
not_both true set unset = cc
not_both false set unset = cc

-- a fault that was passed on
pub handed_on_is : {X : Type 0} (r : Result X Fault) (fault : Fault) → IsErrAnd r (λ f. f ≡ fault) → r ≡ Err fault
handed_on_is (Ok x) fault is = absurd is
handed_on_is (Err f) fault is = cc

-- neither is a fault of a disk
pub failed_no_device : Failed ≢ Device
failed_no_device e = cc

pub bad_crew_no_device : BadCrew ≢ Device
bad_crew_no_device e = cc

-- ---- a call made by another call

abbrev pub refused_as : {Y : Type 0} → Fault → Result Y Fault
refused_as fault = Err fault

-- the fault that is passed on is the one that the inner call must have
pub same_refusal : {X Y : Type 0} (r : Result X Fault) (f g : Fault) → r ≡ Err f → r ≡ Err g → refused_as {Y = Y} f ≡ refused_as {Y = Y} g
same_refusal {Y = Y} r f g was has = (let same : f ≡ g = cc in ap (λ (x : Fault). refused_as {Y = Y} x) same)

-- an inner call that succeeded was not refused
pub not_refused_too : {X : Type 0} (r : Result X Fault) (x : X) (f : Fault) → r ≡ Ok x → r ≡ Err f → ⊥
not_refused_too r x f was has = absurd (cc)

-- a store that has failed is not refused because of its disk
pub not_by_device : {X : Type 0} (r : Result X Fault) (f : Fault) → r ≡ Err f → r ≡ Err Failed → f ≢ Device
not_by_device r f was has device = absurd (cc)

-- ---- which calls are admitted

module _ {D X : Type 0} (able : Bool) (old : State D) where
  -- the store has failed
  pub failed_call : old.has_failed ≡ true → IsAdmitted {X = X} able old (Err Failed) old
  failed_call bad = record { failed = λ _. (refl, refl); bad_crew = λ fine. absurd (not_both old.has_failed bad fine) }

  -- the crew is out of range
  pub bad_crew_call : old.has_failed ≡ false → IsAdmitted {X = X} able old (Err BadCrew) old
  bad_crew_call fine = record { failed = λ bad. absurd (not_both old.has_failed bad fine); bad_crew = λ _ _. (refl, refl) }

  -- neither
  pub admitted_call : (r : Result X Fault) (new : State D) → old.has_failed ≡ false → IsTrue able → IsAdmitted able old r new
  admitted_call r new fine in_range = record { failed = λ bad. absurd (not_both old.has_failed bad fine); bad_crew = λ _ bad. absurd (not_both able in_range bad) }
