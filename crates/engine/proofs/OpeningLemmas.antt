-- Lemmas on opening the store in a file by options.
use Rattle.std.specs.Prelude.{⊤, if◌then◌else◌, MatchOption, MatchResult, IfOk, IfErr}
use Rattle.std.proofs.Common.{◌≡◌, ◌⊎◌, Bool, true, false, inl, inr, refl, sym, subst, [], Option, None, Some, Result, Ok, Err}
use Rattle.std.specs.declared.io.Error.{Error}
use Rattle.keys.specs.Bytes.{Bytes}
use Rattle.keys.specs.declared.fault.Fault.{Fault}
use Rattle.keys.specs.declared.fault.Fault.TheVariants.{BadCrew, BadSettings, NoMemory}
use Rattle.keys.specs.declared.settings.Field.{Field}
use Rattle.keys.specs.declared.settings.Settings.{Settings}
use Rattle.recovery.specs.StoreOfDisk.{store_of_disk}
use Rattle.engine.specs.FileStore.{IsFaultOfFile, IsNewStore}
use Rattle.engine.specs.Opening.{HasOpenFault, IsFaultOfStore, IsOpenedBy, IsRefusedBy}
use Rattle.engine.specs.State.{State}
use Rattle.engine.specs.declared.file_store.OpenFault.{OpenFault}
use Rattle.engine.specs.declared.file_store.OpenFault.TheVariants as open_fault
use Rattle.engine.specs.declared.options.Access.{Access}
use Rattle.engine.specs.declared.options.Access.TheVariants.{ReadOnly, Existing, Create}
use Rattle.engine.specs.declared.options.Creation.TheVariants.{IfMissing, New}
use Rattle.engine.specs.declared.options.OpenError.{OpenError}
use Rattle.engine.proofs.FileStoreLemmas.{IsReported, of_system}

-- ---- the reported fault

-- a fault of a file that may get a store is also one of a file that has to have one
pub of_store : (file : Bytes) (reported : OpenFault) → IsFaultOfFile file reported → IsFaultOfStore file reported
of_store file open_fault.Locked is = is
of_store file (open_fault.File reason) is = is
of_store file (open_fault.Store fault) (inl memory) = inl memory
of_store file (open_fault.Store fault) (inr is) = inr is.1

-- the bytes of the file have the fault
pub of_damaged : (file : Bytes) (fault : Fault) (reason : Option Error) (reported : OpenFault) → store_of_disk file ≡ Err fault → IsReported fault reason reported → IsFaultOfStore file reported
of_damaged file fault reason reported is (inr (other, e)) = rw e (inr is)
of_damaged file fault reason reported is (inl (device, by)) = by_reason reason by where
  by_reason : (reason : Option Error) → MatchOption reason (reported ≡ open_fault.Store fault) (λ r. reported ≡ open_fault.File r) → IsFaultOfStore file reported
  by_reason None e = rw e (inr is)
  by_reason (Some r) e = rw e tt

-- the system refused a call
pub refused_by_system : (access : Access) (file : Bytes) (fault : OpenFault) (reason : Error) → (fault ≡ open_fault.Locked) ⊎ (fault ≡ open_fault.File reason) → IsRefusedBy access file fault
refused_by_system ReadOnly file fault reason is = of_store file fault (of_system file fault reason is)
refused_by_system Existing file fault reason is = of_store file fault (of_system file fault reason is)
refused_by_system (Create IfMissing settings) file fault reason is = of_system file fault reason is
refused_by_system (Create New settings) file fault reason is = of_system [] fault reason is

-- a new store, in a file that was empty
pub of_created : {D : Type 0} (s : Settings) (r : Result (State D) OpenFault) → IfOk r (IsNewStore s) → IfErr r (λ fault. (file : Bytes) → IsFaultOfFile file fault)
    → MatchResult r (IsNewStore s) (IsFaultOfFile [])
of_created s (Ok x) made refused = made
of_created s (Err e) made refused = refused []

-- ---- the handle of the store that was opened

-- a store was opened, so the crew is in range
pub in_range_if_opened : {X : Type 0} (able : Bool) (opened : Result X OpenFault) (x : X) → opened ≡ Ok x → (able ≡ false → opened ≡ Err (open_fault.Store BadCrew)) → able ≡ true
in_range_if_opened true opened x is bad = refl
in_range_if_opened false opened x is bad = (let never = bad refl in absurd (cc))

pub opened_has : {X : Type 0} (opened : Result X OpenFault) (x : X) (P : X → Type 0) → opened ≡ Ok x → IfOk opened P → P x
opened_has {X = X} opened x P is has = subst (λ (r : Result X OpenFault). IfOk r P) is has

-- the pairs of a store were not counted, and its crew is in range
pub by_crew : (able : Bool) (fault : Fault) → able ≡ true → fault ≡ (if able then NoMemory else BadCrew) → fault ≡ NoMemory
by_crew true fault able is = is
by_crew false fault able is = absurd (cc)

-- out of memory, for any file
no_memory : (access : Access) (file : Bytes) → IsRefusedBy access file (open_fault.Store NoMemory)
no_memory ReadOnly file = inl refl
no_memory Existing file = inl refl
no_memory (Create IfMissing settings) file = inl refl
no_memory (Create New settings) file = inl refl

-- What a call that opens promises of its result, if the crew is in range.
abbrev IsOpening : {D : Type 0} → Option Field → Access → Result (State D) OpenFault → Type 0
IsOpening o access opened = MatchOption o ((file : Bytes) × MatchResult opened (IsOpenedBy access file) (IsRefusedBy access file)) (λ field. opened ≡ Err (open_fault.Store (BadSettings field)))

abbrev opened_as : {D : Type 0} → State D → Result (State D) OpenFault
opened_as x = Ok x

abbrev refused_as : (D : Type 0) → OpenFault → Result (State D) OpenFault
refused_as D fault = Err fault

not_opened : {D : Type 0} (x : State D) (fault : OpenFault) → opened_as x ≡ refused_as D fault → ⊥
not_opened x fault e = cc

uncounted_by : {D : Type 0} (o : Option Field) (access : Access) (x : State D) → IsOpening o access (opened_as x) → IsOpening o access (refused_as D (open_fault.Store NoMemory))
uncounted_by None access x (file, was) = (file, no_memory access file)
uncounted_by (Some field) access x was = absurd (not_opened x (open_fault.Store (BadSettings field)) was)

module _ {D : Type 0} (o : Option Field) (access : Access) (opened : Result (State D) OpenFault) (was : IsOpening o access opened) where
  -- the store was not opened
  pub passed_on : (fault : OpenFault) → opened ≡ Err fault → IsOpening o access (refused_as D fault)
  passed_on fault is = subst (IsOpening o access) is was

  module _ (x : State D) (is : opened ≡ Ok x) where
    -- the pairs were not counted
    pub uncounted : (fault : Fault) → fault ≡ NoMemory → IsOpening o access (refused_as D (open_fault.Store fault))
    uncounted fault same = subst (λ (f : Fault). IsOpening o access (refused_as D (open_fault.Store f))) (sym same) (uncounted_by o access x (subst (IsOpening o access) is was))

    -- they were counted
    pub same_store : (y : State D) → y ≡ x → IsOpening o access (opened_as y)
    same_store y same = subst (λ (z : State D). IsOpening o access (opened_as z)) (sym same) (subst (IsOpening o access) is was)

-- ---- the error with the path

-- the result has the same value or the same fault
abbrev IsSame : {X : Type 0} → Result X OpenFault → Result X OpenError → Type 0
IsSame opened result = MatchResult opened (λ x. result ≡ Ok x) (HasOpenFault result)

pub same_fault : {X : Type 0} (opened : Result X OpenFault) (result : Result X OpenError) (fault : OpenFault) → IsSame opened result → opened ≡ Err fault → HasOpenFault result fault
same_fault opened result fault same is = subst (λ (r : Result _ OpenFault). IsSame r result) is same

pub same_if_ok : {X : Type 0} (opened : Result X OpenFault) (result : Result X OpenError) (P : X → Type 0) → IsSame opened result → IfOk opened P → IfOk result P
same_if_ok (Ok x) result P same is = rw same is
same_if_ok (Err fault) (Ok x) P same is = absurd same
same_if_ok (Err fault) (Err error) P same is = tt

pub same_match : {X : Type 0} (opened : Result X OpenFault) (result : Result X OpenError) (P : X → Type 0) (Q : OpenFault → Type 0) → IsSame opened result → MatchResult opened P Q
    → MatchResult result P (λ error. Q error.fault)
same_match (Ok x) result P Q same is = rw same is
same_match (Err fault) (Ok x) P Q same is = absurd same
same_match (Err fault) (Err error) P Q same is = rw same is

-- if no field is out of range, a store or a fault by the bytes of the file; else the field is reported
pub same_unless : {X : Type 0} (o : Option Field) (opened : Result X OpenFault) (result : Result X OpenError) (P : Bytes → X → Type 0) (Q : Bytes → OpenFault → Type 0) → IsSame opened result
    → MatchOption o ((file : Bytes) × MatchResult opened (P file) (Q file)) (λ field. opened ≡ Err (open_fault.Store (BadSettings field)))
    → MatchOption o ((file : Bytes) × MatchResult result (P file) (λ error. Q file error.fault)) (λ field. HasOpenFault result (open_fault.Store (BadSettings field)))
same_unless None opened result P Q same (file, is) = (file, same_match opened result (P file) (Q file) same is)
same_unless (Some field) opened result P Q same is = same_fault opened result (open_fault.Store (BadSettings field)) same is

pub same_field : {X : Type 0} (o : Option Field) (opened : Result X OpenFault) (result : Result X OpenError) → IsSame opened result → MatchOption o ⊤ (λ field. opened ≡ Err (open_fault.Store (BadSettings field)))
    → MatchOption o ⊤ (λ field. HasOpenFault result (open_fault.Store (BadSettings field)))
same_field None opened result same is = tt
same_field (Some field) opened result same is = same_fault opened result (open_fault.Store (BadSettings field)) same is
