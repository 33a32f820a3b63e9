-- The store that a session opens.
use Rattle.std.proofs.Common.{◌≡◌, ◌≢◌, ◌⊎◌, inl, inr, ◌≤◌, ℕ, false, sym, List, [], Option, None, Some, Result, Ok, Err, refl, ap, ◌∙◌, subst, arith}
use Rattle.std.specs.Prelude.{IsTrue, length, replicate, MatchOption, nat_lt}
use Rattle.std.proofs.lemmas.Bool.Decides.{nat_tests}
use Rattle.keys.specs.Limits.{first_bad_field}
use Rattle.keys.specs.declared.fault.Fault.{Fault}
use Rattle.keys.specs.declared.fault.Fault.TheVariants.{BadSettings}
use Rattle.keys.specs.declared.fault.Fault.TheVariants as fault
use Rattle.keys.specs.declared.settings.Field.{Field}
use Rattle.keys.specs.declared.settings.Settings.{Settings}
use Rattle.mapping.specs.Tree.{Store}
use Rattle.flush_log.specs.Disk.{View, IsSynced, Kept}
use Rattle.flush_log.specs.NewStore.{disk_of_new}
use Rattle.flush_log.specs.Segments.{disk_size}
use Rattle.recovery.specs.Recovered.{IsLate}
use Rattle.recovery.specs.StoreOfDisk.{first_store, store_of_disk}
use Rattle.engine.specs.Late.{create_refusal, made_unless, after_create}
use Rattle.engine.specs.Copies.{IsCopyFault}
use Rattle.engine.specs.State.{State}
use Rattle.bwsh.specs.declared.session.SessionError.{SessionError}
use Rattle.bwsh.specs.declared.session.SessionError.TheVariants.{Device}
use Rattle.bwsh.specs.declared.session.SessionError.TheVariants as errors
use Rattle.bwsh.specs.Options.{Request, Text}
use Rattle.bwsh.specs.Session.{Start, IsCopyEnd, IsStartBy, Opens, IsUnopened, start_unless, start_by, first_stored, new_start, found_start}

-- an early end for a fault: a failure of a device is reported as such
abbrev pub IsEndingOf : Fault → SessionError → Type 0
IsEndingOf f early = ((f ≡ fault.Device) × (early ≡ Device)) ⊎ ((f ≢ fault.Device) × (early ≡ errors.Fault f))

-- allocation failed, or a device failed
late : (start : Start) (old new : ℕ) (f : Fault) (early : SessionError) → IsLate old new f → IsEndingOf f early → IsUnopened start early
late start old new f early memory_or_device (inl device) = inr (inr device.1)
late start old new f early (inl memory) (inr other) = inr (inl (other.1 ∙ ap (λ (x : Fault). errors.Fault x) memory))
late start old new f early (inr device) (inr other) = absurd (other.0 device.0)

-- there is no store because of this fault
right : (start : Start) (f : Fault) (early : SessionError) → start ≡ Err f → IsEndingOf f early → IsUnopened start early
right start f early is (inl device) = inr (inr device.1)
right start f early is (inr other) = inl (f, is, other.1)

-- ---- a new store

abbrev refusal : Fault → Result (Unit {0}) Fault
refusal f = Err f

module _ (settings : Settings) (file : List ℕ) where
  start_by_field : (o : Option Field) → first_bad_field settings ≡ o → new_start settings file ≡ start_unless o settings (first_stored settings file)
  start_by_field o e = ap (λ (x : Option Field). start_unless x settings (first_stored settings file)) e

  -- the settings are refused
  pub IsUnopened-checked : (f : Fault) → MatchOption (first_bad_field settings) (refusal f ≡ Ok tt) (λ field. refusal f ≡ Err (BadSettings field)) → IsUnopened (new_start settings file) (errors.Fault f)
  IsUnopened-checked f checked = by (first_bad_field settings) refl checked where
    by : (o : Option Field) → first_bad_field settings ≡ o → MatchOption o (refusal f ≡ Ok tt) (λ field. refusal f ≡ Err (BadSettings field)) → IsUnopened (new_start settings file) (errors.Fault f)
    by None good checked = absurd (cc)
    by (Some field) bad checked = let is : f ≡ BadSettings field = cc in inl (BadSettings field, start_by_field (Some field) bad, ap (λ (x : Fault). errors.Fault x) is)

  module _ (good : first_bad_field settings ≡ None) where
    is_new : new_start settings file ≡ Ok (settings, first_stored settings file)
    is_new = start_by_field None good

    -- it is not refused on a disk with room
    pub unrefused : (size : ℕ) → disk_size settings ≤ size → create_refusal settings size ≡ None
    unrefused size room =
        let no : nat_lt size (disk_size settings) ≡ false = grind (arith, nat_tests) in
        rw (good, no) refl

    -- it is created on a disk that is as honest as before
    pub Opens-made : {D : Type 0} (view : D → View) (x : State D) (old : View) → x.settings ≡ settings → x.store ≡ first_store → x.has_failed ≡ false → (view x.disk).is_honest ≡ old.is_honest
        → (IsTrue old.is_honest → old.seen ≡ file) → (IsTrue old.is_honest → (after_create settings old.seen ≡ Ok (x.store, (view x.disk).seen)) × IsSynced (view x.disk))
        → disk_size settings ≤ old.size → (IsTrue old.is_honest → length old.seen ≡ old.size) → Opens view (new_start settings file) (Ok x)
    Opens-made view x old e_settings e_store fine honest_is seen_is made room whole = (
      disk_of_new settings file,
      rw (e_settings, e_store) is_new,
      λ honest.
          let h : IsTrue old.is_honest = subst IsTrue honest_is honest in
          bytes_by old.seen x.store (view x.disk).seen (seen_is h) (rw (whole h) room) (made h).0,
      fine,
    ) where
      bytes_by : (seen : List ℕ) (st : Store) (now : List ℕ) → seen ≡ file → disk_size settings ≤ length seen → after_create settings seen ≡ Ok (st, now) → now ≡ disk_of_new settings file
      bytes_by seen st now same fits e =
          let none = unrefused (length seen) fits in
          let made_of : made_unless None settings seen ≡ Ok (st, now) = subst (λ (o : Option Fault). made_unless o settings seen ≡ Ok (st, now)) none e in
          let pair : (let p : Store × List ℕ = (first_store, disk_of_new settings seen) in p ≡ (st, now)) = cc in
          sym (ap (λ (p : Store × List ℕ). p.1) pair) ∙ ap (disk_of_new settings) same

    pub IsUnopened-unmade : (size old new : ℕ) (f : Fault) (early : SessionError) (Other : Fault → Type 0) → disk_size settings ≤ size
        → MatchOption (create_refusal settings size) (IsLate old new f) Other → IsEndingOf f early → IsUnopened (new_start settings file) early
    IsUnopened-unmade size old new f early Other room refused ending =
        late (new_start settings file) old new f early (subst (λ (o : Option Fault). MatchOption o (IsLate old new f) Other) (unrefused size room) refused) ending

-- ---- a copy

-- the reason why there is none
pub IsCopyEnd-refused : (settings : Settings) (m : List (List ℕ × List ℕ)) (size old new : ℕ) (f : Fault) (early : SessionError) (Other : Fault → Type 0) → first_bad_field settings ≡ None
    → disk_size settings ≤ size → MatchOption (create_refusal settings size) (IsCopyFault settings m old new f) Other → IsEndingOf f early → IsCopyEnd settings m early
IsCopyEnd-refused settings m size old new f early Other good room refused ending =
    by (subst (λ (o : Option Fault). MatchOption o (IsCopyFault settings m old new f) Other) (unrefused settings [] good size room) refused) ending
  where
    by : IsCopyFault settings m old new f → IsEndingOf f early → IsCopyEnd settings m early
    by why (inl device) = inr (inr device.1)
    by (inl (inl memory)) (inr other) = inr (inl (other.1 ∙ ap (λ (x : Fault). errors.Fault x) memory))
    by (inl (inr device)) (inr other) = absurd (other.0 device.0)
    by (inr why) (inr other) = inl (f, other.1, why)

-- ---- the store of a file

-- it was opened on a disk whose reads give the same as before
pub Opens-found : {D : Type 0} (view : D → View) (file : List ℕ) (old : View) (x : State D) → store_of_disk file ≡ Ok (x.settings, x.store) → x.has_failed ≡ false → Kept old (view x.disk)
    → (IsTrue old.is_honest → file ≡ old.seen) → (IsTrue old.is_honest → (view x.disk).seen ≡ old.seen) → Opens view (found_start file) (Ok x)
Opens-found view file old x e fine kept read seen =
    (file, ap (start_by file) e, λ honest. let h : IsTrue old.is_honest = subst IsTrue kept.honest honest in seen h ∙ sym (read h), fine)

pub IsUnopened-found : (file : List ℕ) (old new : ℕ) (f : Fault) (early : SessionError) → (store_of_disk file ≡ Err f) ⊎ IsLate old new f → IsEndingOf f early → IsUnopened (found_start file) early
IsUnopened-found file old new f early (inl own) ending = right (found_start file) f early (ap (start_by file) own) ending
IsUnopened-found file old new f early (inr later) ending = late (found_start file) old new f early later ending

-- ---- the start that the words ask for

-- in memory
pub IsStartBy-memory : (request : Request) → request.disk ≡ None
    → IsStartBy request.settings request.disk request.create None (new_start request.settings (replicate (disk_size request.settings) 0))
IsStartBy-memory request none =
    let start : Start = new_start request.settings (replicate (disk_size request.settings) 0) in
    subst (λ (d : Option Text). IsStartBy request.settings d request.create None start) (sym none) refl
