-- A clean, in terms of the claim.
use Rattle.std.specs.Prelude.{◌≡◌, ◌≢◌, ◌⊎◌, ℕ, suc, Bool, IsTrue, true, false, Option, Some, Result, Ok, Err, MatchResult, IfOk, IfErr, OnOk}
use Rattle.std.proofs.Common.{refl, sym, ap, ◌∙◌, subst, inl, inr, ⊎_elim}
use Rattle.keys.specs.Bytes.{Bytes}
use Rattle.keys.specs.declared.fault.Fault.{Fault}
use Rattle.keys.specs.declared.fault.Fault.TheVariants.{Failed, BadCrew, Device}
use Rattle.keys.specs.declared.settings.Settings.{Settings}
use Rattle.crew.specs.Crew.{is_crew}
use Rattle.crew.specs.declared.limits.Crew.{Crew}
use Rattle.mapping.specs.Levels.{contents}
use Rattle.mapping.specs.Tree.{Store, with_tree}
use Rattle.flush_log.specs.Disk.{View, IsSynced, LeavesOnly, Same}
use Rattle.flush_log.proofs.ViewLemmas.{weaker}
use Rattle.recovery.specs.InStep.{IsInStep, AreInStep}
use Rattle.recovery.specs.Recovered.{IsReadOf}
use Rattle.recovery.specs.StoreOfDisk.{store_of_disk}
use Rattle.cleaner.specs.AfterClean.{after_clean}
use Rattle.cleaner.specs.Cleaned.{IsCleanFault, WouldClean}
use Rattle.engine.specs.Claim.{FailsByDevice}
use Rattle.engine.specs.State.{State, IsSound}
use Rattle.engine.specs.StoreClaim.{cleaned_to, held_in, recovered_from, with_number}
use Rattle.engine.proofs.StepDone.{fine_where, able_where}

-- the consequences of a law of `cleaner` for it
abbrev pub KeepsDisk : Type 0
KeepsDisk = (s : Settings) (st on_disk now : Store) (file bytes : Bytes) → store_of_disk file ≡ Ok (s, on_disk) → AreInStep st on_disk → after_clean s st file ≡ Ok (now, bytes)
    → (store_of_disk bytes ≡ Ok (s, with_tree now on_disk.tree)) × IsInStep s now bytes

abbrev pub KeepsTree : Type 0
KeepsTree = (s : Settings) (st now : Store) (file bytes : Bytes) → after_clean s st file ≡ Ok (now, bytes)
    → (now.tree ≡ st.tree) × (now.head ≡ suc st.head) × (now.sequence ≡ suc st.sequence) × (now.version ≡ st.version)

-- the same is recovered
same_recovered : KeepsDisk → (s : Settings) (st now : Store) (file bytes : Bytes) → IsInStep s st file → after_clean s st file ≡ Ok (now, bytes) → recovered_from bytes ≡ recovered_from file
same_recovered keeps s st now file bytes (on_disk, is, step) made = ap held_in (keeps s st on_disk now file bytes is step made).0 ∙ sym (ap held_in is)

same_itself : (v : View) → Same v v
same_itself v = record { seen = refl; may_leave = λ c. ((λ p. p), (λ p. p)); moment = refl; left_since = λ t c. ((λ p. p), (λ p. p)) }

module _ {D : Type 0} (view : D → View) (failures : D → ℕ) (x y : State D) (crew : Crew) where
  abbrev seen : Bytes
  seen = (view x.disk).seen

  pub clean-contents : KeepsTree → (r : Result ℕ Fault)
      → (x.has_failed ≡ true → (r ≡ Err Failed) × (y ≡ x))
      → (x.has_failed ≡ false → is_crew crew ≡ false → (r ≡ Err BadCrew) × (y ≡ x))
      → (x.has_failed ≡ false → IsTrue (is_crew crew) → (file : Bytes) × IsReadOf (view x.disk) file
      × MatchResult r (λ head. (bytes : Bytes) × (after_clean x.settings x.store file ≡ Ok (y.store, bytes)) × (head ≡ y.store.head)) (IsCleanFault x.settings x.store file (failures x.disk) (failures y.disk)))
      → IfErr r (λ fault. y.store ≡ x.store) → contents y.store.tree ≡ contents x.store.tree
  clean-contents keeps (Err fault) failed bad read unchanged = ap (λ (st : Store). contents st.tree) unchanged
  clean-contents keeps (Ok n) failed bad read unchanged =
      let fine = fine_where x.has_failed (Ok n) n refl (λ h. (failed h).0) in
      let able = able_where (is_crew crew) (Ok n) n refl (λ h. (bad fine h).0) in
      let (file, is, (bytes, made, head)) = read fine able in
      ap contents (keeps x.settings x.store y.store file bytes made).0

  pub clean-state : (r : Result ℕ Fault)
      → (x.has_failed ≡ true → (r ≡ Err Failed) × (y ≡ x))
      → (x.has_failed ≡ false → is_crew crew ≡ false → (r ≡ Err BadCrew) × (y ≡ x))
      → (x.has_failed ≡ false → IsTrue (is_crew crew) → (file : Bytes) × IsReadOf (view x.disk) file
      × MatchResult r (λ head. (bytes : Bytes) × (after_clean x.settings x.store file ≡ Ok (y.store, bytes)) × (head ≡ y.store.head)) (IsCleanFault x.settings x.store file (failures x.disk) (failures y.disk)))
      → OnOk r (after_clean x.settings x.store seen ≡ Ok (y.store, (view y.disk).seen))
      → IfOk r (λ n. cleaned_to x.settings x.store seen ≡ Some (n, y.store, (view y.disk).seen))
  clean-state (Ok n) failed bad read made =
      let fine = fine_where x.has_failed (Ok n) n refl (λ h. (failed h).0) in
      let able = able_where (is_crew crew) (Ok n) n refl (λ h. (bad fine h).0) in
      let (file, is, (bytes, there, head)) = read fine able in
      ap (with_number (λ (z : Store). z.head)) made
      ∙ ap (λ (m : ℕ). (let p : Option (ℕ × Store × Bytes) = Some (m, y.store, (view y.disk).seen) in p)) (sym head)
  clean-state (Err fault) failed bad read made = tt

  -- the faults after which the store has failed
  pub clean-fails : (r : Result ℕ Fault)
      → OnOk r ((y.has_failed ≡ x.has_failed) × (failures y.disk ≡ failures x.disk))
      → IfErr r (λ fault. fault ≡ Device → y.has_failed ≡ true)
      → IfErr r (λ fault. fault ≢ Device → (y.has_failed ≡ x.has_failed) × (failures y.disk ≡ failures x.disk))
      → FailsByDevice r x.has_failed y.has_failed
  clean-fails (Ok n) counted device fine = counted.0
  clean-fails (Err fault) counted device fine = (device, (λ other. (fine other).0))

  -- any other fault leaves the disk as it was
  unwritten_by : (b : Bool) → x.has_failed ≡ b → IsTrue (view x.disk).is_honest → (r : Result ℕ Fault)
      → (x.has_failed ≡ true → (r ≡ Err Failed) × (y ≡ x))
      → (x.has_failed ≡ false → IsTrue (view x.disk).is_honest → IfErr r (λ fault. Same (view x.disk) (view y.disk) ⊎ ((fault ≡ Device) × WouldClean x.settings x.store seen)))
      → IfErr r (λ fault. fault ≢ Device → Same (view x.disk) (view y.disk))
  unwritten_by b is honest (Ok n) failed unwritten = tt
  unwritten_by true is honest (Err fault) failed unwritten = λ other. subst (λ (z : State D). Same (view x.disk) (view z.disk)) (sym (failed is).1) (same_itself (view x.disk))
  unwritten_by false is honest (Err fault) failed unwritten = λ other. ⊎_elim (λ same. same) (λ device. absurd (other device.0)) (unwritten is honest)

  pub clean-unwritten : IsTrue (view x.disk).is_honest → (r : Result ℕ Fault)
      → (x.has_failed ≡ true → (r ≡ Err Failed) × (y ≡ x))
      → (x.has_failed ≡ false → IsTrue (view x.disk).is_honest → IfErr r (λ fault. Same (view x.disk) (view y.disk) ⊎ ((fault ≡ Device) × WouldClean x.settings x.store seen)))
      → IfErr r (λ fault. fault ≢ Device → Same (view x.disk) (view y.disk))
  clean-unwritten = unwritten_by x.has_failed refl

  module _ (keeps : KeepsDisk) (sound : IsSound view x) (fine : x.has_failed ≡ false) where
    pub clean-durable : IsTrue (view x.disk).is_honest → (r : Result ℕ Fault) → OnOk r (after_clean x.settings x.store seen ≡ Ok (y.store, (view y.disk).seen))
        → OnOk r (recovered_from (view y.disk).seen ≡ recovered_from seen)
    clean-durable honest (Ok n) made = same_recovered keeps x.settings x.store y.store seen (view y.disk).seen (sound.step fine honest) made
    clean-durable honest (Err fault) made = tt

    pub clean-crash : IsSynced (view x.disk)
        → LeavesOnly (view x.disk) (view y.disk) (λ c. (store_of_disk c ≡ store_of_disk seen) ⊎ ((now : Store) × (after_clean x.settings x.store seen ≡ Ok (now, c))))
        → LeavesOnly (view x.disk) (view y.disk) (λ c. recovered_from c ≡ recovered_from seen)
    clean-crash is_synced run = weaker (view x.disk) (view y.disk) _ (λ c. recovered_from c ≡ recovered_from seen) left run
      where
        left : (c : Bytes) → (store_of_disk c ≡ store_of_disk seen) ⊎ ((now : Store) × (after_clean x.settings x.store seen ≡ Ok (now, c))) → recovered_from c ≡ recovered_from seen
        left c (inl before) = ap held_in before
        left c (inr (now, made)) = same_recovered keeps x.settings x.store now seen c (sound.step fine is_synced.honest) made
