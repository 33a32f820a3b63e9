-- A flush and an upgrade, in terms of the claim.
use Rattle.std.specs.Prelude.{◌≡◌, ◌≢◌, ◌⊎◌, ℕ, IsTrue, true, false, [], Option, Some, Result, Ok, Err, IfOk, IfErr, OnOk}
use Rattle.std.proofs.Common.{refl, sym, ap, ◌∙◌, subst, inl, inr, ⊎_elim}
use Rattle.keys.specs.Bytes.{Bytes, Pairs}
use Rattle.keys.specs.declared.fault.Fault.{Fault}
use Rattle.keys.specs.declared.fault.Fault.TheVariants.{Device, Failed, BadCrew}
use Rattle.keys.specs.declared.settings.Settings.{Settings}
use Rattle.crew.specs.Crew.{is_crew}
use Rattle.crew.specs.declared.limits.Crew.{Crew}
use Rattle.mapping.specs.Levels.{contents}
use Rattle.mapping.specs.Tree.{Store}
use Rattle.flush_log.specs.Disk.{View, Lawful, IsSynced, LeavesOnly}
use Rattle.flush_log.specs.FlushText.{flushed, flush_frames}
use Rattle.flush_log.proofs.SameLemmas.{leaves_itself}
use Rattle.flush_log.proofs.ViewLemmas.{weaker}
use Rattle.recovery.specs.InStep.{IsStore, IsStoreOf}
use Rattle.recovery.specs.StoreOfDisk.{store_of_disk}
use Rattle.engine.specs.Claim.{Held, FailsByDevice, RecoversEither}
use Rattle.engine.specs.State.{State, IsSound}
use Rattle.engine.specs.StoreClaim.{held_in, recovered_from, with_number}
use Rattle.engine.proofs.PlayTurn.{device_or_not}
use Rattle.engine.proofs.StepDone.{fine_where, able_where, empty_or_not}

module _ {D : Type 0} (x y : State D) where
  -- the faults after which the store has failed
  pub written-fails : (r : Result ℕ Fault) (failures : D → ℕ)
      → OnOk r ((y.has_failed ≡ x.has_failed) × (failures y.disk ≡ failures x.disk))
      → IfErr r (λ fault. fault ≡ Device → (y.store ≡ x.store) × (y.has_failed ≡ true))
      → IfErr r (λ fault. fault ≢ Device → y ≡ x) → FailsByDevice r x.has_failed y.has_failed
  written-fails (Ok n) failures counted device unchanged = counted.0
  written-fails (Err fault) failures counted device unchanged = ((λ is. (device is).1), (λ other. ap (λ (z : State D). z.has_failed) (unchanged other)))

-- the result of a call that writes, and the frames that it writes
module _ (after : Settings → Store → Bytes → Result (Store × Bytes) Fault) (Frames : Settings → Store → Type 0) where
  -- the consequences of two laws of `recovery` for it
  abbrev pub KeepsTree : Type 0
  KeepsTree = (s : Settings) (st now : Store) (file bytes : Bytes) → IsStore s st → after s st file ≡ Ok (now, bytes) → now.tree ≡ flushed st.tree

  abbrev pub IsRead : Type 0
  IsRead = (s : Settings) (st now : Store) (file bytes : Bytes) → IsStoreOf s st file → Frames s st → after s st file ≡ Ok (now, bytes)
      → (store_of_disk bytes ≡ Ok (s, now)) × IsStoreOf s now bytes

  module _ (trees : KeepsTree) where
    same_pairs : (s : Settings) (st now : Store) (file bytes : Bytes) → IsStore s st → after s st file ≡ Ok (now, bytes) → contents now.tree ≡ contents st.tree
    same_pairs s st now file bytes is made = ap contents (trees s st now file bytes is made)

    -- the written store has the contents of the store
    recovered : IsRead → (s : Settings) (st now : Store) (file bytes : Bytes) → IsStoreOf s st file → Frames s st → after s st file ≡ Ok (now, bytes)
        → recovered_from bytes ≡ Some (s, contents st.tree)
    recovered reads s st now file bytes is frames made =
        ap held_in (reads s st now file bytes is frames made).0
        ∙ ap (λ (m : Pairs Bytes). (let h : Option Held = Some (s, m) in h)) (same_pairs s st now file bytes is.is made)

    module _ {D : Type 0} (view : D → View) (x y : State D) (sound : IsSound view x) where
      abbrev seen : Bytes
      seen = (view x.disk).seen

      pub written-contents : (r : Result ℕ Fault)
          → IfOk r (λ n. (n ≡ y.store.sequence) × ((bytes : Bytes) × (after x.settings x.store seen ≡ Ok (y.store, bytes))))
          → IfErr r (λ fault. fault ≢ Device → y ≡ x)
          → IfErr r (λ fault. fault ≡ Device → (y.store ≡ x.store) × (y.has_failed ≡ true))
          → contents y.store.tree ≡ contents x.store.tree
      written-contents (Ok n) ok unchanged device = let (is, (bytes, made)) = ok in same_pairs x.settings x.store y.store seen bytes sound.is made
      written-contents (Err fault) ok unchanged device =
          ⊎_elim
          (λ is. ap (λ (st : Store). contents st.tree) (device is).0)
          (λ other. ap (λ (z : State D). contents z.store.tree) (unchanged other.0))
          (device_or_not fault)

      pub written-state : (r : Result ℕ Fault)
          → IfOk r (λ n. (n ≡ y.store.sequence) × ((bytes : Bytes) × (after x.settings x.store seen ≡ Ok (y.store, bytes))))
          → OnOk r (after x.settings x.store seen ≡ Ok (y.store, (view y.disk).seen))
          → IfOk r (λ n. with_number (λ (z : Store). z.sequence) (after x.settings x.store seen) ≡ Some (n, y.store, (view y.disk).seen))
      written-state (Ok n) (is, there) made =
          ap (with_number (λ (z : Store). z.sequence)) made
          ∙ ap (λ (m : ℕ). (let p : Option (ℕ × Store × Bytes) = Some (m, y.store, (view y.disk).seen) in p)) (sym is)
      written-state (Err fault) ok made = tt

      module _ (reads : IsRead) where
        in_step : x.has_failed ≡ false → IsTrue (view x.disk).is_honest → IsStoreOf x.settings x.store seen
        in_step fine honest = record { is = sound.is; step = sound.step fine honest }

        pub written-durable : (r : Result ℕ Fault) → (x.has_failed ≡ true → r ≡ Err Failed) → IsTrue (view x.disk).is_honest
            → OnOk r (after x.settings x.store seen ≡ Ok (y.store, (view y.disk).seen))
            → OnOk r (Frames x.settings x.store)
            → OnOk r (recovered_from (view y.disk).seen ≡ Some (x.settings, contents x.store.tree))
        written-durable (Ok n) failed honest bytes frames =
            recovered reads x.settings x.store y.store seen (view y.disk).seen (in_step (fine_where x.has_failed (Ok n) n refl failed) honest) frames bytes
        written-durable (Err fault) failed honest bytes frames = tt

        module _ (fine : x.has_failed ≡ false) (is_synced : IsSynced (view x.disk)) (lawful : Lawful (view x.disk)) where
          abbrev Left : Bytes → Type 0
          Left = RecoversEither recovered_from (recovered_from seen) (Some (x.settings, contents x.store.tree))

          left : Frames x.settings x.store → (c : Bytes)
              → (store_of_disk c ≡ store_of_disk seen) ⊎ ((now : Store) × (after x.settings x.store seen ≡ Ok (now, c))) → Left c
          left frames c (inl before) = inl (ap held_in before)
          left frames c (inr (now, made)) = inr (recovered reads x.settings x.store now seen c (in_step fine is_synced.honest) frames made)

          pub written-crash : (r : Result ℕ Fault)
              → OnOk r (Frames x.settings x.store)
              → IfErr r (λ fault. fault ≡ Device → Frames x.settings x.store)
              → IfErr r (λ fault. fault ≢ Device → y ≡ x)
              → LeavesOnly (view x.disk) (view y.disk) (λ c. (store_of_disk c ≡ store_of_disk seen) ⊎ ((now : Store) × (after x.settings x.store seen ≡ Ok (now, c))))
              → LeavesOnly (view x.disk) (view y.disk) Left
          written-crash (Ok n) frames under_way unchanged run = weaker (view x.disk) (view y.disk) _ Left (left frames) run
          written-crash (Err fault) frames under_way unchanged run =
              ⊎_elim
              (λ device. weaker (view x.disk) (view y.disk) _ Left (left (under_way device)) run)
              (λ other. subst (λ (z : State D). LeavesOnly (view x.disk) (view z.disk) Left) (sym (unchanged other.0))
              (leaves_itself (view x.disk) Left lawful is_synced (inl refl)))
              (device_or_not fault)

-- after a flush that has nothing to write, the disk is synced
module _ {D : Type 0} (view : D → View) (x y : State D) (crew : Crew) where
  pub flush-is_synced : IsSynced (view x.disk) → (r : Result ℕ Fault) → (x.has_failed ≡ true → r ≡ Err Failed)
      → (x.has_failed ≡ false → is_crew crew ≡ false → r ≡ Err BadCrew)
      → (x.has_failed ≡ false → IsTrue (is_crew crew) → flush_frames x.store.version x.store.tree ≡ [] → (r ≡ Ok x.store.sequence) × (y ≡ x))
      → (flush_frames x.store.version x.store.tree ≢ [] → OnOk r (IsSynced (view y.disk)))
      → OnOk r (IsSynced (view y.disk))
  flush-is_synced is_synced (Err fault) failed bad nothing some = tt
  flush-is_synced is_synced (Ok n) failed bad nothing some =
      let fine = fine_where x.has_failed (Ok n) n refl failed in
      let able = able_where (is_crew crew) (Ok n) n refl (bad fine) in
      ⊎_elim
      (λ none. subst (λ (z : State D). IsSynced (view z.disk)) (sym (nothing fine able none).1) is_synced)
      (λ due. some due)
      (empty_or_not (flush_frames x.store.version x.store.tree))
