-- A store in memory after a clean.
use Rattle.std.specs.Prelude.{◌≡◌, ◌≢◌, ◌⊎◌, ℕ, ◌≤◌, IsTrue, Bool, true, false, List, Result, Ok}
use Rattle.std.proofs.Common.{sym, ap, ◌∙◌, subst, ⊎_elim}
use Rattle.keys.specs.declared.fault.Fault.{Fault}
use Rattle.keys.specs.declared.fault.Fault.TheVariants.{Device}
use Rattle.keys.specs.declared.settings.Settings.{Settings}
use Rattle.keys.specs.declared.version.Version.{Version}
use Rattle.mapping.specs.Tree.{Store}
use Rattle.mapping.specs.TreeInMemory.{TreeInMemory, tree_of}
use Rattle.flush_log.specs.AfterFlush.{store_after}
use Rattle.flush_log.specs.Disk.{View, Kept, Same}
use Rattle.flush_log.specs.Segments.{disk_size}
use Rattle.flush_log.specs.Slot.{Slot}
use Rattle.flush_log.specs.declared.slot.LogEnds.{LogEnds}
use Rattle.recovery.specs.InStep.{IsInStep, IsStore, IsStoreOf}
use Rattle.cleaner.specs.AfterClean.{after_clean}
use Rattle.engine.specs.State.{IsSound, store_in}
use Rattle.engine.proofs.CreateLemmas.{slot_with, opened-is}

-- a clean that read these bytes and succeeded leaves the store with the new slot
pub cleaned-now : (r : Result (Store × List ℕ) Fault) (tree : TreeInMemory) (slot : Slot) (log : LogEnds) (root height : ℕ) (version : Version) (bytes : List ℕ) → slot_with log root height version ≡ slot
    → r ≡ Ok (store_after (tree_of tree) slot, bytes) → r ≡ Ok (store_in tree log version, bytes)
cleaned-now r tree slot log root height version bytes same done =
    done ∙ ap (λ (st : Store). (let q : Result (Store × List ℕ) Fault = Ok (st, bytes) in q)) (sym (opened-is tree slot log root height version same))

module _ {D : Type 0} (view : D → View) (s : Settings) (st : Store) (old new : D) (failed : Bool)
    (was : IsSound view (record { settings = s; store = st; disk = old; has_failed = failed })) (fine : failed ≡ false) (keeps : Kept (view old) (view new)) where
  -- the store is still sound
  pub cleaned-sound : (now : Store) (file bytes : List ℕ)
      → ((s : Settings) (st now : Store) (file bytes : List ℕ) → IsStore s st → after_clean s st file ≡ Ok (now, bytes) → IsStore s now)
      → ((s : Settings) (st now : Store) (file bytes : List ℕ) → IsStoreOf s st file → after_clean s st file ≡ Ok (now, bytes) → IsStoreOf s now bytes)
      → after_clean s st file ≡ Ok (now, bytes) → (IsTrue (view old).is_honest → after_clean s st (view old).seen ≡ Ok (now, (view new).seen))
      → IsSound view (record { settings = s; store = now; disk = new; has_failed = failed })
  cleaned-sound now file bytes kept step done wrote = record {
    is = kept s st now file bytes was.is done;
    room = subst (λ (n : ℕ). disk_size s ≤ n) (sym keeps.size) was.room;
    step = λ _ still. (
        let honest = subst IsTrue keeps.honest still in
        (step s st now (view old).seen (view new).seen (record { is = was.is; step = was.step fine honest }) (wrote honest)).step);
  }

  -- also if the clean was refused
  pub refused-sound : (b : Bool) (fault : Fault) (W : Type 0) → ((fault ≡ Device) × (b ≡ true)) ⊎ ((fault ≢ Device) × (b ≡ false)) → (IsTrue (view old).is_honest → Same (view old) (view new) ⊎ ((fault ≡ Device) × W))
      → IsSound view (record { settings = s; store = st; disk = new; has_failed = b })
  refused-sound b fault W reported written = record {
    is = was.is;
    room = subst (λ (n : ℕ). disk_size s ≤ n) (sym keeps.size) was.room;
    step = λ none still. (
        let honest = subst IsTrue keeps.honest still in
        ⊎_elim
        (λ same. subst (λ (f : List ℕ). IsInStep s st f) (sym same.seen) (was.step fine honest))
        (λ device. ⊎_elim (λ yes. (let has = yes.1 in absurd (cc))) (λ no. absurd (no.0 device.0)) reported)
        (written honest));
  }
