-- One clean by a reading of the log, as a step of a play.
use Rattle.std.specs.Prelude.{◌≡◌, ◌≢◌, ◌⊎◌, ℕ, ◌≤◌, IsTrue, Bool, true, false, List, Ok}
use Rattle.std.proofs.Common.{refl, sym, ◌∙◌, subst, ⊎_elim}
use Rattle.std.proofs.lemmas.Bool.{true≢false}
use Rattle.keys.specs.declared.fault.Fault.{Fault}
use Rattle.keys.specs.declared.fault.Fault.TheVariants.{Device}
use Rattle.keys.specs.declared.settings.Settings.{Settings}
use Rattle.keys.specs.declared.version.Version.{Version}
use Rattle.mapping.specs.Tree.{Store}
use Rattle.flush_log.specs.Disk.{View, IsSynced, Kept, Same, LeavesOnly}
use Rattle.flush_log.specs.Ends.{ends_of}
use Rattle.flush_log.specs.Segments.{disk_size}
use Rattle.flush_log.specs.declared.slot.LogEnds.{LogEnds}
use Rattle.flush_log.proofs.ViewLemmas.{weaker}
use Rattle.recovery.specs.InStep.{IsInStep}
use Rattle.recovery.specs.Recovered.{IsReadOf}
use Rattle.recovery.specs.StoreOfDisk.{store_of_disk}
use Rattle.cleaner.specs.AfterClean.{after_clean}
use Rattle.cleaner.specs.Cleaned.{IsCleanFault}
use Rattle.cleaner.specs.PagesRead.{PagesRead, IsReadingOf}
use Rattle.engine.specs.Cleans.{IsReadFor, IsDoneClean, IsRefusedClean}
use Rattle.engine.specs.OneStep.{IsOnlyRead}
use Rattle.engine.specs.State.{State, IsSound}
use Rattle.engine.specs.Steps.Step.{Clean}
use Rattle.engine.proofs.CleanDone.{refused-sound}
use Rattle.engine.proofs.RefusedCalls.{not_both}
use Rattle.engine.proofs.StepDone.{clean_done, clean_refused, clean_left}

-- it was read for a store whose log has this format and these ends
pub read_for : {D : Type 0} (view : D → View) (s : Settings) (now : Store) (disk : D) (failed : Bool) (r : PagesRead) (version : Version) (e : LogEnds) → version ≡ now.version → e ≡ ends_of now
    → IsReadingOf (view disk) (record { settings = s; version = version }) e r → IsReadFor view (record { settings = s; store = now; disk = disk; has_failed = failed }) r
read_for view s now disk failed r version e same ends is =
    subst (λ (v : Version). IsReadingOf (view disk) (record { settings = s; version = v }) (ends_of now) r) same (subst (λ (u : LogEnds). IsReadingOf (view disk) (record { settings = s; version = version }) u r) ends is)

module _ {D : Type 0} (view : D → View) (failures : D → ℕ) (s : Settings) (st : Store) (old : D) (failed : Bool) where
  abbrev before : State D
  before = record { settings = s; store = st; disk = old; has_failed = failed }

  module _ (was : IsSound view before) (fine : failed ≡ false) (new : D) (keeps : Kept (view old) (view new)) where
    -- the disk was only read
    pub only_read : failures new ≡ failures old → (IsTrue (view old).is_honest → Same (view old) (view new))
        → IsOnlyRead view failures before (record { settings = s; store = st; disk = new; has_failed = failed })
    only_read counted same = record {
      rest = (refl, keeps);
      store = refl;
      counted = (refl, counted);
      same = same;
      sound = record {
        is = was.is;
        room = subst (λ (n : ℕ). disk_size s ≤ n) (sym keeps.size) was.room;
        step = λ none still. (
            let honest = subst IsTrue keeps.honest still in
            subst (λ (f : List ℕ). IsInStep s st f) (sym (same honest).seen) (was.step fine honest));
      };
    }

    -- a crash leaves the store before, or all that the clean leaves
    module _ (crash : IsSynced (view old) → IsInStep s st (view old).seen
        → LeavesOnly (view old) (view new) (λ c. (store_of_disk c ≡ store_of_disk (view old).seen) ⊎ ((now : Store) × (after_clean s st (view old).seen ≡ Ok (now, c))))) where
      -- it was done
      pub one_done : (now : Store) (head : ℕ) → head ≡ now.head
          → (file : List ℕ) × IsReadOf (view old) file × (bytes : List ℕ) × (after_clean s st file ≡ Ok (now, bytes))
          → (IsTrue (view old).is_honest → after_clean s st (view old).seen ≡ Ok (now, (view new).seen))
          → failures new ≡ failures old
          → (IsTrue (view old).is_honest → IsSynced (view new))
          → IsSound view (record { settings = s; store = now; disk = new; has_failed = failed })
          → IsDoneClean view failures before (record { settings = s; store = now; disk = new; has_failed = failed }) head
      one_done now head is (file, read, bytes, done) wrote counted is_synced sound = record {
        done = (bytes, record { file = file; read = read; done = clean_done s st now file Clean bytes head refl is done; words = tt });
        counted = (refl, counted);
        rest = (refl, keeps);
        failed = λ bad. absurd (not_both failed bad fine);
        bad_crew = λ _ bad. absurd (true≢false bad);
        refused = λ _ _. tt;
        undone = tt;
        device = tt;
        bytes = λ honest. clean_done s st now (view old).seen Clean (view new).seen head refl is (wrote honest);
        is_synced = λ still. is_synced still.honest;
        syncs = λ honest _. is_synced honest;
        crash = λ _ still. weaker (view old) (view new) _ _ (λ c left. clean_left s st (view old).seen Clean refl c left) (crash still (was.step fine still.honest));
        sound = (was, sound);
      }

      -- it was refused
      pub one_refused : (flag : Bool) (fault : Fault) (W : Type 0) → ((fault ≡ Device) × (flag ≡ true)) ⊎ ((fault ≢ Device) × (flag ≡ false))
          → (file : List ℕ) × IsReadOf (view old) file × IsCleanFault s st file (failures old) (failures new) fault
          → (IsTrue (view old).is_honest → Same (view old) (view new) ⊎ ((fault ≡ Device) × W))
          → (fault ≢ Device → failures new ≡ failures old)
          → IsRefusedClean view failures before (record { settings = s; store = st; disk = new; has_failed = flag }) fault
      one_refused flag fault W reported (file, read, why) written counted =
          let sound = refused-sound view s st old new failed was fine keeps flag fault W reported written in (
            fine,
            record {
              done = tt;
              counted = tt;
              rest = (refl, keeps);
              failed = λ bad. absurd (not_both failed bad fine);
              bad_crew = λ _ bad. absurd (true≢false bad);
              refused = λ _ _. (file, read, clean_refused s st file Clean refl (failures old) (failures new) fault why);
              undone = λ other. record {
                rest = (refl, keeps);
                store = refl;
                counted = (⊎_elim (λ yes. absurd (other yes.0)) (λ no. no.1 ∙ sym fine) reported, counted other);
                same = λ honest. ⊎_elim (λ same. same) (λ device. absurd (other device.0)) (written honest);
                sound = sound;
              };
              device = λ is. (refl, ⊎_elim (λ yes. yes.1) (λ no. absurd (no.0 is)) reported, tt);
              bytes = λ _. tt;
              is_synced = λ _. tt;
              syncs = λ _ _. tt;
              crash = λ _ still. weaker (view old) (view new) _ _ (λ c left. clean_left s st (view old).seen Clean refl c left) (crash still (was.step fine still.honest));
              sound = (was, sound);
            },
          )
