-- Lemmas on a flush in parts.
use Rattle.std.specs.Prelude.{◌≡◌, ◌≢◌, ◌⊎◌, ◌≤◌, ℕ, IsTrue, true, false, List, [], Ok, Err}
use Rattle.std.proofs.Common.{refl, sym, ap, ◌∙◌, subst, inl, inr}
use Rattle.std.proofs.lemmas.Bool.{false≢true, true≢false}
use Rattle.std.specs.declared.alloc.Global.{Global}
use Rattle.keys.specs.declared.fault.Fault.{Fault}
use Rattle.keys.specs.declared.fault.Fault.TheVariants.{NoMemory, Device}
use Rattle.keys.specs.declared.settings.Settings.{Settings}
use Rattle.mapping.specs.Tree.{Store}
use Rattle.flush_log.specs.AfterFlush.{slot_of, store_after}
use Rattle.flush_log.specs.CommitPlan.{CommitPlan, LeftOf, file_with, next_tail}
use Rattle.flush_log.specs.Disk.{View, HasFailed, IsSynced, Kept, Lawful, LeavesOnly}
use Rattle.flush_log.specs.FlushText.{flush_frames, flushed}
use Rattle.flush_log.specs.Segments.{disk_size}
use Rattle.flush_log.specs.Slot.{Slot}
use Rattle.flush_log.specs.declared.text.CommitKind.{CommitKind}
use Rattle.flush_log.specs.declared.text.CommitKind.TheVariants as texts
use Rattle.flush_log.proofs.SameLemmas.{leaves_itself}
use Rattle.flush_log.proofs.ViewLemmas.{weaker}
use Rattle.recovery.specs.InStep.{IsStoreOf}
use Rattle.recovery.proofs.FlushBack.{left}
use Rattle.recovery.proofs.ReadBytes.{kept_self}
use Rattle.engine.specs.Calls.{IsWriting, after_writing, with_version}
use Rattle.engine.specs.OneStep.{IsStep}
use Rattle.engine.specs.Plays.{IsLeftInStep}
use Rattle.engine.specs.State.{State, IsSound}
use Rattle.engine.specs.Steps.{Answer}
use Rattle.engine.specs.Steps.Step.{Flush}
use Rattle.engine.specs.Steps.Answer.{Flushed}
use Rattle.engine.proofs.FlushDone.{HidesWriting, IsDue, KeepsWritten, ReadsWritten, never-device, nothing-flushed, nothing-framed, writing-crashed, writing-done, writing-refused, writing-would, written-sound}
use Rattle.engine.proofs.OneStepLemmas.{words_by}
use Rattle.engine.proofs.StepDone.{writing_done, writing_left, writing_refused}

abbrev number : ℕ → Answer Global
number n = Flushed n

module _ {D : Type 0} (view : D → View) (failures : D → ℕ) (s : Settings) (st : Store) (disk : D) (lawful : IsTrue (view disk).is_honest → Lawful (view disk))
    (sound : IsSound view (record { settings = s; store = st; disk = disk; has_failed = false })) where
  abbrev kind : CommitKind
  kind = texts.Flush st.version

  abbrev before : State D
  before = record { settings = s; store = st; disk = disk; has_failed = false }

  -- the log lacks nothing
  pub nothing_step : flush_frames st.version st.tree ≡ [] → (n : ℕ) → n ≡ st.sequence → IsStep view failures true before Flush (Ok n) number before
  nothing_step none n is_n =
      let done = writing_done s st st (view disk).seen Flush kind (view disk).seen n refl is_n (nothing-flushed s st (view disk).seen none) in
      record {
        done = ((view disk).seen, record { file = (view disk).seen; read = refl; done = done; words = nothing-framed s st.version st.tree none });
        counted = (refl, refl);
        rest = (refl, kept_self (view disk));
        failed = λ bad. absurd (false≢true bad);
        bad_crew = λ _ bad. absurd (true≢false bad);
        refused = λ _ _. tt;
        undone = tt;
        device = tt;
        bytes = λ _. done;
        is_synced = λ is_synced. is_synced;
        syncs = λ _ some. absurd (some none);
        crash = λ _ is_synced. leaves_itself (view disk) _ (lawful is_synced.honest) is_synced (inl refl);
        sound = (sound, sound);
      }

  module _ (some : flush_frames st.version st.tree ≢ []) where
    abbrev is : IsDue kind st
    is = record { own = refl; due = some; some = some }

    -- no commit was planned
    pub unplanned_step : (fault : Fault) → (fault ≡ NoMemory) ⊎ (next_tail s (slot_of (with_version st.version st)) (flush_frames st.version st.tree) ≡ Err fault)
        → IsStep view failures true before Flush (Err fault) number before
    unplanned_step fault err = record {
      done = tt;
      counted = tt;
      rest = (refl, kept_self (view disk));
      failed = λ bad. absurd (false≢true bad);
      bad_crew = λ _ bad. absurd (true≢false bad);
      refused = λ _ _. ((view disk).seen, refl, writing_refused s st (view disk).seen Flush kind refl _ _ _ (writing-refused kind s st is fault (view disk).seen _ _ err));
      undone = λ _. refl;
      device = λ device. absurd (never-device s (slot_of (with_version st.version st)) (flush_frames st.version st.tree) fault err device);
      bytes = λ _. tt;
      is_synced = λ _. tt;
      syncs = λ _ _. tt;
      crash = λ _ is_synced. leaves_itself (view disk) _ (lawful is_synced.honest) is_synced (inl refl);
      sound = (sound, sound);
    }

    -- a commit was planned and written, or a call of the disk failed
    module _ (m : CommitPlan) (p : IsWriting kind s st m) (new : D) (kept : Kept (view disk) (view new)) (hidden : HidesWriting kind)
        (left_by : IsSynced (view disk) → LeavesOnly (view disk) (view new) (LeftOf s (slot_of (with_version st.version st)) (flush_frames st.version st.tree) (view disk).seen)) where
      crashed : IsSynced (view disk) → LeavesOnly (view disk) (view new) (IsLeftInStep s st (view disk).seen Flush)
      crashed is_synced =
          let store : IsStoreOf s st (view disk).seen = record { is = sound.is; step = sound.step refl is_synced.honest } in
          weaker (view disk) (view new) _ _ (λ d left. writing_left s st (view disk).seen Flush kind refl d left)
          (writing-crashed kind s st is m p (view disk) (view new) store hidden (left_by is_synced))

      abbrev broken : State D
      broken = record { settings = s; store = st; disk = new; has_failed = true }

      pub broken-sound : IsSound view broken
      broken-sound = record {
        is = sound.is;
        room = subst (λ (n : ℕ). disk_size s ≤ n) (sym kept.size) sound.room;
        step = λ fine. absurd (true≢false fine);
      }

      pub broken_step : (fault : Fault) → fault ≡ Device → HasFailed (failures disk) (failures new) → IsStep view failures true before Flush (Err fault) number broken
      broken_step fault device counted = record {
        done = tt;
        counted = tt;
        rest = (refl, kept);
        failed = λ bad. absurd (false≢true bad);
        bad_crew = λ _ bad. absurd (true≢false bad);
        refused = λ _ _. ((view disk).seen, refl, writing_refused s st (view disk).seen Flush kind refl _ _ _ (inr (inr (device, counted, writing-would kind s st is m p (view disk).seen))));
        undone = λ other. absurd (other device);
        device = λ _. (refl, refl, words_by kind s st refl p.encoded.within);
        bytes = λ _. tt;
        is_synced = λ _. tt;
        syncs = λ _ _. tt;
        crash = λ _. crashed;
        sound = (sound, broken-sound);
      }

      module _ (slot : Slot) (same : slot ≡ m.slot) (keeps : KeepsWritten kind) (reads : ReadsWritten kind)
          (wrote : IsTrue (view disk).is_honest → (view new).seen ≡ file_with s (slot_of (with_version st.version st)) (flush_frames st.version st.tree) (view disk).seen) where
        abbrev now : Store
        now = store_after (flushed st.tree) slot

        abbrev after : State D
        after = record { settings = s; store = now; disk = new; has_failed = false }

        abbrev bytes : List ℕ
        bytes = file_with s (slot_of (with_version st.version st)) (flush_frames st.version st.tree) (view disk).seen

        made : after_writing kind s st (view disk).seen ≡ left now bytes
        made = writing-done kind s st is m p (view disk).seen ∙ ap (λ (t : Slot). left (store_after (flushed st.tree) t) bytes) (sym (same ∙ p.slot))

        pub after-sound : IsSound view after
        after-sound = written-sound view kind s st now disk new bytes sound refl p.encoded.within keeps reads kept made wrote

        pub written_step : (n : ℕ) → n ≡ slot.sequence → failures new ≡ failures disk → (IsTrue (view disk).is_honest → IsSynced (view new)) → IsStep view failures true before Flush (Ok n) number after
        written_step n is_n counted synced = record {
          done = (
            bytes,
            record {
              file = (view disk).seen;
              read = refl;
              done = writing_done s st now (view disk).seen Flush kind bytes n refl is_n made;
              words = words_by kind s st refl p.encoded.within;
            },
          );
          counted = (refl, counted);
          rest = (refl, kept);
          failed = λ bad. absurd (false≢true bad);
          bad_crew = λ _ bad. absurd (true≢false bad);
          refused = λ _ _. tt;
          undone = tt;
          device = tt;
          bytes = λ honest. writing_done s st now (view disk).seen Flush kind (view new).seen n refl is_n (made ∙ ap (λ (file : List ℕ). left now file) (sym (wrote honest)));
          is_synced = λ is_synced. synced is_synced.honest;
          syncs = λ honest _. synced honest;
          crash = λ _. crashed;
          sound = (sound, after-sound);
        }
