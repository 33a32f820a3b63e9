-- One step of a store: what its relation says by the kind of step, and how it goes from one call to the call that makes it.
use Rattle.std.specs.Prelude.{◌≡◌, ◌≢◌, ℕ, Bool, IsTrue, true, false, Result, Ok, Err}
use Rattle.std.proofs.Common.{refl, sym, ap, ◌∙◌, subst, inl, ⊎_elim}
use Rattle.std.specs.declared.alloc.Global.{Global}
use Rattle.keys.specs.Bytes.{Bytes}
use Rattle.keys.specs.declared.fault.Fault.{Fault}
use Rattle.keys.specs.declared.fault.Fault.TheVariants.{AlreadyUpgraded, BadCrew, Device, Failed}
use Rattle.keys.specs.declared.settings.Settings.{Settings}
use Rattle.keys.specs.declared.version.Version.{Version}
use Rattle.keys.specs.declared.version.Version.TheVariants.{Two}
use Rattle.mapping.specs.Tree.{Store}
use Rattle.flush_log.specs.AfterFlush.{after_text, of_version_two, unless_upgraded}
use Rattle.flush_log.specs.Disk.{View, Lawful, Same}
use Rattle.flush_log.specs.FlushText.{HasFrames, upgrade_frames}
use Rattle.flush_log.specs.declared.text.CommitKind.{CommitKind}
use Rattle.flush_log.specs.declared.text.CommitKind.TheVariants as texts
use Rattle.flush_log.proofs.SameLemmas.{leaves_itself}
use Rattle.recovery.specs.StoreOfDisk.{and_then}
use Rattle.recovery.proofs.ReadBytes.{kept_self, same_self}
use Rattle.engine.specs.Calls.{IsOwnText}
use Rattle.engine.specs.OneStep.{IsReadBy, IsUndone, IsDoneBy, IsStep, step_by}
use Rattle.engine.specs.Plays.{IsLeftInStep, IsStepDone, answer_of}
use Rattle.engine.specs.State.{State, IsSound}
use Rattle.engine.specs.Steps.{Step, Answer, Stepped, NumbersFit, after_step, batching}
use Rattle.engine.specs.Steps.Step.{Batch, Flush, Clean, Upgrade}
use Rattle.engine.specs.Steps.Answer.{Upgraded}
use Rattle.engine.specs.declared.step.Answer as code_answer
use Rattle.engine.proofs.PlayTurn.{device_or_not}
use Rattle.engine.proofs.RefusedCalls.{bad_crew_no_device, failed_no_device, not_both, not_refused_too, refused_as, same_refusal}

-- ---- what was read

-- on an honest disk a step is defined of what a read gives
pub shown_by : (v : View) (x : Step Global) (file : Bytes) → IsReadBy v x file → IsTrue v.is_honest → file ≡ v.seen
shown_by v (Batch cs) file read honest = read
shown_by v Flush file read honest = read
shown_by v Clean file read honest = read.honest honest
shown_by v Upgrade file read honest = read

pub step_done : (v : View) (s : Settings) (st : Store) (x : Step Global) (a : code_answer.Answer) (now : Store) (bytes : Bytes)
    → IsDoneBy v s st x (answer_of a) now bytes → IsStepDone v.is_honest s st v.seen x a now bytes
step_done v s st x a now bytes d = record { file = d.file; shown = λ honest. shown_by v x d.file d.read honest; done = d.done; words = d.words }

-- ---- the step that writes a text

pub reads_none : (v : View) (text : CommitKind) → IsReadBy v (step_by text) v.seen
reads_none v (texts.Flush version) = refl
reads_none v texts.Upgrade = refl

pub read_none : (v : View) (text : CommitKind) (file : Bytes) → IsReadBy v (step_by text) file → file ≡ v.seen
read_none v (texts.Flush version) file read = read
read_none v texts.Upgrade file read = read

pub words_by : (text : CommitKind) (s : Settings) (st : Store) → IsOwnText text st → HasFrames s text st.tree → NumbersFit {A = Global} (batching s) s st (step_by text)
words_by (texts.Flush version) s st own frames = subst (λ (v : Version). HasFrames s (texts.Flush v) st.tree) own frames
words_by texts.Upgrade s st own frames = frames

pub frames_by : (text : CommitKind) (s : Settings) (st : Store) → IsOwnText text st → NumbersFit {A = Global} (batching s) s st (step_by text) → HasFrames s text st.tree
frames_by (texts.Flush version) s st own words = subst (λ (v : Version). HasFrames s (texts.Flush v) st.tree) (sym own) words
frames_by texts.Upgrade s st own words = words

module _ {D : Type 0} (view : D → View) (failures : D → ℕ) (old new : State D) where
  pub undone_by : (text : CommitKind) → new ≡ old → IsUndone view failures (step_by text) old new
  undone_by (texts.Flush version) same = same
  undone_by texts.Upgrade same = same

  pub undone_is : (text : CommitKind) → IsUndone view failures (step_by text) old new → new ≡ old
  undone_is (texts.Flush version) undone = undone
  undone_is texts.Upgrade undone = undone

-- ---- what a refused step leaves

module _ {D : Type 0} (view : D → View) (failures : D → ℕ) (old new : State D) where
  pub undone_store : (x : Step Global) → IsUndone view failures x old new → new.store ≡ old.store
  undone_store (Batch cs) undone = ap (λ (z : State D). z.store) undone
  undone_store Flush undone = ap (λ (z : State D). z.store) undone
  undone_store Clean undone = undone.store
  undone_store Upgrade undone = ap (λ (z : State D). z.store) undone

  counted_where : new ≡ old → (new.has_failed ≡ old.has_failed) × (failures new.disk ≡ failures old.disk)
  counted_where same = (ap (λ (z : State D). z.has_failed) same, ap (λ (z : State D). failures z.disk) same)

  pub undone_counted : (x : Step Global) → IsUndone view failures x old new → (new.has_failed ≡ old.has_failed) × (failures new.disk ≡ failures old.disk)
  undone_counted (Batch cs) undone = counted_where undone
  undone_counted Flush undone = counted_where undone
  undone_counted Clean undone = undone.counted
  undone_counted Upgrade undone = counted_where undone

  same_where : new ≡ old → Same (view old.disk) (view new.disk)
  same_where same = subst (λ (z : State D). Same (view old.disk) (view z.disk)) (sym same) (same_self (view old.disk))

  pub undone_same : (x : Step Global) → IsUndone view failures x old new → IsTrue (view old.disk).is_honest → Same (view old.disk) (view new.disk)
  undone_same (Batch cs) undone honest = same_where undone
  undone_same Flush undone honest = same_where undone
  undone_same Clean undone honest = undone.same honest
  undone_same Upgrade undone honest = same_where undone

-- ---- a call that another one makes

-- a call that returned this
abbrev pub returned : {X : Type 0} → X → Result X Fault
returned x = Ok x

module _ {D X Y : Type 0} (view : D → View) (failures : D → ℕ) (able : Bool) (old new : State D) (x : Step Global) (f : X → Answer Global) (g : Y → Answer Global) where
  -- the same step under another name
  pub as_step : (y : Step Global) (r : Result Y Fault) → y ≡ x → IsStep view failures able old x r g new → IsStep view failures able old y r g new
  as_step y r same is = subst (λ (z : Step Global). IsStep view failures able old z r g new) (sym same) is

  -- its fault is handed on
  pub refused_on : (y : Step Global) (fault : Fault) → y ≡ x → IsStep view failures able old x (Err fault) f new → IsStep view failures able old y (Err fault) g new
  refused_on y fault same is = as_step y (refused_as {Y = Y} fault) same (record {
    done = tt;
    counted = tt;
    rest = is.rest;
    failed = λ bad. (same_refusal (refused_as {Y = X} fault) fault Failed refl (is.failed bad).0, (is.failed bad).1);
    bad_crew = λ fine bad. (same_refusal (refused_as {Y = X} fault) fault BadCrew refl (is.bad_crew fine bad).0, (is.bad_crew fine bad).1);
    refused = is.refused;
    undone = is.undone;
    device = is.device;
    bytes = λ _. tt;
    is_synced = λ _. tt;
    syncs = λ _ _. tt;
    crash = is.crash;
    sound = is.sound;
  })

  -- its answer is handed on
  pub answered_on : (y : Step Global) (a : X) (b : Y) → y ≡ x → g b ≡ f a → IsStep view failures able old x (Ok a) f new → IsStep view failures able old y (Ok b) g new
  answered_on y a b same answer is = as_step y (returned b) same (record {
    done = subst (λ (z : Answer Global). (bytes : Bytes) × IsDoneBy (view old.disk) old.settings old.store x z new.store bytes) (sym answer) is.done;
    counted = is.counted;
    rest = is.rest;
    failed = λ bad. absurd (not_refused_too (returned a) a Failed refl (is.failed bad).0);
    bad_crew = λ fine bad. absurd (not_refused_too (returned a) a BadCrew refl (is.bad_crew fine bad).0);
    refused = λ _ _. tt;
    undone = tt;
    device = tt;
    bytes = λ honest. is.bytes honest ∙ ap (λ (z : Answer Global). (let q : Stepped Global = Ok (z, (new.store, (view new.disk).seen)) in q)) (sym answer);
    is_synced = is.is_synced;
    syncs = is.syncs;
    crash = is.crash;
    sound = is.sound;
  })

-- ---- a store that has failed, and a crew out of range

module _ {D X : Type 0} (view : D → View) (failures : D → ℕ) (able : Bool) (old new : State D) (x : Step Global) (f : X → Answer Global) where
  -- the store of a refused step has the tree and the log that it had
  pub store_stays : (fault : Fault) → IsStep view failures able old x (Err fault) f new → new.store ≡ old.store
  store_stays fault is =
      ⊎_elim
      (λ device. (is.device device).0)
      (λ other. undone_store view failures old new x (is.undone other.0))
      (device_or_not fault)

module _ {D : Type 0} (view : D → View) (failures : D → ℕ) (old : State D) (sound : IsSound view old) where
  pub undone_itself : (x : Step Global) → IsUndone view failures x old old
  undone_itself (Batch cs) = refl
  undone_itself Flush = refl
  undone_itself Clean = record { rest = (refl, kept_self (view old.disk)); store = refl; counted = (refl, refl); same = λ _. same_self (view old.disk); sound = sound }
  undone_itself Upgrade = refl

module _ {D X : Type 0} (view : D → View) (failures : D → ℕ) (able : Bool) (old : State D) (x : Step Global) (f : X → Answer Global) (sound : IsSound view old) where
  -- a store that has failed refuses
  pub failed_step : old.has_failed ≡ true → IsStep view failures able old x (Err Failed) f old
  failed_step bad = record {
    done = tt;
    counted = tt;
    rest = (refl, kept_self (view old.disk));
    failed = λ _. (refl, refl);
    bad_crew = λ fine. absurd (not_both old.has_failed bad fine);
    refused = λ fine. absurd (not_both old.has_failed bad fine);
    undone = λ _. undone_itself view failures old sound x;
    device = λ device. absurd (failed_no_device device);
    bytes = λ _. tt;
    is_synced = λ _. tt;
    syncs = λ _ _. tt;
    crash = λ fine. absurd (not_both old.has_failed bad fine);
    sound = (sound, sound);
  }

  module _ (lawful : IsTrue (view old.disk).is_honest → Lawful (view old.disk)) where
    -- a crew out of range is refused
    pub bad_crew_step : old.has_failed ≡ false → able ≡ false → IsStep view failures able old x (Err BadCrew) f old
    bad_crew_step fine bad = record {
      done = tt;
      counted = tt;
      rest = (refl, kept_self (view old.disk));
      failed = λ failed. absurd (not_both old.has_failed failed fine);
      bad_crew = λ _ _. (refl, refl);
      refused = λ _ yes. absurd (not_both able yes bad);
      undone = λ _. undone_itself view failures old sound x;
      device = λ device. absurd (bad_crew_no_device device);
      bytes = λ _. tt;
      is_synced = λ _. tt;
      syncs = λ _ _. tt;
      crash = λ _ is_synced. leaves_itself (view old.disk) (IsLeftInStep old.settings old.store (view old.disk).seen x) (lawful is_synced.honest) is_synced (inl refl);
      sound = (sound, sound);
    }

    -- a step that is refused by its right, and has neither called the disk nor changed anything
    pub right_step : (fault : Fault) → old.has_failed ≡ false → able ≡ true → fault ≢ Device
        → after_step (batching old.settings) old.settings old.store (view old.disk).seen x ≡ Err fault → IsReadBy (view old.disk) x (view old.disk).seen
        → IsStep view failures able old x (Err fault) f old
    right_step fault fine inside other right read = record {
      done = tt;
      counted = tt;
      rest = (refl, kept_self (view old.disk));
      failed = λ failed. absurd (not_both old.has_failed failed fine);
      bad_crew = λ _ bad. absurd (not_both able inside bad);
      refused = λ _ _. ((view old.disk).seen, read, inl right);
      undone = λ _. undone_itself view failures old sound x;
      device = λ device. absurd (other device);
      bytes = λ _. tt;
      is_synced = λ _. tt;
      syncs = λ _ _. tt;
      crash = λ _ is_synced. leaves_itself (view old.disk) (IsLeftInStep old.settings old.store (view old.disk).seen x) (lawful is_synced.honest) is_synced (inl refl);
      sound = (sound, sound);
    }

-- a call that admits its crew makes a call with a crew in range
module _ {D X : Type 0} (view : D → View) (failures : D → ℕ) (able : Bool) (old new : State D) (x : Step Global) (f : X → Answer Global) where
  pub admitted_step : (r : Result X Fault) → able ≡ true → IsStep view failures true old x r f new → IsStep view failures able old x r f new
  admitted_step r inside is = subst (λ (b : Bool). IsStep view failures b old x r f new) (sym inside) is

-- an upgrade of a log of version 2 is refused by its right
pub upgraded_right : (s : Settings) (st : Store) (file : Bytes) → st.version ≡ Two → after_step {A = Global} (batching s) s st file Upgrade ≡ Err AlreadyUpgraded
upgraded_right s st file two =
    ap (λ (v : Version). (let q : Stepped Global = and_then (unless_upgraded v (after_text s (of_version_two st) file (upgrade_frames st.tree))) (λ p. Ok (Upgraded p.0.sequence, p)) in q)) two

pub already_no_device : AlreadyUpgraded ≢ Device
already_no_device e = cc
