-- What the relation of one step says in the clauses that its calls had before: no clause says less. `WasText` are those of `flush`, `upgrade`
-- and `write`, `WasClean` those of `clean`, `WasStep` those of `step`.
use Rattle.std.specs.Prelude.{◌≡◌, ◌≢◌, ◌⊎◌, ℕ, Bool, IsTrue, true, false, Result, Ok, Err, IfOk, IfErr, OnOk, OnErr, MatchResult}
use Rattle.std.proofs.Common.{refl, sym, ap, ◌∙◌, subst, inl, inr}
use Rattle.std.specs.declared.alloc.Global.{Global}
use Rattle.keys.specs.Bytes.{Bytes, Pairs}
use Rattle.keys.specs.declared.fault.Fault.{Fault}
use Rattle.keys.specs.declared.fault.Fault.TheVariants.{BadCrew, Device, Failed}
use Rattle.keys.specs.declared.settings.Settings.{Settings}
use Rattle.mapping.specs.Levels.{contents}
use Rattle.mapping.specs.Tree.{Store}
use Rattle.flush_log.specs.Disk.{View, IsSynced, Kept, LeavesOnly, Same}
use Rattle.flush_log.specs.FlushText.{HasFrames}
use Rattle.flush_log.specs.NewStore.{disk_of_new}
use Rattle.flush_log.specs.declared.text.CommitKind.{CommitKind}
use Rattle.flush_log.specs.declared.text.CommitKind.TheVariants as texts
use Rattle.flush_log.proofs.ViewLemmas.{weaker}
use Rattle.recovery.specs.Recovered.{IsReadOf}
use Rattle.recovery.specs.StoreOfDisk.{and_then, store_of_disk}
use Rattle.cleaner.specs.AfterClean.{after_clean}
use Rattle.cleaner.specs.Cleaned.{IsCleanFault}
use Rattle.engine.specs.Calls.{after_writing, IsLateInWriting, IsOwnText}
use Rattle.engine.specs.Cleans.{IsDoneClean, IsRefusedClean}
use Rattle.engine.specs.Copies.{IsCopied, IsCopyOn, IsLeftCopying, after_filling}
use Rattle.engine.specs.OneStep.{Syncs, IsStep, step_by, answer_by}
use Rattle.engine.specs.Plays.{IsLateInStep, IsLeftInStep, IsStepDone, IsStepFault, answer_of}
use Rattle.engine.specs.State.{State, IsSound}
use Rattle.engine.specs.Steps.{Step, Answer, Stepped, NumbersFit, after_step, batching}
use Rattle.engine.specs.Steps.Step.{Clean}
use Rattle.engine.specs.Steps.Answer.{Cleaned}
use Rattle.engine.specs.declared.step.Answer as code_answer
use Rattle.engine.specs.declared.step.Answer.TheVariants as answered
use Rattle.engine.proofs.OneStepLemmas.{answered_on, refused_on, shown_by, step_done, read_none, frames_by, undone_is, undone_counted, undone_same, store_stays}
use Rattle.engine.proofs.RefusedCalls.{refused_as}
use Rattle.engine.proofs.TextSteps.{IsWritingFault, after_text_step}

-- ---- a step that is done is its call that is done

-- an outcome of a call as that of a step, with an answer that is made of a number of the store
abbrev stepped_by : (Store → ℕ) → (ℕ → Answer Global) → Result (Store × Bytes) Fault → Stepped Global
stepped_by number answer r = and_then r (λ p. Ok (answer (number p.0), p))

module _ (number : Store → ℕ) (answer : ℕ → Answer Global) where
  -- whatever it answered
  call_was : (r : Result (Store × Bytes) Fault) (a : Answer Global) (now : Store) (bytes : Bytes) → stepped_by number answer r ≡ Ok (a, (now, bytes))
      → (r ≡ Ok (now, bytes)) × (answer (number now) ≡ a)
  call_was (Ok p) a now bytes e =
      let same : (let x : Answer Global × (Store × Bytes) = (answer (number p.0), p) in x ≡ (a, (now, bytes))) = cc in
      let left : p ≡ (now, bytes) = ap (λ (q : Answer Global × (Store × Bytes)). q.1) same in (
        ap (λ (q : Store × Bytes). (let r : Result (Store × Bytes) Fault = Ok q in r)) left,
        ap (λ (q : Store × Bytes). answer (number q.0)) (sym left) ∙ ap (λ (q : Answer Global × (Store × Bytes)). q.0) same,
      )
  call_was (Err fault) a now bytes e = absurd (cc)

  refusal_was : (r : Result (Store × Bytes) Fault) (fault : Fault) → stepped_by number answer r ≡ Err fault → r ≡ Err fault
  refusal_was (Ok p) fault e = absurd (cc)
  refusal_was (Err f) fault e = (let same : f ≡ fault = cc in ap (λ (x : Fault). refused_as {Y = Store × Bytes} x) same)

-- ---- a flush and an upgrade

same_number : (text : CommitKind) (m n : ℕ) → answer_by {A = Global} text m ≡ answer_by text n → m ≡ n
same_number (texts.Flush version) m n e = cc
same_number texts.Upgrade m n e = cc

late_was : (text : CommitKind) (s : Settings) (st : Store) (file : Bytes) (old new : ℕ) (fault : Fault) → IsLateInStep s st file old new (step_by text) fault → IsLateInWriting text s st file old new fault
late_was (texts.Flush version) s st file old new fault late = late
late_was texts.Upgrade s st file old new fault late = late

module _ (s : Settings) (st : Store) (text : CommitKind) where
  text_was : (file bytes : Bytes) (now : Store) (a : Answer Global) → after_step (batching s) s st file (step_by text) ≡ Ok (a, (now, bytes))
      → (after_writing text s st file ≡ Ok (now, bytes)) × (answer_by text now.sequence ≡ a)
  text_was file bytes now a e =
      call_was (λ (z : Store). z.sequence) (λ (n : ℕ). answer_by text n) (after_writing text s st file) a now bytes (sym (after_text_step (batching s) s st file text) ∙ e)

  writing_fault_was : (file : Bytes) (old new : ℕ) (fault : Fault) → IsStepFault s st file old new (step_by text) fault → IsWritingFault text s st file old new fault
  writing_fault_was file old new fault (inl right) =
      inl (refusal_was (λ (z : Store). z.sequence) (λ (n : ℕ). answer_by text n) (after_writing text s st file) fault (sym (after_text_step (batching s) s st file text) ∙ right))
  writing_fault_was file old new fault (inr late) = inr (late_was text s st file old new fault late)

  writing_left_was : (file c : Bytes) → IsLeftInStep s st file (step_by text) c → (store_of_disk c ≡ store_of_disk file) ⊎ ((now : Store) × (after_writing text s st file ≡ Ok (now, c)))
  writing_left_was file c (inl before) = inl before
  writing_left_was file c (inr (a, now, done)) = inr (now, (text_was file c now a done).0)

-- the clauses of `flush` and of `upgrade`, beside those that are one call's own; and of `write`, where the store has not failed and the crew is in range
pub record WasText {D : Type 0} (view : D → View) (failures : D → ℕ) (able : Bool) (text : CommitKind) (old : State D) (result : Result ℕ Fault) (new : State D) : Type 0 where
  pub store : IfOk result (λ n. (n ≡ new.store.sequence) × ((bytes : Bytes) × (after_writing text old.settings old.store (view old.disk).seen ≡ Ok (new.store, bytes))))
  pub rest : (new.settings ≡ old.settings) × Kept (view old.disk) (view new.disk)
  pub failed : old.has_failed ≡ true → result ≡ Err Failed
  pub bad_crew : old.has_failed ≡ false → able ≡ false → result ≡ Err BadCrew
  pub refused : old.has_failed ≡ false → IsTrue able → IfErr result (IsWritingFault text old.settings old.store (view old.disk).seen (failures old.disk) (failures new.disk))
  pub unchanged : IfErr result (λ fault. fault ≢ Device → new ≡ old)
  pub device : IfErr result (λ fault. fault ≡ Device → (new.store ≡ old.store) × (new.has_failed ≡ true))
  pub counted : OnOk result ((new.has_failed ≡ old.has_failed) × (failures new.disk ≡ failures old.disk))
  pub bytes : IsTrue (view old.disk).is_honest → OnOk result (after_writing text old.settings old.store (view old.disk).seen ≡ Ok (new.store, (view new.disk).seen))
  pub is_synced : IsTrue (view old.disk).is_honest → Syncs (step_by text) old.store → OnOk result (IsSynced (view new.disk))
  pub crash : old.has_failed ≡ false → IsSynced (view old.disk)
      → LeavesOnly (view old.disk) (view new.disk)
      (λ c. (store_of_disk c ≡ store_of_disk (view old.disk).seen) ⊎ ((now : Store) × (after_writing text old.settings old.store (view old.disk).seen ≡ Ok (now, c))))
  pub frames : OnOk result (HasFrames old.settings text old.store.tree)
  pub frames_under_way : IfErr result (λ fault. fault ≡ Device → HasFrames old.settings text old.store.tree)
  pub sound : IsSound view old × IsSound view new

module _ {D : Type 0} (view : D → View) (failures : D → ℕ) (able : Bool) (text : CommitKind) (old new : State D) (own : IsOwnText text old.store) where
  abbrev there : Bytes
  there = (view old.disk).seen

  pub text_as_before : (r : Result ℕ Fault) → IsStep view failures able old (step_by text) r (λ n. answer_by text n) new → WasText view failures able text old r new
  text_as_before (Ok n) is =
      let (left, done) = is.done in
      let read : done.file ≡ there = read_none (view old.disk) text done.file done.read in
      let here : after_step (batching old.settings) old.settings old.store there (step_by text) ≡ Ok (answer_by text n, (new.store, left)) =
      subst (λ (f : Bytes). after_step (batching old.settings) old.settings old.store f (step_by text) ≡ Ok (answer_by text n, (new.store, left))) read done.done in
      let was = text_was old.settings old.store text there left new.store (answer_by text n) here in
      record {
        store = (sym (same_number text new.store.sequence n was.1), (left, was.0));
        rest = is.rest;
        failed = λ bad. (is.failed bad).0;
        bad_crew = λ fine bad. (is.bad_crew fine bad).0;
        refused = λ _ _. tt;
        unchanged = tt;
        device = tt;
        counted = is.counted;
        bytes = λ honest. (text_was old.settings old.store text there (view new.disk).seen new.store (answer_by text n) (is.bytes honest)).0;
        is_synced = is.syncs;
        crash = λ fine is_synced. weaker (view old.disk) (view new.disk) _ _ (λ c left. writing_left_was old.settings old.store text there c left) (is.crash fine is_synced);
        frames = frames_by text old.settings old.store own done.words;
        frames_under_way = tt;
        sound = is.sound;
      }
  text_as_before (Err fault) is = record {
    store = tt;
    rest = is.rest;
    failed = λ bad. (is.failed bad).0;
    bad_crew = λ fine bad. (is.bad_crew fine bad).0;
    refused = λ fine able. (
        let (file, read, why) = is.refused fine able in
        let seen : file ≡ there = read_none (view old.disk) text file read in
        writing_fault_was old.settings old.store text there (failures old.disk) (failures new.disk) fault
        (subst (λ (f : Bytes). IsStepFault old.settings old.store f (failures old.disk) (failures new.disk) (step_by text) fault) seen why));
    unchanged = λ other. undone_is view failures old new text (is.undone other);
    device = λ device. (let (store, failed, words) = is.device device in (store, failed));
    counted = tt;
    bytes = λ _. tt;
    is_synced = λ _ _. tt;
    crash = λ fine is_synced. weaker (view old.disk) (view new.disk) _ _ (λ c left. writing_left_was old.settings old.store text there c left) (is.crash fine is_synced);
    frames = tt;
    frames_under_way = λ device. (let (store, failed, words) = is.device device in frames_by text old.settings old.store own words);
    sound = is.sound;
  }

-- ---- a clean

abbrev cleaned_with : ℕ → Answer Global
cleaned_with n = Cleaned n

same_head : (m n : ℕ) → cleaned_with m ≡ cleaned_with n → m ≡ n
same_head m n e = cc

module _ (s : Settings) (st : Store) where
  clean_was : (file bytes : Bytes) (now : Store) (a : Answer Global) → after_step (batching s) s st file Clean ≡ Ok (a, (now, bytes))
      → (after_clean s st file ≡ Ok (now, bytes)) × (Cleaned now.head ≡ a)
  clean_was file bytes now a e = call_was (λ (z : Store). z.head) (λ (n : ℕ). Cleaned n) (after_clean s st file) a now bytes e

  clean_fault_was : (file : Bytes) (old new : ℕ) (fault : Fault) → IsStepFault s st file old new Clean fault → IsCleanFault s st file old new fault
  clean_fault_was file old new fault (inl right) = inl (refusal_was (λ (z : Store). z.head) (λ (n : ℕ). Cleaned n) (after_clean s st file) fault right)
  clean_fault_was file old new fault (inr late) = inr late

  clean_left_was : (file c : Bytes) → IsLeftInStep s st file Clean c → (store_of_disk c ≡ store_of_disk file) ⊎ ((now : Store) × (after_clean s st file ≡ Ok (now, c)))
  clean_left_was file c (inl before) = inl before
  clean_left_was file c (inr (a, now, done)) = inr (now, (clean_was file c now a done).0)

-- the clauses of `clean`, beside its own
pub record WasClean {D : Type 0} (view : D → View) (failures : D → ℕ) (able : Bool) (old : State D) (result : Result ℕ Fault) (new : State D) : Type 0 where
  pub read : old.has_failed ≡ false → IsTrue able
      → (file : Bytes) × IsReadOf (view old.disk) file
      × MatchResult result
      (λ head. (bytes : Bytes) × (after_clean old.settings old.store file ≡ Ok (new.store, bytes)) × (head ≡ new.store.head))
      (IsCleanFault old.settings old.store file (failures old.disk) (failures new.disk))
  pub rest : (new.settings ≡ old.settings) × Kept (view old.disk) (view new.disk)
  pub failed : old.has_failed ≡ true → (result ≡ Err Failed) × (new ≡ old)
  pub bad_crew : old.has_failed ≡ false → able ≡ false → (result ≡ Err BadCrew) × (new ≡ old)
  pub unchanged : IfErr result (λ fault. new.store ≡ old.store)
  pub fine : IfErr result (λ fault. fault ≢ Device → (new.has_failed ≡ old.has_failed) × (failures new.disk ≡ failures old.disk))
  pub device : IfErr result (λ fault. fault ≡ Device → new.has_failed ≡ true)
  pub counted : OnOk result ((new.has_failed ≡ old.has_failed) × (failures new.disk ≡ failures old.disk))
  pub bytes : IsTrue (view old.disk).is_honest → OnOk result (after_clean old.settings old.store (view old.disk).seen ≡ Ok (new.store, (view new.disk).seen))
  pub is_synced : IsTrue (view old.disk).is_honest → OnOk result (IsSynced (view new.disk))
  pub crash : old.has_failed ≡ false → IsSynced (view old.disk)
      → LeavesOnly (view old.disk) (view new.disk)
      (λ c. (store_of_disk c ≡ store_of_disk (view old.disk).seen) ⊎ ((now : Store) × (after_clean old.settings old.store (view old.disk).seen ≡ Ok (now, c))))
  pub sound : IsSound view old × IsSound view new

module _ {D : Type 0} (view : D → View) (failures : D → ℕ) (able : Bool) (old new : State D) where
  abbrev shown : Bytes
  shown = (view old.disk).seen

  pub clean_as_before : (r : Result ℕ Fault) → IsStep view failures able old Clean r (λ n. Cleaned n) new → WasClean view failures able old r new
  clean_as_before (Ok n) is =
      let (left, done) = is.done in
      let was = clean_was old.settings old.store done.file left new.store (Cleaned n) done.done in
      record {
        read = λ _ _. (done.file, done.read, (left, was.0, sym (same_head new.store.head n was.1)));
        rest = is.rest;
        failed = is.failed;
        bad_crew = is.bad_crew;
        unchanged = tt;
        fine = tt;
        device = tt;
        counted = is.counted;
        bytes = λ honest. (clean_was old.settings old.store shown (view new.disk).seen new.store (Cleaned n) (is.bytes honest)).0;
        is_synced = λ honest. is.syncs honest tt;
        crash = λ fine is_synced. weaker (view old.disk) (view new.disk) _ _ (λ c left. clean_left_was old.settings old.store shown c left) (is.crash fine is_synced);
        sound = is.sound;
      }
  clean_as_before (Err fault) is = record {
    read = λ fine able. (
        let (file, read, why) = is.refused fine able in
        (file, read, clean_fault_was old.settings old.store file (failures old.disk) (failures new.disk) fault why));
    rest = is.rest;
    failed = is.failed;
    bad_crew = is.bad_crew;
    unchanged = store_stays view failures able old new Clean (λ n. Cleaned n) fault is;
    fine = λ other. undone_counted view failures old new Clean (is.undone other);
    device = λ device. (let (store, failed, words) = is.device device in failed);
    counted = tt;
    bytes = λ _. tt;
    is_synced = λ _. tt;
    crash = λ fine is_synced. weaker (view old.disk) (view new.disk) _ _ (λ c left. clean_left_was old.settings old.store shown c left) (is.crash fine is_synced);
    sound = is.sound;
  }

-- what is so after an error, whatever the fault
pub on_err : (r : Result ℕ Fault) (P : Type 0) → IfErr r (λ fault. P) → OnErr r P
on_err (Ok n) P is = tt
on_err (Err fault) P is = is

-- ---- a step of a play

-- the clauses of `step`
pub record WasStep {D : Type 0} (view : D → View) (failures : D → ℕ) (able : Bool) (x : Step Global) (old : State D) (result : Result code_answer.Answer Fault) (new : State D) : Type 0 where
  pub ok : IfOk result (λ answer. (bytes : Bytes) × IsStepDone (view old.disk).is_honest old.settings old.store (view old.disk).seen x answer new.store bytes)
  pub rest : (new.settings ≡ old.settings) × Kept (view old.disk) (view new.disk)
  pub failed : old.has_failed ≡ true → result ≡ Err Failed
  pub still : old.has_failed ≡ true → new ≡ old
  pub bad_crew : old.has_failed ≡ false → able ≡ false → result ≡ Err BadCrew
  pub refused : old.has_failed ≡ false → IsTrue able
      → IfErr result (λ fault. (file : Bytes) × (IsTrue (view old.disk).is_honest → file ≡ (view old.disk).seen)
      × IsStepFault old.settings old.store file (failures old.disk) (failures new.disk) x fault)
  pub unchanged : IfErr result (λ fault. new.store ≡ old.store)
  pub fine : IfErr result (λ fault. fault ≢ Device → (new.has_failed ≡ old.has_failed) × (failures new.disk ≡ failures old.disk))
  pub same : IsTrue (view old.disk).is_honest → IfErr result (λ fault. fault ≢ Device → Same (view old.disk) (view new.disk))
  pub device : IfErr result (λ fault. fault ≡ Device → (new.has_failed ≡ true) × NumbersFit (batching old.settings) old.settings old.store x)
  pub counted : OnOk result ((new.has_failed ≡ old.has_failed) × (failures new.disk ≡ failures old.disk))
  pub bytes : IsTrue (view old.disk).is_honest
      → IfOk result (λ answer. after_step (batching old.settings) old.settings old.store (view old.disk).seen x ≡ Ok (answer_of answer, (new.store, (view new.disk).seen)))
  pub is_synced : IsSynced (view old.disk) → OnOk result (IsSynced (view new.disk))
  pub crash : old.has_failed ≡ false → IsSynced (view old.disk)
      → LeavesOnly (view old.disk) (view new.disk) (IsLeftInStep old.settings old.store (view old.disk).seen x)
  pub sound : IsSound view old × IsSound view new

module _ {D : Type 0} (view : D → View) (failures : D → ℕ) (able : Bool) (x : Step Global) (old new : State D) where
  pub step_as_before : (r : Result code_answer.Answer Fault) → IsStep view failures able old x r answer_of new → WasStep view failures able x old r new
  step_as_before (Ok a) is =
      let (left, done) = is.done in
      record {
        ok = (left, step_done (view old.disk) old.settings old.store x a new.store left done);
        rest = is.rest;
        failed = λ bad. (is.failed bad).0;
        still = λ bad. (is.failed bad).1;
        bad_crew = λ fine bad. (is.bad_crew fine bad).0;
        refused = λ _ _. tt;
        unchanged = tt;
        fine = tt;
        same = λ _. tt;
        device = tt;
        counted = is.counted;
        bytes = is.bytes;
        is_synced = is.is_synced;
        crash = is.crash;
        sound = is.sound;
      }
  step_as_before (Err fault) is = record {
    ok = tt;
    rest = is.rest;
    failed = λ bad. (is.failed bad).0;
    still = λ bad. (is.failed bad).1;
    bad_crew = λ fine bad. (is.bad_crew fine bad).0;
    refused = λ fine able. (let (file, read, why) = is.refused fine able in (file, (λ honest. shown_by (view old.disk) x file read honest), why));
    unchanged = store_stays view failures able old new x answer_of fault is;
    fine = λ other. undone_counted view failures old new x (is.undone other);
    same = λ honest other. undone_same view failures old new x (is.undone other) honest;
    device = λ device. (let (store, failed, words) = is.device device in (failed, words));
    counted = tt;
    bytes = λ _. tt;
    is_synced = λ _. tt;
    crash = is.crash;
    sound = is.sound;
  }

-- ---- a clean by a reading

module _ {D : Type 0} (view : D → View) (failures : D → ℕ) (old new : State D) where
  pub done_clean : (head : ℕ) → IsDoneClean view failures old new head → WasStep view failures true Clean old (Ok (answered.Cleaned head)) new
  done_clean head is =
      step_as_before view failures true Clean old new (Ok (answered.Cleaned head))
      (answered_on view failures true old new Clean (λ n. Cleaned n) answer_of Clean head (answered.Cleaned head) refl refl is)

  pub refused_clean : (fault : Fault) → IsRefusedClean view failures old new fault → WasStep view failures true Clean old (Err fault) new
  refused_clean fault (fine, is) =
      step_as_before view failures true Clean old new (Err fault) (refused_on view failures true old new Clean (λ n. Cleaned n) answer_of Clean fault refl is)

-- ---- a copy

-- the clauses of `copy_to` about the copy
pub record WasCopied {D : Type 0} (view : D → View) (failures : D → ℕ) (s : Settings) (all : Pairs Bytes) (disk : D) (result : Result (State D) (Fault × D)) : Type 0 where
  pub back : IfErr result (λ e. Kept (view disk) (view e.1))
  pub made : IfOk result (λ copy. (copy.settings ≡ s) × (copy.has_failed ≡ false))
  pub holds : IfOk result (λ copy. contents copy.store.tree ≡ all)
  pub exact : IfOk result (λ copy. IsCopied s all copy.store)
  pub written : IsTrue (view disk).is_honest → IfOk result (λ copy. after_filling s all (disk_of_new s (view disk).seen) ≡ Ok (copy.store, (view copy.disk).seen))
  pub kept : IfOk result (λ copy. Kept (view disk) (view copy.disk) × (failures copy.disk ≡ failures disk))
  pub bytes : IsTrue (view disk).is_honest → IfOk result (λ copy. (store_of_disk (view copy.disk).seen ≡ Ok (s, copy.store)) × IsSynced (view copy.disk))
  pub crash : IsSynced (view disk) → MatchResult result
      (λ copy. LeavesOnly (view disk) (view copy.disk) (IsLeftCopying s all (view disk).seen))
      (λ e. LeavesOnly (view disk) (view e.1) (IsLeftCopying s all (view disk).seen))
  pub sound : IfOk result (λ copy. IsSound view copy)

pub copy_as_before : {D : Type 0} (view : D → View) (failures : D → ℕ) (s : Settings) (all : Pairs Bytes) (disk : D) (result : Result (State D) (Fault × D))
    → IsCopyOn view failures s all disk (disk_of_new s (view disk).seen) (IsLeftCopying s all (view disk).seen) result
    → (IsTrue (view disk).is_honest → IfOk result (λ copy. IsSynced (view copy.disk)))
    → WasCopied view failures s all disk result
copy_as_before view failures s all disk (Ok copy) is is_synced = record {
  back = is.back;
  made = is.made;
  holds = is.holds;
  exact = is.exact;
  written = is.written;
  kept = is.kept;
  bytes = λ honest. (is.bytes honest, is_synced honest);
  crash = is.crash;
  sound = is.sound;
}
copy_as_before view failures s all disk (Err e) is is_synced = record {
  back = is.back;
  made = tt;
  holds = tt;
  exact = tt;
  written = λ _. tt;
  kept = tt;
  bytes = λ _. tt;
  crash = is.crash;
  sound = tt;
}
