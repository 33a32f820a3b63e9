-- A flush that cleans: which rows of cleans it does, and how it ends.
use Rattle.std.specs.Prelude.{◌≡◌, ◌≢◌, ◌⊎◌, ℕ, ◌+◌, ◌-◌, ◌<◌, ◌≤◌, length, min, Bool, IsTrue, true, false, if◌then◌else◌, List, [], ◌∷◌, ◌++◌, Option, Some, None, Result, Ok, Err, IfSome, IfOk, IfErr}
use Rattle.std.proofs.Common.{refl, sym, ap, ◌∙◌, subst, inl, inr, ⊎_elim, arith, zero-add, eq-zero-or-pos}
use Rattle.std.specs.declared.alloc.Global.{Global}
use Rattle.keys.specs.Results.{and_then}
use Rattle.keys.specs.declared.fault.Fault.{Fault}
use Rattle.keys.specs.declared.fault.Fault.TheVariants.{Device, Full, NoMemory, NothingToClean, Spent}
use Rattle.keys.specs.declared.settings.Settings.{Settings}
use Rattle.mapping.specs.Levels.{contents}
use Rattle.mapping.specs.Tree.{Store}
use Rattle.frame_codec.specs.Frame.{Frame}
use Rattle.flush_log.specs.AfterFlush.{Commit, flush_commit, file_after, is_spent, store_after, after_flush, after_text}
use Rattle.flush_log.specs.FlushText.{flush_frames, flushed}
use Rattle.flush_log.specs.Layout.{is_full_for_flush}
use Rattle.flush_log.specs.Disk.{View, Lawful, IsSynced, Kept, Same, LeavesOnly}
use Rattle.flush_log.specs.Ends.{ends_of}
use Rattle.flush_log.proofs.SameLemmas.{leaves_the_same}
use Rattle.recovery.specs.InStep.{IsStore}
use Rattle.recovery.proofs.KeptStore.{flushed-tree}
use Rattle.recovery.proofs.ReadBytes.{kept_then}
use Rattle.recovery.proofs.StoreLemmas.{ok-then}
use Rattle.cleaner.specs.PagesRead.{PagesRead, IsReading}
use Rattle.engine.specs.Cleaning.{BeginsFull, CleanRow, AreCleansBy, AreRows, IsCalmOn, IsCleanRefused, IsCleanRefusedOn, IsEarly, IsFlushedCleaning, IsFull, IsHeld, IsNoReading, IsOfBytes, IsOfMachine, IsOverfull, IsRow, IsStart, IsStoppedCleaning, IsWantOfRoom, IsWhole, NoneFollow, count_of, most_ahead, most_cleanable, row_length}
use Rattle.engine.specs.Cleans.{cleans, AreCleaned, AreStopped, IsReadFor, IsRefusedClean, IsCleanedOn, IsStoppedOn}
use Rattle.engine.specs.OneStep.{IsOnlyRead}
use Rattle.engine.specs.Plays.{IsStepDone, IsStepFault, IsLeftInStep, answer_of}
use Rattle.engine.specs.Room.{is_overfull, live_known}
use Rattle.engine.specs.State.{State, IsSound}
use Rattle.engine.specs.Steps.{Step, Answer, NumbersFit, Stepped, after_step, batching, plays}
use Rattle.engine.specs.Steps.Step.{Flush, Clean}
use Rattle.engine.specs.Steps.Answer.{Flushed}
use Rattle.engine.specs.declared.step.Answer as code_answer
use Rattle.engine.specs.declared.step.Step.TheVariants as called
use Rattle.engine.proofs.AsBefore.{refused_clean}
use Rattle.engine.proofs.CleansLemmas.{none_cleaned, same_left, still_cleaned, one_stopped}
use Rattle.engine.proofs.RowsLemmas.{calm_end, machine_or_refused, none_read, reads_before, reads_of, refused_end, rows_end}
use Rattle.engine.proofs.PlayTurn.{stays, still_said, still_exact, goes_on, crash_on, refused_after}

-- ---- a flush

abbrev Left : Type 0
Left = Store × List ℕ

abbrev ok_left : Left → Result Left Fault
ok_left p = Ok p

abbrev ok_step : Answer Global → Left → Stepped Global
ok_step a p = Ok (a, p)

-- a flush leaves what the tree holds
flush_holds : (honest : Bool) (s : Settings) (st : Store) (seen : List ℕ) (a : code_answer.Answer) (now : Store) (bytes : List ℕ) → IsStore s st → IsStepDone honest s st seen Flush a now bytes → contents now.tree ≡ contents st.tree
flush_holds honest s st seen a now bytes sound done =
    let (p, was, is) = ok-then (after_flush s st done.file) (λ (p : Left). ok_step (Flushed p.0.sequence) p) (answer_of a, (now, bytes)) done.done in
    ap contents (flushed-tree s st now done.file bytes sound (was ∙ ap ok_left (same_left (Flushed p.0.sequence) (answer_of a) p (now, bytes) is)))

-- ---- a full log

err_of : (r : Result Left Fault) (f : Left → Answer Global × Left) (e : Fault) → and_then r (λ (p : Left). (let q : Stepped Global = Ok (f p) in q)) ≡ Err e → r ≡ Err e
err_of (Ok p) f e h = absurd (cc)
err_of (Err y) f e h =
    let same : y ≡ e = cc in
    ap (λ (x : Fault). (let q : Result Left Fault = Err x in q)) same

pub full_of : (s : Settings) (st : Store) (file : List ℕ) (old new : ℕ) (fault : Fault) → fault ≡ Full → IsStepFault s st file old new Flush fault → after_flush s st file ≡ Err Full
full_of s st file old new fault full (inl right) =
    err_of (after_flush s st file) (λ (p : Left). (Flushed p.0.sequence, p)) Full (right ∙ ap (λ (x : Fault). (let q : Stepped Global = Err x in q)) full)
full_of s st file old new fault full (inr (inl memory)) = (let e = memory.0 in absurd (cc))
full_of s st file old new fault full (inr (inr device)) = (let e = device.0 in absurd (cc))

-- whatever bytes there are
commit_full : (spent full : Bool) (x y : Left) → (let q : Result Left Fault = (if spent then Err Spent else (if full then Err Full else Ok x)) in q ≡ Err Full) → (let q : Result Left Fault = (if spent then Err Spent else (if full then Err Full else Ok y)) in q ≡ Err Full)
commit_full true full x y h = absurd (cc)
commit_full false true x y h = refl
commit_full false false x y h = absurd (cc)

text_full : (s : Settings) (st : Store) (file other : List ℕ) (text : List Frame) → after_text s st file text ≡ Err Full → after_text s st other text ≡ Err Full
text_full s st file other [] h = absurd (cc)
text_full s st file other (f ∷ fs) h =
    let m : Commit = flush_commit s st (f ∷ fs) in
    commit_full (is_spent m.slot) (is_full_for_flush s m.slot.head m.slot.tail) (store_after (flushed st.tree) m.slot, file_after s file m) (store_after (flushed st.tree) m.slot, file_after s other m) h

full_any : (s : Settings) (st : Store) (file other : List ℕ) → after_flush s st file ≡ Err Full → after_flush s st other ≡ Err Full
full_any s st file other h = text_full s st file other (flush_frames st.version st.tree) h

-- a flush that finds the log full has something to write
due_when_full : (s : Settings) (st : Store) (file : List ℕ) → after_flush s st file ≡ Err Full → flush_frames st.version st.tree ≢ []
due_when_full s st file full none = (let e = subst (λ (text : List Frame). after_text s st file text ≡ Err Full) none full in absurd (cc))

pub step_full : (s : Settings) (st : Store) (file : List ℕ) → after_flush s st file ≡ Err Full → (let q : Stepped Global = after_step (batching s) s st file Flush in q ≡ Err Full)
step_full s st file full = ap (λ (r : Result Left Fault). and_then r (λ (p : Left). ok_step (Flushed p.0.sequence) p)) full

-- ---- faults

want_device : (why fault : Fault) → IsWantOfRoom why fault → fault ≡ Device → why ≡ Device
want_device why fault (inl room) device = (let e = room.1 in absurd (cc))
want_device why fault (inr other) device = sym other.1 ∙ device

want_other : (why fault : Fault) → IsWantOfRoom why fault → fault ≢ Device → why ≢ Device
want_other why fault (inl room) other = λ device. (let e = room.0 in absurd (cc))
want_other why fault (inr same) other = λ device. other (same.1 ∙ device)

is_machine : (why fault : Fault) → IsWantOfRoom why fault → IsOfMachine why → IsOfMachine fault
is_machine why fault (inl room) (inl device) = (let e = room.0 in absurd (cc))
is_machine why fault (inl room) (inr memory) = (let e = room.0 in absurd (cc))
is_machine why fault (inr same) (inl device) = inl (same.1 ∙ device)
is_machine why fault (inr same) (inr memory) = inr (same.1 ∙ memory)

not_nothing : (fault : Fault) → IsOfMachine fault → fault ≢ NothingToClean
not_nothing fault (inl device) nothing = absurd (cc)
not_nothing fault (inr memory) nothing = absurd (cc)

not_full_machine : (fault : Fault) → IsOfMachine fault → fault ≢ Full
not_full_machine fault (inl device) full = absurd (cc)
not_full_machine fault (inr memory) full = absurd (cc)

full_device : (fault : Fault) → fault ≡ Full → fault ≢ Device
full_device fault full device = absurd (cc)

want_same : (why fault : Fault) → why ≢ NothingToClean → IsWantOfRoom why fault → fault ≡ why
want_same why fault other (inl room) = absurd (other room.0)
want_same why fault other (inr same) = same.1

-- gone on, after a flush that was refused: for a full log, where some are left
pub gone_on : {T : Type 0} {x y : T} (fault : Fault) (left : ℕ)
    → ((fault ≡ Full) × (0 < left) × (let q : Result T Fault = Ok y in q ≡ Ok x)) ⊎ ((fault ≡ Full → left ≡ 0) × (let q : Result T Fault = Ok y in q ≡ Err fault))
    → (fault ≡ Full) × (0 < left) × (fault ≢ Device)
gone_on fault left (inl full) = (full.0, full.1, λ device. (let e = full.0 in absurd (cc)))
gone_on fault left (inr other) = (let e = other.1 in absurd (cc))

-- not gone on: with the same fault, and none are left for a full log
pub not_gone_on : {T : Type 0} {x : T} (fault reported : Fault) (left : ℕ)
    → ((fault ≡ Full) × (0 < left) × (let q : Result T Fault = Err reported in q ≡ Ok x)) ⊎ ((fault ≡ Full → left ≡ 0) × (let q : Result T Fault = Err reported in q ≡ Err fault))
    → (reported ≡ fault) × (fault ≡ Full → left ≡ 0)
not_gone_on fault reported left (inl full) = (let e = full.2 in absurd (cc))
not_gone_on fault reported left (inr other) = ((let e = other.1 in cc), other.0)

-- ---- readings

module _ {D : Type 0} (view : D → View) (cur next : State D) (settings : next.settings ≡ cur.settings) (kept : Kept (view cur.disk) (view next.disk)) (store : next.store ≡ cur.store) (same : IsTrue (view cur.disk).is_honest → Same (view cur.disk) (view next.disk)) where
  -- and so where only the disk was read
  pub still_of_bytes : (holds : Settings → Store → List ℕ → Type 0) → IsOfBytes view cur holds → IsOfBytes view next holds
  still_of_bytes holds (file, shown, is) = (
    file,
    λ honest. (let was = subst IsTrue kept.honest honest in shown was ∙ sym (same was).seen),
    subst (λ (s : Settings). holds s next.store file) (sym settings) (subst (λ (st : Store). holds cur.settings st file) (sym store) is),
  )

  still_read : (r : PagesRead) → IsReadFor view cur r → IsReadFor view next r
  still_read r (file, is, reading) = (
    file,
    record { whole = is.whole ∙ sym kept.size; honest = λ honest. (let was = subst IsTrue kept.honest honest in is.honest was ∙ sym (same was).seen) },
    subst (λ (s : Settings). IsReading (record { settings = s; version = next.store.version }) (ends_of next.store) file r) (sym settings)
        (subst (λ (st : Store). IsReading (record { settings = cur.settings; version = st.version }) (ends_of st) file r) (sym store) reading),
  )

  pub still_held : (o : Option PagesRead) → IfSome o (IsHeld view cur) → IfSome o (IsHeld view next)
  still_held None h = tt
  still_held (Some r) h = record {
    read = still_read r h.read;
    next = subst (λ (st : Store). st.head < r.limit) (sym store) h.next;
    limit = h.limit ∙ ap (λ (st : Store). st.head + min (most_ahead cur.settings) (most_cleanable cur.settings st)) (sym store)
        ∙ ap (λ (s : Settings). next.store.head + min (most_ahead s) (most_cleanable s next.store)) (sym settings);
    live = still_of_bytes (λ s st file. live_known s st file ≡ Some r.live) h.live;
  }

-- ---- so far

-- rows of cleans are done
pub record AreDone {D : Type 0} (view : D → View) (failures : D → ℕ) (old : State D) (rows : List CleanRow) (now : State D) : Type 0 where
  pub done : AreCleaned view failures old (count_of rows) now
  pub are : AreRows (view old.disk).is_honest false old.settings old.store (view old.disk).seen rows now.store (view now.disk).seen
  pub calm : rows ≡ [] → IsCalmOn view old

step_bytes : (r : Stepped Global) (a b : Answer Global) (p q : Left) → r ≡ ok_step a p → r ≡ ok_step b q → p.1 ≡ q.1
step_bytes r a b p q first second = ap (λ (x : Left). x.1) (same_left a b p q (sym first ∙ second))

module _ {D : Type 0} (view : D → View) (failures : D → ℕ) (lawful : (disk : D) → IsTrue (view disk).is_honest → Lawful (view disk)) (old : State D) where
  abbrev honest : Bool
  honest = (view old.disk).is_honest

  abbrev first : List ℕ
  first = (view old.disk).seen

  -- a clean that is refused on a store with the same settings, on a disk that is as honest
  as_old : (next : State D) → next.settings ≡ old.settings → (view next.disk).is_honest ≡ honest → IsCleanRefusedOn view next → IsCleanRefused honest old.settings next.store (view next.disk).seen
  as_old next settings is refused =
      subst (λ (s : Settings). IsCleanRefused honest s next.store (view next.disk).seen) settings
      (subst (λ (b : Bool). IsCleanRefused b next.settings next.store (view next.disk).seen) is refused)

  -- stopped by a clean that was refused after these rows
  stopped_by : (next : State D) (rows : List CleanRow) (why fault : Fault) (left : List ℕ) (cut : Bool) → (cut ≡ true → IsOfMachine fault)
      → (fault ≢ Device → IsTrue honest → left ≡ (view next.disk).seen)
      → AreRows honest cut old.settings old.store first rows next.store left
      → (rows ≡ [] → IsOfMachine fault ⊎ IsCalmOn view old)
      → (fault ≡ Full → NoneFollow honest old.settings rows next.store left)
      → count_of rows < old.settings.segments → IsWantOfRoom why fault
      → ((file : List ℕ) → (after_flush old.settings next.store file ≡ Err Full) ⊎ IsOfMachine fault)
      → AreStopped view failures old next (count_of rows) why
      → IsStoppedCleaning view failures old next fault
  stopped_by next rows why fault left cut cut_for shows are calm none_follow room want full_or r =
      let (file, shown, is) = r.why in
      record {
        rows = rows;
        left = left;
        shows = shows;
        may_be_cut = cut;
        cut = cut_for;
        are = are;
        calm = calm;
        full = none_follow;
        said = r.said;
        played = r.played;
        exact = r.exact;
        tree = r.tree;
        rest = r.rest;
        turn = λ other. r.turn (want_other why fault want other);
        device = λ device. r.device (want_device why fault want device);
        step = Clean;
        why = (file, shown, inr (refl, room, full_or file, why, want, is));
        words = λ _. tt;
        crash = r.crash;
      }

  module _ (rows : List CleanRow) (cur : State D) (are : AreDone view failures old rows cur) (next : State D) where
    abbrev CrashIn : Step Global → Type 0
    CrashIn x = cur.has_failed ≡ false → IsSynced (view cur.disk) → LeavesOnly (view cur.disk) (view next.disk) (IsLeftInStep cur.settings cur.store (view cur.disk).seen x)

    abbrev DoneIn : Step Global → code_answer.Answer → Type 0
    DoneIn x a = IsTrue (view cur.disk).is_honest → after_step (batching cur.settings) cur.settings cur.store (view cur.disk).seen x ≡ Ok (answer_of a, (next.store, (view next.disk).seen))

    abbrev StepIn : Step Global → code_answer.Answer → Type 0
    StepIn x a = (bytes : List ℕ) × IsStepDone (view cur.disk).is_honest cur.settings cur.store (view cur.disk).seen x a next.store bytes

    abbrev FaultIn : Step Global → Fault → Type 0
    FaultIn x fault = (file : List ℕ) × (IsTrue (view cur.disk).is_honest → file ≡ (view cur.disk).seen) × IsStepFault cur.settings cur.store file (failures cur.disk) (failures next.disk) x fault

    -- it was honest, so it is
    here : IsTrue honest → IsTrue (view cur.disk).is_honest
    here h = subst IsTrue (sym are.done.turn.kept.honest) h

    -- flushed
    pub flushed_on : (a : code_answer.Answer) → StepIn Flush a
        → (next.settings ≡ cur.settings) × Kept (view cur.disk) (view next.disk)
        → (next.has_failed ≡ cur.has_failed) × (failures next.disk ≡ failures cur.disk)
        → old.has_failed ≡ false
        → DoneIn Flush a
        → (IsSynced (view cur.disk) → IsSynced (view next.disk))
        → CrashIn Flush
        → IsSound view next
        → count_of rows ≤ old.settings.segments
        → IsFlushedCleaning view failures old next
    flushed_on a (bytes, step) rest counted fine exact is_synced crash sound most =
        let done = are.done in
        let seen = (view cur.disk).seen in
        record {
          rows = rows;
          most = most;
          cleaned = cur.store;
          left = seen;
          are = are.are;
          calm = are.calm;
          answer = a;
          flush = (
            bytes,
            subst (λ (s : Settings). IsStepDone honest s cur.store seen Flush a next.store bytes) done.turn.settings
                (subst (λ (b : Bool). IsStepDone b cur.settings cur.store seen Flush a next.store bytes) done.turn.kept.honest step),
            λ h. step_bytes (after_step (batching cur.settings) cur.settings cur.store seen Flush) (answer_of a) (answer_of a) (next.store, bytes) (next.store, (view next.disk).seen)
                (subst (λ (f : List ℕ). after_step (batching cur.settings) cur.settings cur.store f Flush ≡ ok_step (answer_of a) (next.store, bytes)) (step.shown (here h)) step.done)
                (exact (here h)),
          );
          said = done.said ++ a ∷ [];
          turn = goes_on view failures lawful old (cleans (count_of rows)) done.said cur done.turn next Flush a (bytes, step) rest counted (done.turn.has_failed ∙ fine) exact is_synced crash sound;
          holds = flush_holds (view cur.disk).is_honest cur.settings cur.store (view cur.disk).seen a next.store bytes done.turn.sound.is step ∙ ap contents done.tree;
        }

    -- a flush that was refused
    module _ (unchanged : next.store ≡ cur.store) (rest : (next.settings ≡ cur.settings) × Kept (view cur.disk) (view next.disk)) (sound : IsSound view next) where
      -- but not since a call of the disk failed
      pub still_done : (next.has_failed ≡ cur.has_failed) × (failures next.disk ≡ failures cur.disk)
          → (IsTrue (view cur.disk).is_honest → Same (view cur.disk) (view next.disk))
          → AreDone view failures old rows next
      still_done counted same = record {
        done = record {
          said = are.done.said;
          turn = stays view failures lawful old (cleans (count_of rows)) are.done.said cur are.done.turn next rest unchanged counted same sound;
          tree = ap (λ (x : Store). x.tree) unchanged ∙ are.done.tree;
        };
        are = rows_end honest old.settings false old.store first rows cur.store next.store (view cur.disk).seen (view next.disk).seen unchanged (λ h. (same (here h)).seen) are.are;
        calm = are.calm;
      }

      flush_after : (fault : Fault) → FaultIn Flush fault
          → (file : List ℕ) × (IsTrue (view old.disk).is_honest → file ≡ (plays (batching old.settings) old.settings old.store first (cleans (count_of rows))).bytes)
          × IsStepFault old.settings next.store file (failures old.disk) (failures next.disk) Flush fault
      flush_after fault why = refused_after view failures lawful old (cleans (count_of rows)) are.done.said cur are.done.turn next called.Flush (failures next.disk) fault unchanged why

      -- the log is full for it
      pub is_full : (fault : Fault) → fault ≡ Full → FaultIn Flush fault → (other : List ℕ) → after_flush old.settings next.store other ≡ Err Full
      is_full fault full following other =
          let (file, shown, why) = flush_after fault following in
          full_any old.settings next.store file other (full_of old.settings next.store file (failures old.disk) (failures next.disk) fault full why)

      all_done : {X : Type 0} → (left : ℕ) → left ≡ 0 → count_of rows + left ≡ old.settings.segments → (count_of rows ≡ old.settings.segments) ⊎ X
      all_done left none sum = inl (omega (arith, none, sum))

      -- its numbers fit, as those of the store before it did
      fit_now : NumbersFit {A = Global} (batching cur.settings) cur.settings cur.store Flush → NumbersFit {A = Global} (batching old.settings) old.settings next.store Flush
      fit_now fit =
          subst (λ (st : Store). NumbersFit {A = Global} (batching old.settings) old.settings st Flush) (sym unchanged)
          (subst (λ (s : Settings). NumbersFit {A = Global} (batching s) s cur.store Flush) are.done.turn.settings fit)

      -- and no clean is left, or it was refused otherwise
      pub stopped_flush : (fault : Fault) (left : ℕ) → count_of rows + left ≡ old.settings.segments
          → (fault ≢ Device → (next.has_failed ≡ cur.has_failed) × (failures next.disk ≡ failures cur.disk))
          → (IsTrue (view cur.disk).is_honest → fault ≢ Device → Same (view cur.disk) (view next.disk))
          → (fault ≡ Device → (next.has_failed ≡ true) × NumbersFit {A = Global} (batching cur.settings) cur.settings cur.store Flush)
          → CrashIn Flush
          → FaultIn Flush fault
          → (fault ≡ Full → left ≡ 0)
          → IsStoppedCleaning view failures old next fault
      stopped_flush fault left sum counted same device crash following last =
          let done = are.done in
          let seen = (view cur.disk).seen in
          let (file, shown, why) = flush_after fault following in
          record {
            rows = rows;
            left = seen;
            shows = λ other h. sym (same (here h) other).seen;
            may_be_cut = false;
            cut = λ e. absurd (cc);
            are = rows_end honest old.settings false old.store first rows cur.store next.store seen seen unchanged (λ h. refl) are.are;
            calm = λ none. inr (are.calm none);
            full = λ full. subst (λ (st : Store). NoneFollow honest old.settings rows st seen) (sym unchanged) (all_done left (last full) sum);
            said = done.said;
            played = still_said view failures lawful old (cleans (count_of rows)) done.said cur done.turn next unchanged;
            exact = still_exact view failures lawful old (cleans (count_of rows)) done.said cur done.turn next unchanged;
            tree = ap (λ (x : Store). x.tree) unchanged ∙ done.tree;
            rest = (rest.0 ∙ done.turn.settings, kept_then (view old.disk) (view cur.disk) (view next.disk) done.turn.kept rest.1);
            turn = λ other. stays view failures lawful old (cleans (count_of rows)) done.said cur done.turn next rest unchanged (counted other) (λ honest. same honest other) sound;
            device = λ is. (device is).0;
            step = Flush;
            why = (file, shown, inl (refl, why));
            words = λ is. fit_now (device is).1;
            crash = λ fine was. crash_on view failures lawful old (cleans (count_of rows)) done.said cur done.turn next Flush crash fine was;
          }

    -- only the disk was read
    pub read_done : IsOnlyRead view failures cur next → AreDone view failures old rows next
    read_done r = record {
      done = still_cleaned view failures lawful old (count_of rows) cur are.done next r;
      are = rows_end honest old.settings false old.store first rows cur.store next.store (view cur.disk).seen (view next.disk).seen r.store (λ h. (r.same (here h)).seen) are.are;
      calm = are.calm;
    }

    -- a flush is refused, if the log is full and no clean may help, or for memory
    pub flush_refused : (only : IsOnlyRead view failures cur next) (fault : Fault) → fault ≢ Device
        → (file : List ℕ) → (IsTrue (view next.disk).is_honest → file ≡ (view next.disk).seen) → IsStepFault old.settings next.store file (failures old.disk) (failures next.disk) Flush fault
        → (fault ≡ Full → IsOverfull old.settings next.store file)
        → IsStoppedCleaning view failures old next fault
    flush_refused only fault other file shown why last =
        let so = read_done only in
        let done = so.done in
        record {
          rows = rows;
          left = (view next.disk).seen;
          shows = λ _ h. refl;
          may_be_cut = false;
          cut = λ e. absurd (cc);
          are = so.are;
          calm = λ none. inr (so.calm none);
          full = λ full. inr (inl (file, λ h. shown (subst IsTrue (sym done.turn.kept.honest) h), last full));
          said = done.said;
          played = done.turn.played;
          exact = done.turn.exact;
          tree = done.tree;
          rest = (done.turn.settings, done.turn.kept);
          turn = λ _. done.turn;
          device = λ device. absurd (other device);
          step = Flush;
          why = (file, λ honest. shown (subst IsTrue (sym done.turn.kept.honest) honest) ∙ done.turn.bytes honest, inl (refl, why));
          words = λ device. absurd (other device);
          crash = λ fine was. crash_on view failures lawful old (cleans (count_of rows)) are.done.said cur are.done.turn next Flush
              (λ _ is_synced. leaves_the_same (view cur.disk) (view next.disk) _ (lawful cur.disk is_synced.honest) (only.same is_synced.honest) is_synced (inl refl)) fine was;
        }

    -- ---- cleans after a flush that finds the log full

    module _ (full : (other : List ℕ) → after_flush old.settings cur.store other ≡ Err Full) where
      pub full_next : next.store ≡ cur.store → (file : List ℕ) → after_flush old.settings next.store file ≡ Err Full
      full_next store file = subst (λ (x : Store). after_flush old.settings x file ≡ Err Full) (sym store) (full file)

      -- a fault for lack of room that a clean of the store has: a clean is refused
      full_refused : (why fault : Fault) → IsWantOfRoom why fault → IsOfMachine why ⊎ IsCleanRefusedOn view next → fault ≡ Full → next.settings ≡ old.settings
          → (view next.disk).is_honest ≡ honest → IsCleanRefused honest old.settings next.store (view next.disk).seen
      full_refused why fault want (inl machine) is settings same = absurd (not_full_machine fault (is_machine why fault want machine) is)
      full_refused why fault want (inr refused) is settings same = as_old next settings same refused

      -- there is no reading by which cleans may help
      pub stopped_reading : (why fault : Fault) → count_of rows < old.settings.segments → IsWantOfRoom why fault → IsNoReading view failures cur next why → IsStoppedCleaning view failures old next fault
      stopped_reading why fault room want none = ⊎_elim (λ read. by_reading read.0 read.1) (λ refused. by_refusal refused) none.why
        where
          by_reading : IsOnlyRead view failures cur next → ((why ≡ Full) × IsOfBytes view next IsOverfull) ⊎ (why ≡ NoMemory) → IsStoppedCleaning view failures old next fault
          by_reading only (inl (is, (file, shown, over))) =
              let same : fault ≡ Full = want_same why fault (λ nothing. (let e = is in absurd (cc))) want ∙ is in
              let settings = only.rest.0 ∙ are.done.turn.settings in
              subst (λ (f : Fault). IsStoppedCleaning view failures old next f) (sym same)
              (flush_refused only Full (λ device. absurd (cc)) file shown (inl (step_full old.settings next.store file (full_next only.store file)))
              (λ _. subst (λ (s : Settings). IsOverfull s next.store file) settings over))
          by_reading only (inr is) =
              let same : fault ≡ NoMemory = want_same why fault (λ nothing. (let e = is in absurd (cc))) want ∙ is in
              let file = (view next.disk).seen in
              subst (λ (f : Fault). IsStoppedCleaning view failures old next f) (sym same)
              (flush_refused only NoMemory (λ device. absurd (cc)) file (λ _. refl) (inr (inl (refl, due_when_full old.settings next.store file (full_next only.store file))))
              (λ full. absurd (cc)))

          by_refusal : IsRefusedClean view failures cur next why → IsStoppedCleaning view failures old next fault
          by_refusal is_refused =
              let r = refused_clean view failures cur next why is_refused in
              let seen = (view cur.disk).seen in
              let settings = r.rest.0 ∙ are.done.turn.settings in
              let as_honest = r.rest.1.honest ∙ are.done.turn.kept.honest in
              let same = λ (other : fault ≢ Device) (h : IsTrue honest). (r.same (here h) (want_other why fault want other)).seen in
              stopped_by next rows why fault seen false (λ e. absurd (cc)) (λ other h. sym (same other h))
              (rows_end honest old.settings false old.store first rows cur.store next.store seen seen r.unchanged (λ h. refl) are.are)
              (λ none. inr (are.calm none))
              (λ is. inr (inr (refused_end honest old.settings next.store next.store (view next.disk).seen seen refl (λ h. sym (same (full_device fault is) h))
              (full_refused why fault want (machine_or_refused view failures lawful cur next why is_refused) is settings as_honest))))
              room want (λ file. inl (full_next r.unchanged file)) (one_stopped view failures lawful old (count_of rows) cur are.done next why is_refused)

      module _ (r : PagesRead) (held : IsHeld view cur r) (roomy : is_overfull cur.settings cur.store r.live ≡ false) (left : ℕ) (some : 0 < left) (sum : count_of rows + left ≡ old.settings.segments)
          (n : ℕ) (many : 0 < n) (few : n ≤ most_cleanable cur.settings cur.store)
          (most : n ≤ min (most_ahead cur.settings) left) where
        -- the row that was performed with this reading, and whose last clean left these bytes
        abbrev row_by : List (List ℕ) → CleanRow
        row_by reads = record { ahead = held.live.0; reads = reads }

        here_settings : cur.settings ≡ old.settings
        here_settings = are.done.turn.settings

        known : live_known old.settings cur.store held.live.0 ≡ Some r.live
        known = subst (λ (s : Settings). live_known s cur.store held.live.0 ≡ Some r.live) here_settings held.live.2

        begun : IsFull old.settings cur.store held.live.0
        begun = (full held.live.0, (r.live, known, subst (λ (s : Settings). is_overfull s cur.store r.live ≡ false) here_settings roomy))

        begun_full : (reads : List (List ℕ)) → BeginsFull honest old.settings rows cur.store (view cur.disk).seen (row_by reads)
        begun_full reads = (begun, calm_end honest old.settings old.store first rows cur.store (view cur.disk).seen are.are are.calm)

        short : (reads : List (List ℕ)) → length reads ≡ n → length reads ≤ row_length old.settings rows cur.store
        short reads is =
            let all : n ≤ min (min (most_ahead old.settings) (old.settings.segments - count_of rows)) (most_cleanable old.settings cur.store) =
            subst (λ (s : Settings). n ≤ min (min (most_ahead s) (old.settings.segments - count_of rows)) (most_cleanable s cur.store)) here_settings (omega (arith, most, few, sum)) in
            omega (arith, all, is)

        row_is : (cut : Bool) (reads : List (List ℕ)) (last : List ℕ) → length reads ≡ n
            → AreCleansBy (view cur.disk).is_honest cur.settings cur.store (view cur.disk).seen reads next.store last
            → (cut ≡ false → (length reads ≡ row_length old.settings rows cur.store) ⊎ IsCleanRefused honest old.settings next.store last)
            → IsRow honest cut old.settings rows cur.store (view cur.disk).seen (row_by reads) next.store last
        row_is cut reads last is by whole = record {
          shown = λ h. held.live.1 (here h);
          begins = inl (begun_full reads);
          done = subst (λ (s : Settings). AreCleansBy honest s cur.store (view cur.disk).seen reads next.store last) here_settings
              (subst (λ (b : Bool). AreCleansBy b cur.settings cur.store (view cur.disk).seen reads next.store last) are.done.turn.kept.honest by);
          some = omega (arith, many, is);
          few = short reads is;
          whole = whole;
        }

        -- a row more
        pub more_done : (more : ℕ) → IsCleanedOn view failures cur n next → IsWhole view cur (min (most_ahead cur.settings) left) n next
            → more + n ≡ left
            → (rows : List CleanRow) × AreDone view failures old rows next × (count_of rows + more ≡ old.settings.segments)
        more_done more on whole goes =
            let (reads, is, by) = reads_of view failures lawful cur next n are.done.turn.sound on in
            let done = on old (count_of rows) are.done in
            let seen = (view next.disk).seen in
            let counted : count_of rows + n ≡ count_of rows + length reads = omega (arith, is) in
            let row = row_is false reads seen is by (λ _. whole_by reads is whole done) in (
              row_by reads ∷ rows,
              record {
                done = subst (λ (k : ℕ). AreCleaned view failures old k next) counted done;
                are = (cur.store, (view cur.disk).seen, are.are, row);
                calm = λ e. absurd (cc);
              },
              omega (arith, sum, is, goes),
            )
          where
            whole_by : (reads : List (List ℕ)) → length reads ≡ n → IsWhole view cur (min (most_ahead cur.settings) left) n next → AreCleaned view failures old (count_of rows + n) next
                → (length reads ≡ row_length old.settings rows cur.store) ⊎ IsCleanRefused honest old.settings next.store (view next.disk).seen
            whole_by reads is (bound, inl all) done =
                let all_old : n ≡ min (min (most_ahead old.settings) left) (most_cleanable old.settings cur.store) =
                subst (λ (s : Settings). n ≡ min (min (most_ahead s) left) (most_cleanable s cur.store)) here_settings all in
                inl (omega (arith, all_old, is, sum))
            whole_by reads is (bound, inr refused) done = inr (as_old next done.turn.settings done.turn.kept.honest refused)

        -- a row that was cut short, since a call of the disk or an allocation failed
        pub stopped_row : (why fault : Fault) → IsOfMachine why → count_of rows + n < old.settings.segments → IsWantOfRoom why fault → IsStoppedOn view failures cur n why next
            → IsStoppedCleaning view failures old next fault
        stopped_row why fault machine room want stopped =
            let (reads, is, last, shows, by) = reads_before view failures lawful cur next n why are.done.turn.sound stopped in
            let counted : count_of rows + n ≡ count_of rows + length reads = omega (arith, is) in
            let ends = is_machine why fault want machine in
            stopped_by next (row_by reads ∷ rows) why fault last true (λ _. ends) (λ other h. shows (want_other why fault want other) (here h))
            (cur.store, (view cur.disk).seen, are.are, row_is true reads last is by (λ e. absurd (cc)))
            (λ e. absurd (cc)) (λ is. absurd (not_full_machine fault ends is))
            (omega (arith, room, counted)) want (λ file. inr ends)
            (subst (λ (k : ℕ). AreStopped view failures old next k why) counted (stopped old (count_of rows) are.done))

      -- the first clean of a row was refused
      pub stopped_first : (why fault : Fault) (n : ℕ) → n ≡ 0 → next.store ≡ cur.store → count_of rows < old.settings.segments → IsWantOfRoom why fault
          → IsOfMachine why ⊎ IsCleanRefusedOn view next → IsStoppedOn view failures cur n why next → IsStoppedCleaning view failures old next fault
      stopped_first why fault n none store room want refused stopped =
          let (reads, is, last, shows, by) = reads_before view failures lawful cur next n why are.done.turn.sound stopped in
          let counted : count_of rows + n ≡ count_of rows = omega (arith, none) in
          let r = subst (λ (k : ℕ). AreStopped view failures old next k why) counted (stopped old (count_of rows) are.done) in
          let kept = (none_read (view cur.disk).is_honest cur.settings cur.store (view cur.disk).seen reads next.store last (is ∙ none) by).1 in
          stopped_by next rows why fault last false (λ e. absurd (cc)) (λ other h. shows (want_other why fault want other) (here h))
          (rows_end honest old.settings false old.store first rows cur.store next.store (view cur.disk).seen last store (λ h. kept (here h)) are.are)
          (λ e. inr (are.calm e))
          (λ full_is. inr (inr (refused_end honest old.settings next.store next.store (view next.disk).seen last refl (λ h. shows (want_other why fault want (full_device fault full_is)) (here h))
          (full_refused why fault want refused full_is r.rest.0 r.rest.1.honest))))
          room want (λ file. inl (full_next store file)) r

  -- a row stopped at its first clean, or was cut short
  pub stopped_by_row : (rows : List CleanRow) (cur : State D) (are : AreDone view failures old rows cur) (next : State D) (full : (other : List ℕ) → after_flush old.settings cur.store other ≡ Err Full)
      → (r : PagesRead) → IsHeld view cur r → is_overfull cur.settings cur.store r.live ≡ false → (left : ℕ) → 0 < left → count_of rows + left ≡ old.settings.segments
      → (n : ℕ) → n ≤ most_cleanable cur.settings cur.store → n ≤ min (most_ahead cur.settings) left
      → (why fault : Fault) → count_of rows + n < old.settings.segments → IsWantOfRoom why fault
      → ((n ≡ 0) × (next.store ≡ cur.store)) ⊎ IsOfMachine why → IsOfMachine why ⊎ IsCleanRefusedOn view next → IsStoppedOn view failures cur n why next → IsStoppedCleaning view failures old next fault
  stopped_by_row rows cur are next full r held roomy left some sum n few most why fault room want first_or refused stopped =
      ⊎_elim (λ none. at_first none.0 none.1) (λ machine. by_machine machine (eq-zero-or-pos n)) first_or
    where
      at_first : n ≡ 0 → next.store ≡ cur.store → IsStoppedCleaning view failures old next fault
      at_first none store = stopped_first rows cur are next full why fault n none store (omega (arith, room)) want refused stopped

      by_machine : IsOfMachine why → (n ≡ 0) ⊎ (0 < n) → IsStoppedCleaning view failures old next fault
      by_machine machine (inl none) =
          let (reads, is, last, shows, by) = reads_before view failures lawful cur next n why are.done.turn.sound stopped in
          at_first none (none_read (view cur.disk).is_honest cur.settings cur.store (view cur.disk).seen reads next.store last (is ∙ none) by).0
      by_machine machine (inr many) = stopped_row rows cur are next full r held roomy left some sum n many few most why fault machine room want stopped

  -- ---- a row of early cleans

  module _ (next : State D) (n : ℕ) (sound : IsSound view old) (few : n ≤ most_cleanable old.settings old.store) (room : n ≤ most_ahead old.settings) (all : most_ahead old.settings ≤ old.settings.segments) where
    early_row : (cut : Bool) → IsOfBytes view old IsEarly → (reads : List (List ℕ)) (last : List ℕ) → 0 < n → length reads ≡ n → AreCleansBy honest old.settings old.store first reads next.store last
        → (cut ≡ false → (length reads ≡ row_length old.settings [] old.store) ⊎ IsCleanRefused honest old.settings next.store last)
        → (ahead : List ℕ) × IsEarly old.settings old.store ahead × IsRow honest cut old.settings [] old.store first (record { ahead = ahead; reads = reads }) next.store last
    early_row cut (file, shown, early) reads last some is by whole = (
      file,
      early,
      record {
        shown = shown;
        begins = inr (refl, early);
        done = by;
        some = omega (arith, some, is);
        few = omega (arith, is, few, room, all);
        whole = whole;
      },
    )

    -- some were done, or none, and then none is early
    pub early_done : (0 < n → IsOfBytes view old IsEarly × IsWhole view old (most_ahead old.settings) n next) → (n ≡ 0 → IsCalmOn view old) → IsCleanedOn view failures old n next
        → (left : ℕ) → n + left ≡ old.settings.segments → (rows : List CleanRow) × AreDone view failures old rows next × (count_of rows + left ≡ old.settings.segments)
    early_done early calm on left sum =
        let (reads, is, by) = reads_of view failures lawful old next n sound on in
        let done = on old 0 (none_cleaned view failures lawful old sound) in
        go reads is by (subst (λ (k : ℕ). AreCleaned view failures old k next) (zero-add n) done)
      where
        go : (reads : List (List ℕ)) → length reads ≡ n → AreCleansBy honest old.settings old.store first reads next.store (view next.disk).seen → AreCleaned view failures old n next
            → (rows : List CleanRow) × AreDone view failures old rows next × (count_of rows + left ≡ old.settings.segments)
        go [] none by done = (
          [],
          record { done = subst (λ (k : ℕ). AreCleaned view failures old k next) (sym none) done; are = by; calm = λ _. calm (sym none) },
          omega (arith, none, sum),
        )
        go (file ∷ reads) is by done =
            let some : 0 < n = omega (arith, is) in
            let (was, whole) = early some in
            let (ahead, early_is, row) = early_row false was (file ∷ reads) (view next.disk).seen some is by (λ _. whole_first (file ∷ reads) is whole done) in
            let one : n ≡ 0 + length (file ∷ reads) = omega (arith, is) in (
              record { ahead = ahead; reads = file ∷ reads } ∷ [],
              record { done = subst (λ (k : ℕ). AreCleaned view failures old k next) one done; are = (old.store, first, (refl, λ h. refl), row); calm = λ e. absurd (cc) },
              omega (arith, one, sum),
            )
          where
            whole_first : (reads : List (List ℕ)) → length reads ≡ n → IsWhole view old (most_ahead old.settings) n next → AreCleaned view failures old n next
                → (length reads ≡ row_length old.settings [] old.store) ⊎ IsCleanRefused honest old.settings next.store (view next.disk).seen
            whole_first reads is (bound, inl each) done = inl (omega (arith, is, each, all))
            whole_first reads is (bound, inr refused) done = inr (as_old next done.turn.settings done.turn.kept.honest refused)

    pub early_stopped : (fault : Fault) → n < old.settings.segments → IsOfMachine fault → (0 < n → IsOfBytes view old IsEarly) → IsStoppedOn view failures old n fault next → IsStoppedCleaning view failures old next fault
    early_stopped fault below machine early stopped =
        let (reads, is, last, shows, by) = reads_before view failures lawful old next n fault sound stopped in
        go reads is last shows by (subst (λ (k : ℕ). AreStopped view failures old next k fault) (zero-add n) (stopped old 0 (none_cleaned view failures lawful old sound)))
      where
        go : (reads : List (List ℕ)) → length reads ≡ n → (last : List ℕ) → (fault ≢ Device → IsTrue honest → last ≡ (view next.disk).seen)
            → AreCleansBy honest old.settings old.store first reads next.store last → AreStopped view failures old next n fault → IsStoppedCleaning view failures old next fault
        go [] none last shows by r =
            stopped_by next [] fault fault last true (λ _. machine) shows by (λ _. inl machine) (λ is. absurd (not_full_machine fault machine is))
            (omega (arith, none, below)) (inr (not_nothing fault machine, refl)) (λ file. inr machine) (subst (λ (k : ℕ). AreStopped view failures old next k fault) (sym none) r)
        go (file ∷ reads) is last shows by r =
            let some : 0 < n = omega (arith, is) in
            let (ahead, early_is, row) = early_row true (early some) (file ∷ reads) last some is by (λ e. absurd (cc)) in
            let one : n ≡ 0 + length (file ∷ reads) = omega (arith, is) in
            stopped_by next (record { ahead = ahead; reads = file ∷ reads } ∷ []) fault fault last true (λ _. machine) shows (old.store, first, (refl, λ h. refl), row)
            (λ e. absurd (cc)) (λ is_full. absurd (not_full_machine fault machine is_full))
            (omega (arith, one, below)) (inr (not_nothing fault machine, refl)) (λ file. inr machine) (subst (λ (k : ℕ). AreStopped view failures old next k fault) one r)

-- an early row has as many cleans as a row has at most
pub early_whole : {D : Type 0} (view : D → View) (old next : State D) (n most : ℕ) → most ≡ most_ahead old.settings → (0 < n → IsOfBytes view old IsEarly × IsWhole view old most n next)
    → 0 < n → IsOfBytes view old IsEarly × IsWhole view old (most_ahead old.settings) n next
early_whole view old next n most is early some = (let (was, whole) = early some in (was, subst (λ (m : ℕ). IsWhole view old m n next) is whole))

-- early cleans are at most as many as segments can be cleaned
pub early_few : {D : Type 0} (view : D → View) (old next : State D) (n : ℕ) → (0 < n → IsOfBytes view old IsEarly × IsWhole view old (most_ahead old.settings) n next) → n ≤ most_cleanable old.settings old.store
early_few view old next n early =
    ⊎_elim (λ none. omega (arith, none)) (λ some. (let bound = (early some).1.0 in omega (arith, bound))) (eq-zero-or-pos n)

-- ---- what the store holds

-- it stays where the store was compacted
pub start_holds : {D : Type 0} (old start : State D) → IsStart old start → contents start.store.tree ≡ contents old.store.tree
start_holds {D = D} old start (inl same) = ap (λ (x : State D). contents x.store.tree) same
start_holds old start (inr (due, full, bloated, compacted, settings, disk, failed)) = compacted.holds

-- and where it was then cleaned and flushed, whatever the result
pub cleaning_holds : {D : Type 0} (view : D → View) (failures : D → ℕ) (old start now : State D) (r : Result ℕ Fault) → IsStart old start
    → IfOk r (λ _. IsFlushedCleaning view failures start now) → IfErr r (IsStoppedCleaning view failures start now) → contents now.store.tree ≡ contents old.store.tree
cleaning_holds view failures old start now (Ok n) is flushed stopped = flushed.holds ∙ start_holds old start is
cleaning_holds view failures old start now (Err fault) is flushed stopped = ap contents stopped.tree ∙ start_holds old start is
