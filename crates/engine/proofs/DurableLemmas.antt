-- A batch and its flush as one call: from its steps to what the call promises.
use Rattle.std.specs.Prelude.{◌≡◌, ◌≢◌, ◌⊎◌, ℕ, ◌≤◌, length, Bool, IsTrue, false, List, Option, Some, None, Result, Ok, Err, IfErr, OnOk, MatchOption}
use Rattle.std.proofs.Common.{refl, sym, ap, ◌∙◌, subst, inl, inr}
use Rattle.std.specs.declared.alloc.Global.{Global}
use Rattle.keys.specs.Bytes.{Bytes, Pairs}
use Rattle.keys.specs.Order.{IsRising}
use Rattle.keys.specs.Step.{map_after_all}
use Rattle.keys.specs.declared.command.Command.{Command}
use Rattle.keys.specs.declared.command.Reply.{Reply}
use Rattle.keys.specs.declared.fault.Fault.{Fault}
use Rattle.keys.specs.declared.fault.Fault.TheVariants.{BadCrew, Device, Failed, NoMemory}
use Rattle.mapping.specs.Levels.{contents}
use Rattle.mapping.specs.Proper.{IsProper}
use Rattle.flush_log.specs.Disk.{View}
use Rattle.engine.specs.Batch.{IsLaterFault}
use Rattle.engine.specs.Cleaning.{IsStart}
use Rattle.engine.specs.Durable.{IsExecuted, IsFlushed, IsGivenUp, IsNotUndone, IsRefusedBatch, IsUndoRefused, IsUndoTried, IsUnflushed, IsUnwritten, contents_after}
use Rattle.engine.specs.OneStep.{IsBatch}
use Rattle.engine.specs.Refusal.{longest_batch, refusal}
use Rattle.engine.specs.State.{State}
use Rattle.engine.specs.Undo.{IsTooLongToUndo, undo_of_all}
use Rattle.engine.specs.declared.store.durable.Unwritten.{Unwritten}
use Rattle.engine.specs.declared.store.durable.Unwritten.TheVariants.{Undone, InDoubt}
use Rattle.engine.proofs.Admitted.{admitted}
use Rattle.engine.proofs.CleaningLemmas.{start_holds}
use Rattle.engine.proofs.CompactedLemmas.{puts_are_short}
use Rattle.engine.proofs.UndoAdmitted.{undo_not_refused}
use Rattle.engine.proofs.UndoLemmas.{undone}

-- ---- a batch with its replies as a list

abbrev ok : {X : Type 0} → X → Result X Fault
ok x = Ok x

abbrev err : (X : Type 0) → Fault → Result X Fault
err X fault = Err fault

ok_kept : {X Y : Type 0} (o : Option Fault) (P : Fault → Type 0) (x : X) (y : Y) → MatchOption o (IfErr (ok x) P) (λ f. ok x ≡ err X f) → MatchOption o (IfErr (ok y) P) (λ f. ok y ≡ err Y f)
ok_kept None P x y h = h
ok_kept (Some f) P x y h = absurd (cc)

same_err : {X Y : Type 0} (f g : Fault) → err X f ≡ err X g → err Y f ≡ err Y g
same_err {X = X} {Y = Y} f g e = (let same : f ≡ g = cc in ap (λ (x : Fault). err Y x) same)

err_kept : (X Y : Type 0) (o : Option Fault) (P : Fault → Type 0) (why : Fault) → MatchOption o (IfErr (err X why) P) (λ f. err X why ≡ err X f) → MatchOption o (IfErr (err Y why) P) (λ f. err Y why ≡ err Y f)
err_kept X Y None P why h = h
err_kept X Y (Some f) P why h = same_err {X = X} {Y = Y} why f h

never_err : {X : Type 0} (x : X) (f : Fault) → ok x ≡ err X f → ⊥
never_err x f e = absurd (cc)

module _ {D : Type 0} (view : D → View) (able : Bool) where
  pub executed_by : {X : Type 0} (old : State D) (cs : List (Command Global)) (x : X) (said : X → List (Reply Global)) (now : State D) → IsBatch view able old cs (ok x) said now → IsExecuted view able old cs (said x) now
  executed_by old cs x said now b = record {
    replies = b.replies;
    store = b.store;
    contents = b.contents;
    rest = b.rest;
    failed = λ bad. absurd (never_err x Failed (b.failed bad));
    bad_crew = λ fine unable. absurd (never_err x BadCrew (b.bad_crew fine unable));
    refused = λ fine fit. ok_kept (refusal old.settings cs) (IsLaterFault old.settings old.store.tree cs) x (said x) (b.refused fine fit);
    unchanged = b.unchanged;
    allowed = b.allowed;
    sound = b.sound;
  }

  pub refused_by : {X : Type 0} (old : State D) (cs : List (Command Global)) (why : Fault) (said : X → List (Reply Global)) (now : State D) → IsBatch view able old cs (err X why) said now → IsRefusedBatch view able old cs why now
  refused_by {X = X} old cs why said now b = record {
    replies = tt;
    store = tt;
    contents = tt;
    rest = b.rest;
    failed = λ bad. same_err {X = X} {Y = List (Reply Global)} why Failed (b.failed bad);
    bad_crew = λ fine unable. same_err {X = X} {Y = List (Reply Global)} why BadCrew (b.bad_crew fine unable);
    refused = λ fine fit. err_kept X (List (Reply Global)) (refusal old.settings cs) (IsLaterFault old.settings old.store.tree cs) why (b.refused fine fit);
    unchanged = b.unchanged;
    allowed = tt;
    sound = b.sound;
  }

-- ---- a flush that was refused

start_settings : {D : Type 0} (old start : State D) → IsStart old start → start.settings ≡ old.settings
start_settings old start (inl same) = ap (λ x. x.settings) same
start_settings old start (inr (due, full, bloated, compacted, settings, disk, failed)) = settings

start_failed : {D : Type 0} (old start : State D) → IsStart old start → start.has_failed ≡ old.has_failed
start_failed old start (inl same) = ap (λ x. x.has_failed) same
start_failed old start (inr (due, full, bloated, compacted, settings, disk, failed)) = failed

module _ {D : Type 0} (view : D → View) (failures : D → ℕ) where
  unflushed_holds : (old now : State D) (fault : Fault) → IsUnflushed view failures old fault now → contents now.store.tree ≡ contents old.store.tree
  unflushed_holds old now fault (start, is, stopped) = ap contents stopped.tree ∙ start_holds old start is

  unflushed_settings : (old now : State D) (fault : Fault) → IsUnflushed view failures old fault now → now.settings ≡ old.settings
  unflushed_settings old now fault (start, is, stopped) = stopped.rest.0 ∙ start_settings old start is

  unflushed_failed : (old now : State D) (fault : Fault) → fault ≢ Device → IsUnflushed view failures old fault now → now.has_failed ≡ old.has_failed
  unflushed_failed old now fault other (start, is, stopped) = (stopped.turn other).has_failed ∙ start_failed old start is

  -- ---- the flush and the undo commands

  pub given_up : (able : Bool) (old mid now : State D) (undo : List (Command Global)) (fault : Fault) (unwritten : Unwritten) → IsUnflushed view failures old fault mid → IsUndoTried view able mid undo fault now unwritten
      → IsGivenUp view failures able old undo now unwritten
  given_up able old mid now undo fault (Undone reported) unflushed (same, other, replies, done) =
      (mid, (λ device. other (sym same ∙ device)), subst (λ f. IsUnflushed view failures old f mid) (sym same) unflushed, replies, done)
  given_up able old mid now undo fault (InDoubt reported refused) unflushed (same, is, why) = (
    subst (λ f. IsUnflushed view failures old f now) (sym same) (subst (λ x. IsUnflushed view failures old fault x) (sym is) unflushed),
    subst (λ f. IsUndoRefused view able now undo f refused) (sym same) why,
  )

  -- ---- the call

  module _ (able : Bool) (old mid now : State D) (cs undo : List (Command Global)) (replies : List (Reply Global))
      (fine : old.has_failed ≡ false) (fit : IsTrue able) (proper : IsProper old.settings old.store.tree) (rises : IsRising (contents old.store.tree)) (none : refusal old.settings cs ≡ None)
      (is : undo ≡ undo_of_all (contents old.store.tree) cs) (few : length undo ≤ longest_batch) (executed : IsExecuted view able old cs replies mid) where
    undo_admitted : refusal old.settings (undo_of_all (contents old.store.tree) cs) ≡ None
    undo_admitted =
        undo_not_refused old.settings (contents old.store.tree) cs (puts_are_short old.settings old.store.tree proper) (admitted old.settings cs none) (subst (λ ds. length ds ≤ longest_batch) is few)

    abbrev Later : State D → Fault → Type 0
    Later x why = IsLaterFault x.settings x.store.tree (undo_of_all (contents old.store.tree) cs) why

    later_by : (o : Option Fault) (x : State D) (why : Fault) → o ≡ None → MatchOption o (IfErr (err (List (Reply Global)) why) (Later x)) (λ f. err (List (Reply Global)) why ≡ err (List (Reply Global)) f) → Later x why
    later_by None x why e h = h
    later_by (Some f) x why e h = absurd (cc)

    not_undone : (fault : Fault) (reason : Option Fault) → IsUnflushed view failures mid fault now → IsUndoRefused view able now undo fault reason
        → IsNotUndone (contents old.store.tree) cs fault reason now
    not_undone fault None unflushed device = device
    not_undone fault (Some why) unflushed (other, refused) =
        let batch = subst (λ ds. IsRefusedBatch view able now ds why now) is refused in
        let settings = unflushed_settings mid now fault unflushed ∙ executed.rest.0 in
        let passed = ap (λ s. refusal s (undo_of_all (contents old.store.tree) cs)) settings ∙ undo_admitted in
        let failed = unflushed_failed mid now fault other unflushed ∙ executed.rest.2 ∙ fine in
        (other, later_by (refusal now.settings (undo_of_all (contents old.store.tree) cs)) now why passed (batch.refused failed fit))

    pub unwritten_by : (unwritten : Unwritten) → IsGivenUp view failures able mid undo now unwritten → IsUnwritten view failures able old cs now unwritten
    unwritten_by (Undone fault) (stop, other, unflushed, said, done) =
        let settings = unflushed_settings mid stop fault unflushed ∙ executed.rest.0 in
        let failed = unflushed_failed mid stop fault other unflushed ∙ executed.rest.2 in
        inr (record {
          other = other;
          mid = stop;
          refused = record { mid = mid; replies = replies; executed = executed; unflushed = unflushed };
          replies = said;
          undone = subst (λ ds. IsExecuted view able stop ds said now) is done;
          rest = (done.rest.0 ∙ settings, done.rest.1, done.rest.2 ∙ failed);
        })
    unwritten_by (InDoubt fault reason) (unflushed, why) = (record { mid = mid; replies = replies; executed = executed; unflushed = unflushed }, not_undone fault reason unflushed why)

    pub contents_by : (unwritten : Unwritten) → IsGivenUp view failures able mid undo now unwritten → contents now.store.tree ≡ contents_after (contents old.store.tree) cs unwritten
    contents_by (Undone fault) (stop, other, unflushed, said, done) =
        done.contents
        ∙ ap (λ m. map_after_all m undo) (unflushed_holds mid stop fault unflushed ∙ executed.contents)
        ∙ ap (λ ds. map_after_all (map_after_all (contents old.store.tree) cs) ds) is
        ∙ undone (contents old.store.tree) cs rises
    contents_by (InDoubt fault reason) (unflushed, why) = unflushed_holds mid now fault unflushed ∙ executed.contents

-- ---- a batch that was refused before it was executed

abbrev gave_up : (X : Type 0) → Fault → Result X Unwritten
gave_up X fault = Err (Undone fault)

pub undone_as : {X Y : Type 0} (f g : Fault) → err X f ≡ err X g → gave_up Y f ≡ gave_up Y g
undone_as {X = X} {Y = Y} f g e = (let same : f ≡ g = cc in ap (λ (x : Fault). gave_up Y x) same)

module _ {D : Type 0} (view : D → View) (failures : D → ℕ) (able : Bool) (old : State D) (cs : List (Command Global)) (X Y : Type 0) (fault : Fault) where
  abbrev Refusal : State D → Option Fault → Type 0
  Refusal now o = MatchOption o (IfErr (gave_up Y fault) (IsUnwritten view failures able old cs now)) (λ f. (gave_up Y fault ≡ gave_up Y f) × (now ≡ old))

  -- by the checks, or by making the undo commands
  pub refused_first : (o : Option Fault) → MatchOption o (IfErr (err X fault) (λ f. (f ≡ NoMemory) ⊎ IsTooLongToUndo (contents old.store.tree) cs f)) (λ f. err X fault ≡ err X f) → Refusal old o
  refused_first None (inl memory) = inl (refl, inl (inl memory))
  refused_first None (inr long) = inl (refl, inr long)
  refused_first (Some f) e = (undone_as {X = X} {Y = Y} fault f e, refl)

  -- by the batch
  pub refused_then : (now : State D) (o : Option Fault) → o ≡ None → now ≡ old → MatchOption o (IfErr (err X fault) (IsLaterFault old.settings old.store.tree cs)) (λ f. err X fault ≡ err X f) → Refusal now o
  refused_then now None none same later = inl (same, inl later)
  refused_then now (Some f) none same e = absurd (cc)

-- ---- the checks

pub on_ok_of : {X : Type 0} (r : Result X Fault) {P : Type 0} → P → OnOk r P
on_ok_of (Ok x) p = p
on_ok_of (Err f) p = tt

pub passed_on : (o : Option Fault) (P : Type 0) (Q : Fault → Type 0) → o ≡ None → P → MatchOption o P Q
passed_on None P Q e p = p
passed_on (Some f) P Q e p = absurd (cc)

-- ---- the undo commands as they are passed

pub undo_as : (m : Pairs Bytes) (cs made passed : List (Command Global)) → passed ≡ made → made ≡ undo_of_all m cs → passed ≡ undo_of_all m cs
undo_as m cs made passed same is = same ∙ is

-- ---- a flush that succeeded

pub flushed_holds : {D : Type 0} (view : D → View) (failures : D → ℕ) (old now : State D) → IsFlushed view failures old now → contents now.store.tree ≡ contents old.store.tree
flushed_holds view failures old now (start, is, flushed) = flushed.holds ∙ start_holds old start is
