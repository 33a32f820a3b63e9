-- A batch and its flush as one call, in terms of the settings and the pairs that the bytes of a disk encode.
use Rattle.std.specs.Prelude.{◌≡◌, ◌≢◌, ◌⊎◌, ⊤, Bool, IsTrue, true, false, List, Option, Some, None, Result, Ok, Err, IfErr, MatchOption}
use Rattle.std.proofs.Common.{refl, sym, ap, ◌∙◌, subst, inl, inr}
use Rattle.std.specs.declared.alloc.Global.{Global}
use Rattle.keys.specs.Bytes.{Bytes, Pairs}
use Rattle.keys.specs.declared.command.Command.{Command}
use Rattle.keys.specs.declared.fault.Fault.{Fault}
use Rattle.keys.specs.declared.fault.Fault.TheVariants.{BadCrew, BatchTooLong, Device, Failed, NoMemory}
use Rattle.keys.specs.declared.settings.Settings.{Settings}
use Rattle.mapping.specs.Levels.{contents}
use Rattle.flush_log.specs.Disk.{View, Lawful, IsSynced, Kept, LeavesOnly}
use Rattle.flush_log.proofs.SameLemmas.{leaves_itself}
use Rattle.engine.specs.Claim.{RecoversEither}
use Rattle.engine.specs.ClaimFlush.{MakesDurable}
use Rattle.engine.specs.Durable.{IsUndoTried, fault_of}
use Rattle.engine.specs.Refusal.{refusal}
use Rattle.engine.specs.State.{State, IsOnlyInMemory}
use Rattle.engine.specs.StoreClaim.{recovered_from}
use Rattle.engine.specs.Undo.{IsTooLongToUndo}
use Rattle.engine.specs.declared.store.durable.Unwritten.{Unwritten}
use Rattle.engine.specs.declared.store.durable.Unwritten.TheVariants.{Undone, InDoubt}
use Rattle.engine.proofs.StepDone.{refusal_never}

abbrev pub ok : {X : Type 0} → X → Result X Fault
ok x = Ok x

abbrev pub err : (X : Type 0) → Fault → Result X Fault
err X fault = Err fault

-- ---- the batch was refused before it was executed

same_fault : (X : Type 0) (f g : Fault) → err X f ≡ err X g → f ≡ g
same_fault X f g e = cc

no_memory : NoMemory ≢ Device
no_memory e = cc

too_long : BatchTooLong ≢ Device
too_long e = cc

failed_before : Failed ≢ Device
failed_before e = cc

bad_crew : BadCrew ≢ Device
bad_crew e = cc

module _ (X : Type 0) (m : Pairs Bytes) (cs : List (Command Global)) (fault : Fault) where
  never_by : (o : Option Fault) → o ≢ Some Device → MatchOption o (IfErr (err X fault) (λ f. (f ≡ NoMemory) ⊎ IsTooLongToUndo m cs f)) (λ f. err X fault ≡ err X f) → fault ≢ Device
  never_by None other (inl memory) device = no_memory (sym memory ∙ device)
  never_by None other (inr long) device = too_long (sym long.0 ∙ device)
  never_by (Some f) other e device = other (ap (λ (x : Fault). (let o : Option Fault = Some x in o)) (sym (same_fault X fault f e) ∙ device))

  -- it was not refused because of the disk
  pub refused_never : (s : Settings) (b able : Bool) → (b ≡ true → err X fault ≡ err X Failed) → (b ≡ false → able ≡ false → err X fault ≡ err X BadCrew)
      → (b ≡ false → IsTrue able → MatchOption (refusal s cs) (IfErr (err X fault) (λ f. (f ≡ NoMemory) ⊎ IsTooLongToUndo m cs f)) (λ f. err X fault ≡ err X f)) → fault ≢ Device
  refused_never s true able failed crew refused device = failed_before (sym (same_fault X fault Failed (failed refl)) ∙ device)
  refused_never s false false failed crew refused device = bad_crew (sym (same_fault X fault BadCrew (crew refl refl)) ∙ device)
  refused_never s false true failed crew refused device = never_by (refusal s cs) (refusal_never s cs) (refused refl refl) device

module _ {D : Type 0} (view : D → View) where
  -- nothing changed
  pub nothing_on_disk : (lawful : (disk : D) → IsTrue (view disk).is_honest → Lawful (view disk)) (X : Type 0) (m : Pairs Bytes) (x : State D) (fault : Fault) → fault ≢ Device
      → MakesDurable view x.settings m x.disk x.has_failed (err X fault) x
  nothing_on_disk lawful X m x fault other = record {
    rest = (refl, record { honest = refl; size = refl });
    fails = ((λ device. absurd (other device)), λ _. refl);
    durable = λ _. tt;
    unwritten = λ _ _ _. refl;
    is_synced = λ _ was _. was;
    crash = λ _ was. leaves_itself (view x.disk) _ (lawful x.disk was.honest) was (inl refl);
  }

  -- the same of the store before the batch
  pub before_batch : {X : Type 0} (m : Pairs Bytes) (old mid now : State D) (r : Result X Fault) → IsOnlyInMemory old mid → contents mid.store.tree ≡ m
      → MakesDurable view mid.settings (contents mid.store.tree) mid.disk mid.has_failed r now → MakesDurable view old.settings m old.disk old.has_failed r now
  before_batch m old mid now r (settings, disk, failed) pairs durable =
      subst (λ (b : Bool). MakesDurable view old.settings m old.disk b r now) failed
      (subst (λ (d : D). MakesDurable view old.settings m d mid.has_failed r now) disk
      (subst (λ (n : Pairs Bytes). MakesDurable view old.settings n mid.disk mid.has_failed r now) pairs
      (subst (λ (s : Settings). MakesDurable view s (contents mid.store.tree) mid.disk mid.has_failed r now) settings durable)))

  -- the same, where the store after the batch has another name
  pub before_named_batch : {X : Type 0} (m : Pairs Bytes) (old mid named now : State D) (r : Result X Fault) → named ≡ mid → IsOnlyInMemory old mid → contents mid.store.tree ≡ m
      → MakesDurable view named.settings (contents named.store.tree) named.disk named.has_failed r now → MakesDurable view old.settings m old.disk old.has_failed r now
  before_named_batch m old mid named now r same only pairs durable =
      before_batch m old mid now r only pairs (subst (λ (x : State D). MakesDurable view x.settings (contents x.store.tree) x.disk x.has_failed r now) same durable)

  module _ (s : Settings) (m : Pairs Bytes) (disk : D) (b : Bool) where
    -- another value was returned
    pub ok_on_disk : {X Y : Type 0} (x : X) (y : Y) (now : State D) → MakesDurable view s m disk b (ok x) now → MakesDurable view s m disk b (ok y) now
    ok_on_disk x y now is = record { rest = is.rest; fails = is.fails; durable = is.durable; unwritten = λ _ _. tt; is_synced = is.is_synced; crash = is.crash }

    -- only the memory changed after the fault
    pub err_on_disk : {X : Type 0} (Y : Type 0) (fault : Fault) (mid now : State D) → IsOnlyInMemory mid now → MakesDurable view s m disk b (err X fault) mid → MakesDurable view s m disk b (err Y fault) now
    err_on_disk Y fault mid now (settings, same, failed) is = record {
      rest = (settings ∙ is.rest.0, subst (λ (d : D). Kept (view disk) (view d)) (sym same) is.rest.1);
      fails = ((λ device. failed ∙ is.fails.0 device), (λ other. failed ∙ is.fails.1 other));
      durable = λ _. tt;
      unwritten = λ fine honest other. subst (λ (d : D). recovered_from (view d).seen ≡ recovered_from (view disk).seen) (sym same) (is.unwritten fine honest other);
      is_synced = λ fine was other. subst (λ (d : D). IsSynced (view d)) (sym same) (is.is_synced fine was other);
      crash = λ fine was. subst (λ (d : D). LeavesOnly (view disk) (view d) (RecoversEither recovered_from (recovered_from (view disk).seen) (Some (s, m)))) (sym same) (is.crash fine was);
    }

    -- the undo commands were executed or not
    pub tried_on_disk : {X : Type 0} (Y : Type 0) (able : Bool) (undo : List (Command Global)) (fault : Fault) (mid now : State D) (unwritten : Unwritten) → IsUndoTried view able mid undo fault now unwritten
        → MakesDurable view s m disk b (err X fault) mid → MakesDurable view s m disk b (err Y (fault_of unwritten)) now
    tried_on_disk Y able undo fault mid now (Undone reported) (same, other, replies, done) is =
        subst (λ (f : Fault). MakesDurable view s m disk b (err Y f) now) (sym same) (err_on_disk Y fault mid now done.rest is)
    tried_on_disk Y able undo fault mid now (InDoubt reported why) (same, left, refused) is =
        subst (λ (f : Fault). MakesDurable view s m disk b (err Y f) now) (sym same)
        (err_on_disk Y fault mid now (ap (λ (x : State D). x.settings) left, ap (λ (x : State D). x.disk) left, ap (λ (x : State D). x.has_failed) left) is)

-- ---- a call that succeeded

abbrev done : {X : Type 0} → X → Result X Unwritten
done x = Ok x

abbrev not_done : (X : Type 0) → Fault → Result X Unwritten
not_done X fault = Err (Undone fault)

-- a call that returns another value was not refused either
pub still_admitted : {X Y : Type 0} (x : X) (y : Y) (fault_in : List (Command Global) → Option Fault) (cs ds : List (Command Global)) (A : Type 0) → ds ≡ cs
    → MatchOption (fault_in ds) ⊤ (λ f. (done x ≡ not_done X f) × A) → MatchOption (fault_in cs) ⊤ (λ f. (done y ≡ not_done Y f) × A)
still_admitted {X = X} x y fault_in cs ds A same admitted =
    admitted_too x y (fault_in cs) A (subst (λ (es : List (Command Global)). MatchOption (fault_in es) ⊤ (λ f. (done x ≡ not_done X f) × A)) same admitted)
  where
    admitted_too : {X Y : Type 0} (x : X) (y : Y) (o : Option Fault) (A : Type 0) → MatchOption o ⊤ (λ f. (done x ≡ not_done X f) × A) → MatchOption o ⊤ (λ f. (done y ≡ not_done Y f) × A)
    admitted_too x y None A h = h
    admitted_too x y (Some f) A (e, rest) = absurd (cc)
