-- What becomes of a copy: why it is refused, and what is on its disk once it is flushed.
use Rattle.std.specs.Prelude.{◌≡◌, ◌≢◌, ◌⊎◌, ℕ, Bool, IsTrue, true, false, if◌then◌else◌, List, [], ◌∷◌, length, Option, Some, None, Result, Ok, Err, MatchOption, IfOk, IfErr, IsErr}
use Rattle.std.proofs.Common.{refl, sym, ap, ◌∙◌, subst, inl, inr, ⊎_elim}
use Rattle.keys.specs.Bytes.{Bytes, Pairs}
use Rattle.keys.specs.declared.fault.Fault.{Fault}
use Rattle.keys.specs.declared.fault.Fault.TheVariants.{Device, Full, NoMemory, NotAStore, Spent}
use Rattle.keys.specs.declared.settings.Settings.{Settings}
use Rattle.mapping.specs.Levels.{contents}
use Rattle.mapping.specs.Tree.{Store, Tree, with_tree}
use Rattle.frame_codec.specs.Frame.{Frame}
use Rattle.flush_log.specs.AfterFlush.{Commit, after_flush, after_text, file_after, flush_commit, is_spent, store_after}
use Rattle.flush_log.specs.Disk.{View, Lawful, IsSynced, Kept, LeavesOnly}
use Rattle.flush_log.specs.FlushText.{flush_frames, flushed, HasFrames}
use Rattle.flush_log.specs.Layout.{is_full_for_flush}
use Rattle.flush_log.specs.NewStore.{disk_of_new}
use Rattle.flush_log.specs.declared.text.CommitKind.TheVariants as texts
use Rattle.flush_log.proofs.ViewLemmas.{weaker}
use Rattle.recovery.specs.InStep.{IsStore, IsStoreOf}
use Rattle.recovery.specs.Recovered.{IsLate}
use Rattle.recovery.specs.StoreOfDisk.{first_store, store_of_disk}
use Rattle.recovery.proofs.ReadBytes.{kept_self, kept_then}
use Rattle.engine.specs.Batches.{tree_in_turn}
use Rattle.engine.specs.Copies.{HoldsSomeStore, IsPutFault, IsCopied, IsCopyFault, after_filling, batches_of, refused_in_turn, store_of_copy}
use Rattle.engine.specs.Hidden.{HoldsNoStore}
use Rattle.engine.specs.Late.{after_create, create_refusal, made_unless}
use Rattle.engine.specs.State.{State, IsSound}
use Rattle.engine.proofs.HiddenStores.{no_store, none_leaves}
use Rattle.engine.proofs.TextSteps.{IsFlushFault}

-- ---- refused puts

-- `t` is the tree that the batches of a copy leave of the tree `start`, and none of them is refused
abbrev pub ArePut : Settings → Tree → Pairs Bytes → Tree → Type 0
ArePut s start all t = (t ≡ tree_in_turn s start (batches_of all)) × (refused_in_turn s start (batches_of all) ≡ None)

-- the same fault, of the first store
pub put_fault : (s : Settings) (start : Store) (all : Pairs Bytes) (fault : Fault) → start ≡ first_store
    → (fault ≡ NoMemory) ⊎ (refused_in_turn s start.tree (batches_of all) ≡ Some fault) → IsPutFault s all fault
put_fault s start all fault first why =
    subst (λ (st : Store). (fault ≡ NoMemory) ⊎ (refused_in_turn s st.tree (batches_of all) ≡ Some fault)) first why

-- ---- the bytes of the disk decide neither the store after a commit nor its fault

module _ (s : Settings) (st : Store) (file other : Bytes) where
  err_commit : (spent is_full : Bool) (now : Store) (old new : Bytes) (fault : Fault)
      → (let r : Result (Store × Bytes) Fault = if spent then Err Spent else (if is_full then Err Full else Ok (now, old)) in r) ≡ Err fault
      → (let r : Result (Store × Bytes) Fault = if spent then Err Spent else (if is_full then Err Full else Ok (now, new)) in r) ≡ Err fault
  err_commit true is_full now old new fault e = e
  err_commit false true now old new fault e = e
  err_commit false false now old new fault e = absurd (cc)

  ok_commit : (spent is_full : Bool) (now next : Store) (old new bytes : Bytes)
      → (let r : Result (Store × Bytes) Fault = if spent then Err Spent else (if is_full then Err Full else Ok (now, old)) in r) ≡ Ok (next, bytes)
      → (let r : Result (Store × Bytes) Fault = if spent then Err Spent else (if is_full then Err Full else Ok (now, new)) in r) ≡ Ok (next, new)
  ok_commit true is_full now next old new bytes e = absurd (cc)
  ok_commit false true now next old new bytes e = absurd (cc)
  ok_commit false false now next old new bytes e =
      let same : (let x : Store × Bytes = (now, old) in x ≡ (next, bytes)) = cc in
      ap (λ (x : Store). (let r : Result (Store × Bytes) Fault = Ok (x, new) in r)) (ap (λ (x : Store × Bytes). x.0) same)

  err_text : (text : List Frame) (fault : Fault) → after_text s st file text ≡ Err fault → after_text s st other text ≡ Err fault
  err_text [] fault e = absurd (cc)
  err_text (f ∷ fs) fault e =
      let m : Commit = flush_commit s st (f ∷ fs) in
      err_commit (is_spent m.slot) (is_full_for_flush s m.slot.head m.slot.tail) (store_after (flushed st.tree) m.slot) (file_after s file m) (file_after s other m) fault e

  ok_text : (text : List Frame) (now : Store) (bytes : Bytes) → after_text s st file text ≡ Ok (now, bytes) → (left : Bytes) × (after_text s st other text ≡ Ok (now, left))
  ok_text [] now bytes e =
      let same : (let x : Store × Bytes = (st, file) in x ≡ (now, bytes)) = cc in
      (other, ap (λ (x : Store). (let r : Result (Store × Bytes) Fault = Ok (x, other) in r)) (ap (λ (x : Store × Bytes). x.0) same))
  ok_text (f ∷ fs) now bytes e =
      let m : Commit = flush_commit s st (f ∷ fs) in
      (file_after s other m, ok_commit (is_spent m.slot) (is_full_for_flush s m.slot.head m.slot.tail) (store_after (flushed st.tree) m.slot) now (file_after s file m) (file_after s other m) bytes e)

  pub err_of_any : (fault : Fault) → after_flush s st file ≡ Err fault → after_flush s st other ≡ Err fault
  err_of_any fault e = err_text (flush_frames st.version st.tree) fault e

  pub ok_of_any : (now : Store) (bytes : Bytes) → after_flush s st file ≡ Ok (now, bytes) → (left : Bytes) × (after_flush s st other ≡ Ok (now, left))
  ok_of_any now bytes e = ok_text (flush_frames st.version st.tree) now bytes e

-- ---- a refused flush

pub flush_refused : {D : Type 0} (x : State D) (all : Pairs Bytes) (file : Bytes) (old new : ℕ) (fault : Fault)
    → x.store ≡ with_tree first_store x.store.tree → ArePut x.settings first_store.tree all x.store.tree → IsFlushFault x.settings x.store file old new fault → IsCopyFault x.settings all old new fault
flush_refused x all file old new fault log put (inl right) =
    let is : x.store ≡ store_of_copy x.settings all = log ∙ ap (λ (t : Tree). with_tree first_store t) put.0 in
    inr (inr (put.1, λ other. subst (λ (st : Store). after_flush x.settings st other ≡ Err fault) is (err_of_any x.settings x.store file other fault right)))
flush_refused x all file old new fault log put (inr (inl (memory, due))) = inl (inl memory)
flush_refused x all file old new fault log put (inr (inr (device, failed, would))) = inl (inr (device, failed))

-- ---- the disk after it

not_empty : {T : Type 0} (f : T) (fs : List T) → f ∷ fs ≢ []
not_empty f fs e = absurd (cc)

-- it is settled, whether something was to be written or not
settled_by : {D T : Type 0} (view : D → View) (text : List T) (old new : D) → (text ≡ [] → new ≡ old) → (text ≢ [] → IsSynced (view new)) → IsSynced (view old) → IsSynced (view new)
settled_by {D = D} view [] old new same written is_synced = subst (λ (d : D). IsSynced (view d)) (sym (same refl)) is_synced
settled_by view (f ∷ fs) old new same written is_synced = written (not_empty f fs)

-- what a flush leaves of a sound store on an honest disk: the disk stands for the store
filled : {D : Type 0} (view : D → View) (old now : State D) → IsSound view old → old.has_failed ≡ false → IsTrue (view old.disk).is_honest
    → HasFrames old.settings (texts.Flush old.store.version) old.store.tree
    → ((s : Settings) (st now : Store) (file bytes : Bytes) → IsStoreOf s st file → HasFrames s (texts.Flush st.version) st.tree → after_flush s st file ≡ Ok (now, bytes)
    → (store_of_disk bytes ≡ Ok (s, now)) × IsStoreOf s now bytes)
    → after_flush old.settings old.store (view old.disk).seen ≡ Ok (now.store, (view now.disk).seen)
    → store_of_disk (view now.disk).seen ≡ Ok (old.settings, now.store)
filled view old now sound fine honest frames read after =
    (read old.settings old.store now.store (view old.disk).seen (view now.disk).seen (record { is = sound.is; step = sound.step fine honest }) frames after).0

-- ---- a store that was filled and flushed

pub kept_by : {D : Type 0} (view : D → View) (old new : D) → new ≡ old → Kept (view old) (view new)
kept_by {D = D} view old new same = subst (λ (d : D). Kept (view old) (view d)) (sym same) (kept_self (view old))

module _ {D : Type 0} (view : D → View) (failed : D → ℕ) (old mid now : State D) (all : Pairs Bytes)
    (rest : (mid.settings ≡ old.settings) × (mid.disk ≡ old.disk) × (mid.has_failed ≡ old.has_failed)) where
  pub fill_rest : (now.settings ≡ mid.settings) × Kept (view mid.disk) (view now.disk) → (now.settings ≡ old.settings) × Kept (view old.disk) (view now.disk)
  fill_rest flushed = (flushed.0 ∙ rest.0, subst (λ (d : D). Kept (view d) (view now.disk)) rest.1 flushed.1)

  -- all pairs were put into the first store
  module _ (first : old.store ≡ first_store) (log : mid.store ≡ with_tree old.store mid.store.tree) (put : ArePut old.settings old.store.tree all mid.store.tree) where
    log_of_first : mid.store ≡ with_tree first_store mid.store.tree
    log_of_first = log ∙ ap (λ (st : Store). with_tree st mid.store.tree) first

    put_in_first : ArePut old.settings first_store.tree all mid.store.tree
    put_in_first = subst (λ (st : Store). ArePut old.settings st.tree all mid.store.tree) first put

    pub fill_refused : (fault : Fault) → IsFlushFault mid.settings mid.store (view mid.disk).seen (failed mid.disk) (failed now.disk) fault → IsCopyFault old.settings all (failed old.disk) (failed now.disk) fault
    fill_refused fault why =
        subst (λ (d : D). IsCopyFault old.settings all (failed d) (failed now.disk) fault) rest.1
        (subst (λ (s : Settings). IsCopyFault s all (failed mid.disk) (failed now.disk) fault) rest.0
        (flush_refused mid all (view mid.disk).seen (failed mid.disk) (failed now.disk) fault log_of_first (subst (λ (s : Settings). ArePut s first_store.tree all mid.store.tree) (sym rest.0) put_in_first) why))

    pub fill_exact : (bytes : Bytes) × (after_flush mid.settings mid.store (view mid.disk).seen ≡ Ok (now.store, bytes)) → IsCopied old.settings all now.store
    fill_exact (bytes, done) =
        let is : mid.store ≡ store_of_copy old.settings all = log_of_first ∙ ap (λ (t : Tree). with_tree first_store t) put_in_first.0 in
        let under : after_flush old.settings mid.store (view mid.disk).seen ≡ Ok (now.store, bytes) = subst (λ (s : Settings). after_flush s mid.store (view mid.disk).seen ≡ Ok (now.store, bytes)) rest.0 done in (
          put_in_first.1,
          λ other.
              let (left, so) = ok_of_any old.settings mid.store (view mid.disk).seen other now.store bytes under in
              (left, subst (λ (st : Store). after_flush old.settings st other ≡ Ok (now.store, left)) is so),
        )

    pub fill_written : (IsTrue (view mid.disk).is_honest → after_flush mid.settings mid.store (view mid.disk).seen ≡ Ok (now.store, (view now.disk).seen))
        → IsTrue (view old.disk).is_honest → after_filling old.settings all (view old.disk).seen ≡ Ok (now.store, (view now.disk).seen)
    fill_written after honest =
        let there : IsTrue (view mid.disk).is_honest = subst (λ (d : D). IsTrue (view d).is_honest) (sym rest.1) honest in
        let is : mid.store ≡ store_of_copy old.settings all = log_of_first ∙ ap (λ (t : Tree). with_tree first_store t) put_in_first.0 in
        let under : after_flush old.settings mid.store (view mid.disk).seen ≡ Ok (now.store, (view now.disk).seen) =
        subst (λ (s : Settings). after_flush s mid.store (view mid.disk).seen ≡ Ok (now.store, (view now.disk).seen)) rest.0 (after there) in
        subst (λ (d : D). after_filling old.settings all (view d).seen ≡ Ok (now.store, (view now.disk).seen)) rest.1
        (subst (λ (st : Store). after_flush old.settings st (view mid.disk).seen ≡ Ok (now.store, (view now.disk).seen)) is under)

  pub fill_same : now ≡ mid → now.disk ≡ old.disk
  fill_same same = ap (λ (x : State D). x.disk) same ∙ rest.1

  pub fill_counted : (now.has_failed ≡ mid.has_failed) × (failed now.disk ≡ failed mid.disk) → old.has_failed ≡ false → (now.has_failed ≡ false) × (failed now.disk ≡ failed old.disk)
  fill_counted counted fine = (counted.0 ∙ rest.2 ∙ fine, counted.1 ∙ ap failed rest.1)

  pub fill_contents : ((s : Settings) (st now : Store) (file bytes : Bytes) → IsStore s st → after_flush s st file ≡ Ok (now, bytes) → now.tree ≡ flushed st.tree) → IsSound view mid
      → (bytes : Bytes) × (after_flush mid.settings mid.store (view mid.disk).seen ≡ Ok (now.store, bytes)) → contents mid.store.tree ≡ all → contents now.store.tree ≡ all
  fill_contents kept sound done holds =
      ap (λ (t : Tree). contents t) (kept mid.settings mid.store now.store (view mid.disk).seen done.0 sound.is done.1) ∙ holds

  pub fill_bytes : old.has_failed ≡ false → IsSound view mid
      → HasFrames mid.settings (texts.Flush mid.store.version) mid.store.tree
      → ((s : Settings) (st now : Store) (file bytes : Bytes) → IsStoreOf s st file → HasFrames s (texts.Flush st.version) st.tree → after_flush s st file ≡ Ok (now, bytes)
      → (store_of_disk bytes ≡ Ok (s, now)) × IsStoreOf s now bytes)
      → (IsTrue (view mid.disk).is_honest → after_flush mid.settings mid.store (view mid.disk).seen ≡ Ok (now.store, (view now.disk).seen))
      → IsTrue (view old.disk).is_honest → store_of_disk (view now.disk).seen ≡ Ok (old.settings, now.store)
  fill_bytes fine sound frames read after honest =
      let there : IsTrue (view mid.disk).is_honest = subst (λ (d : D). IsTrue (view d).is_honest) (sym rest.1) honest in
      subst (λ (s : Settings). store_of_disk (view now.disk).seen ≡ Ok (s, now.store)) rest.0 (filled view mid now sound (rest.2 ∙ fine) there frames read (after there))

  pub fill_synced : old.has_failed ≡ false
      → (mid.has_failed ≡ false → flush_frames mid.store.version mid.store.tree ≡ [] → now ≡ mid)
      → (IsTrue (view mid.disk).is_honest → flush_frames mid.store.version mid.store.tree ≢ [] → IsSynced (view now.disk))
      → IsSynced (view old.disk) → IsSynced (view now.disk)
  fill_synced fine same written is_synced =
      let there : IsSynced (view mid.disk) = subst (λ (d : D). IsSynced (view d)) (sym rest.1) is_synced in
      settled_by view (flush_frames mid.store.version mid.store.tree) mid.disk now.disk (λ none. ap (λ (x : State D). x.disk) (same (rest.2 ∙ fine) none)) (λ some. written there.honest some) there

-- ---- what a crash leaves meanwhile

-- a sound store's disk holds a store
stands : {D : Type 0} (view : D → View) (x : State D) → IsSound view x → x.has_failed ≡ false → IsTrue (view x.disk).is_honest → HoldsSomeStore (view x.disk).seen
stands view x sound fine honest = let step = sound.step fine honest in ((x.settings, step.0), step.1)

pub unfilled_leaves : {D : Type 0} (view : D → View) (x : State D) (new : D) → Lawful (view x.disk) → IsSound view x → x.has_failed ≡ false → IsSynced (view x.disk) → new ≡ x.disk → LeavesOnly (view x.disk) (view new) HoldsSomeStore
unfilled_leaves {D = D} view x new law sound fine is_synced same =
    subst (λ (d : D). LeavesOnly (view x.disk) (view d) HoldsSomeStore) (sym same)
    (none_leaves (view x.disk) HoldsSomeStore law is_synced (stands view x sound fine is_synced.honest))

module _ {D : Type 0} (view : D → View) (mid now : State D) (sound : IsSound view mid) (fine : mid.has_failed ≡ false) (is_synced : IsSynced (view mid.disk))
    (run : LeavesOnly (view mid.disk) (view now.disk) (λ c. (store_of_disk c ≡ store_of_disk (view mid.disk).seen) ⊎ ((after : Store) × (after_flush mid.settings mid.store (view mid.disk).seen ≡ Ok (after, c))))) where
  same_store : (c : Bytes) → store_of_disk c ≡ store_of_disk (view mid.disk).seen → HoldsSomeStore c
  same_store c same = let there = stands view mid sound fine is_synced.honest in (there.0, same ∙ there.1)

  -- the store before, or the one after
  pub flush_leaves : HasFrames mid.settings (texts.Flush mid.store.version) mid.store.tree
      → ((s : Settings) (st now : Store) (file bytes : Bytes) → IsStoreOf s st file → HasFrames s (texts.Flush st.version) st.tree → after_flush s st file ≡ Ok (now, bytes)
      → (store_of_disk bytes ≡ Ok (s, now)) × IsStoreOf s now bytes)
      → LeavesOnly (view mid.disk) (view now.disk) HoldsSomeStore
  flush_leaves frames read =
      weaker (view mid.disk) (view now.disk) (λ c. (store_of_disk c ≡ store_of_disk (view mid.disk).seen) ⊎ ((after : Store) × (after_flush mid.settings mid.store (view mid.disk).seen ≡ Ok (after, c)))) HoldsSomeStore
      (λ c left. ⊎_elim
      (λ same. same_store c same)
      (λ done. ((mid.settings, done.0), (read mid.settings mid.store done.0 (view mid.disk).seen c (record { is = sound.is; step = sound.step fine is_synced.honest }) frames done.1).0))
      left)
      run

  -- where it is refused, too
  pub refused_leaves : (fault : Fault) (old new : ℕ) → Lawful (view mid.disk)
      → (fault ≡ Device → HasFrames mid.settings (texts.Flush mid.store.version) mid.store.tree)
      → ((s : Settings) (st now : Store) (file bytes : Bytes) → IsStoreOf s st file → HasFrames s (texts.Flush st.version) st.tree → after_flush s st file ≡ Ok (now, bytes)
      → (store_of_disk bytes ≡ Ok (s, now)) × IsStoreOf s now bytes)
      → (fault ≢ Device → now ≡ mid) → IsFlushFault mid.settings mid.store (view mid.disk).seen old new fault → LeavesOnly (view mid.disk) (view now.disk) HoldsSomeStore
  refused_leaves fault old new law frames read same (inl right) =
      weaker (view mid.disk) (view now.disk) (λ c. (store_of_disk c ≡ store_of_disk (view mid.disk).seen) ⊎ ((after : Store) × (after_flush mid.settings mid.store (view mid.disk).seen ≡ Ok (after, c)))) HoldsSomeStore
      (λ c left. ⊎_elim (λ before. same_store c before) (λ done. absurd (not_both (after_flush mid.settings mid.store (view mid.disk).seen) fault (done.0, c) right done.1)) left)
      run
    where
      not_both : {X : Type 0} (r : Result X Fault) (f : Fault) (x : X) → r ≡ Err f → r ≡ Ok x → ⊥
      not_both r f x err ok = absurd (cc)
  refused_leaves fault old new law frames read same (inr (inl (memory, due))) =
      unfilled_leaves view mid now.disk law sound fine is_synced (ap (λ (x : State D). x.disk) (same (λ device. absurd (never (sym memory ∙ device)))))
    where
      never : NoMemory ≡ Device → ⊥
      never e = absurd (cc)
  refused_leaves fault old new law frames read same (inr (inr (device, failed, would))) = flush_leaves (frames device) read

-- ---- a store that was made, and then filled

no_error : {X Y : Type 0} (r : Result X Y) (made : X) → r ≡ Ok made → IsErr r → ⊥
no_error (Ok x) made is e = absurd (cc)
no_error (Err y) made is e = absurd (cc)

refused_still : {X D : Type 0} (failed : D → ℕ) (r : Result X (Fault × D)) (disk mid : D) (s t : Settings) (all : Pairs Bytes) → s ≡ t → failed mid ≡ failed disk
    → IfErr r (λ e. IsCopyFault s all (failed mid) (failed e.1) e.0) → IfErr r (λ e. IsCopyFault t all (failed disk) (failed e.1) e.0)
refused_still failed (Ok x) disk mid s t all same count why = tt
refused_still failed (Err e) disk mid s t all same count why =
    subst (λ (x : Settings). IsCopyFault x all (failed disk) (failed e.1) e.0) same (subst (λ (n : ℕ). IsCopyFault s all n (failed e.1) e.0) count why)

-- where it was made, nothing refused that
pub made_refused : {X Y D : Type 0} (failed : D → ℕ) (o : Option Fault) (r : Result Y (Fault × D)) (made : Y) (result : Result X (Fault × D)) (disk mid : D) (s t : Settings) (all : Pairs Bytes)
    → MatchOption o (IfErr r (λ e. IsLate (failed disk) (failed e.1) e.0)) (λ fault. IsErr r × IfErr r (λ e. e.0 ≡ fault)) → r ≡ Ok made → s ≡ t → failed mid ≡ failed disk
    → IfErr result (λ e. IsCopyFault s all (failed mid) (failed e.1) e.0)
    → MatchOption o (IfErr result (λ e. IsCopyFault t all (failed disk) (failed e.1) e.0)) (λ fault. IsErr result × IfErr result (λ e. e.0 ≡ fault))
made_refused failed None r made result disk mid s t all given is same count why = refused_still failed result disk mid s t all same count why
made_refused failed (Some fault) r made result disk mid s t all given is same count why = absurd (no_error r made is given.0)

-- what refuses the making of it refuses the copy
pub create_refused : {Y D : Type 0} (failed : D → ℕ) (o : Option Fault) (r : Result Y (Fault × D)) (e : Fault × D) (s : Settings) (all : Pairs Bytes) (old : ℕ)
    → MatchOption o (IfErr r (λ e. IsLate old (failed e.1) e.0)) (λ fault. IsErr r × IfErr r (λ e. e.0 ≡ fault)) → r ≡ Err e
    → MatchOption o (IsCopyFault s all old (failed e.1) e.0) (λ fault. (true ≡ true) × (e.0 ≡ fault))
create_refused failed None (Ok made) e s all old given is = absurd (cc)
create_refused {D = D} failed None (Err f) e s all old given is = let same : f ≡ e = cc in inl (subst (λ (x : Fault × D). IsLate old (failed x.1) x.0) same given)
create_refused failed (Some fault) (Ok made) e s all old given is = absurd (cc)
create_refused {D = D} failed (Some fault) (Err f) e s all old given is = let same : f ≡ e = cc in (refl, subst (λ (x : Fault × D). x.0 ≡ fault) same given.1)

pub made_back : {X D : Type 0} (view : D → View) (r : Result X (Fault × D)) (disk mid : D) → Kept (view disk) (view mid)
    → IfErr r (λ e. Kept (view mid) (view e.1)) → IfErr r (λ e. Kept (view disk) (view e.1))
made_back view (Ok x) disk mid kept back = tt
made_back view (Err e) disk mid kept back = kept_then (view disk) (view mid) (view e.1) kept back

-- the disk that is handed back has no store
pub made_left : {X D : Type 0} (view : D → View) (r : Result X (Fault × D)) (disk mid : D) (H : Type 0) → (H → HoldsNoStore (view mid).seen) → (H → IsSynced (view mid))
    → IfErr r (λ e. e.0 ≢ Device → e.1 ≡ mid)
    → IfErr r (λ e. e.0 ≢ Device → (e.1 ≡ disk) ⊎ (H → (store_of_disk (view e.1).seen ≡ Err NotAStore) × IsSynced (view e.1)))
made_left view (Ok x) disk mid H hidden is_synced unchanged = tt
made_left {D = D} view (Err e) disk mid H hidden is_synced unchanged = λ other. inr (λ h.
    subst (λ (d : D). (store_of_disk (view d).seen ≡ Err NotAStore) × IsSynced (view d)) (sym (unchanged other)) (no_store (view mid).seen (hidden h), is_synced h))

pub made_ok : {D Y : Type 0} (view : D → View) (failed : D → ℕ) (r : Result (State D) Y) (disk mid : D) (s t : Settings) → s ≡ t → Kept (view disk) (view mid) → failed mid ≡ failed disk
    → IfOk r (λ copy. (copy.settings ≡ s) × (copy.has_failed ≡ false))
    → IfOk r (λ copy. Kept (view mid) (view copy.disk) × (failed copy.disk ≡ failed mid))
    → IfOk r (λ copy. (copy.settings ≡ t) × (copy.has_failed ≡ false)) × IfOk r (λ copy. Kept (view disk) (view copy.disk) × (failed copy.disk ≡ failed disk))
made_ok view failed (Ok copy) disk mid s t same kept count made further =
    ((made.0 ∙ same, made.1), (kept_then (view disk) (view mid) (view copy.disk) kept further.0, further.1 ∙ count))
made_ok view failed (Err e) disk mid s t same kept count made further = (tt, tt)

pub made_bytes : {D Y : Type 0} (view : D → View) (r : Result (State D) Y) (s t : Settings) → s ≡ t
    → IfOk r (λ copy. store_of_disk (view copy.disk).seen ≡ Ok (s, copy.store))
    → IfOk r (λ copy. store_of_disk (view copy.disk).seen ≡ Ok (t, copy.store))
made_bytes view (Ok copy) s t same bytes = subst (λ (x : Settings). store_of_disk (view copy.disk).seen ≡ Ok (x, copy.store)) same bytes
made_bytes view (Err e) s t same bytes = tt

-- the copy is exact under the settings that were chosen
pub made_exact : {D : Type 0} (r : Result (State D) (Fault × D)) (s t : Settings) (all : Pairs Bytes) → s ≡ t → IfOk r (λ copy. IsCopied s all copy.store) → IfOk r (λ copy. IsCopied t all copy.store)
made_exact r s t all same is = subst (λ (u : Settings). IfOk r (λ copy. IsCopied u all copy.store)) same is

-- the bytes of a disk on which a store was made
created_by : (o : Option Fault) (s : Settings) (file bytes : Bytes) (st : Store) → made_unless o s file ≡ Ok (st, bytes) → bytes ≡ disk_of_new s file
created_by None s file bytes st e =
    let same : (let x : Store × Bytes = (first_store, disk_of_new s file) in x ≡ (st, bytes)) = cc in
    sym (ap (λ (x : Store × Bytes). x.1) same)
created_by (Some fault) s file bytes st e = absurd (cc)

pub created_bytes : (s : Settings) (file bytes : Bytes) (st : Store) → after_create s file ≡ Ok (st, bytes) → bytes ≡ disk_of_new s file
created_bytes s file bytes st e = created_by (create_refusal s (length file)) s file bytes st e

-- so is the copy, of the bytes that the disk held
pub made_written : {D : Type 0} (view : D → View) (r : Result (State D) (Fault × D)) (s t : Settings) (all : Pairs Bytes) (file before : Bytes) (st : Store) → s ≡ t → after_create t before ≡ Ok (st, file)
    → IfOk r (λ copy. after_filling s all file ≡ Ok (copy.store, (view copy.disk).seen)) → IfOk r (λ copy. after_filling t all (disk_of_new t before) ≡ Ok (copy.store, (view copy.disk).seen))
made_written view r s t all file before st same made is =
    subst (λ (u : Settings). IfOk r (λ copy. after_filling u all (disk_of_new t before) ≡ Ok (copy.store, (view copy.disk).seen))) same
    (subst (λ (f : Bytes). IfOk r (λ copy. after_filling s all f ≡ Ok (copy.store, (view copy.disk).seen))) (created_bytes t before file st made) is)
