-- A copy on a disk that hides it, which is revealed when it is complete.
use Rattle.std.specs.Prelude.{◌≡◌, ◌≢◌, ℕ, Bool, false, Result, Ok, MatchResult, IfOk, IfErr}
use Rattle.std.proofs.Common.{sym, ap, ◌∙◌, subst, inl, inr}
use Rattle.keys.specs.Bytes.{Bytes, Pairs}
use Rattle.keys.specs.declared.fault.Fault.{Fault}
use Rattle.keys.specs.declared.fault.Fault.TheVariants.{Device}
use Rattle.keys.specs.declared.settings.Settings.{Settings}
use Rattle.mapping.specs.Levels.{contents}
use Rattle.mapping.specs.Tree.{Store}
use Rattle.flush_log.specs.Disk.{View, IsSynced, Kept, LeavesOnly}
use Rattle.flush_log.proofs.ViewLemmas.{only_then, weaker}
use Rattle.recovery.specs.Recovered.{IsLate}
use Rattle.recovery.specs.StoreOfDisk.{store_of_disk}
use Rattle.recovery.proofs.ReadBytes.{kept_then}
use Rattle.engine.specs.Copies.{HoldsSomeStore, after_filling, IsCopied, IsCopyFault, IsLeftCopying, IsLeftFilling}
use Rattle.engine.specs.Hidden.{exchanged, exchanged_view, HoldsNoStore, IsLeftHiding, IsLeftRevealing, revealed}
use Rattle.engine.specs.State.{State}
use Rattle.engine.proofs.HiddenLemmas.{only_back}
use Rattle.engine.proofs.HiddenStores.{below_store, by_result, if_err, if_ok, kept_below, no_store, shown_is}

-- ---- crashes

-- while the disk that is seen holds a store, the disk below holds none
pub hidden_leaves : (a b : View) → LeavesOnly (exchanged_view a) (exchanged_view b) HoldsSomeStore → LeavesOnly a b HoldsNoStore
hidden_leaves a b run = weaker a b (λ c. HoldsSomeStore (exchanged c)) HoldsNoStore (λ c holds. below_store c holds.0 holds.1) (only_back a b HoldsSomeStore run)

filling : (s : Settings) (all : Pairs Bytes) (c : Bytes) → HoldsNoStore c → IsLeftFilling s all c
filling s all c none = inl (no_store c none)

shown_copy : (s : Settings) (all : Pairs Bytes) (copy : Store) (below c : Bytes) → store_of_disk (exchanged below) ≡ Ok (s, copy) → contents copy.tree ≡ all → IsLeftRevealing below c → IsLeftFilling s all c
shown_copy s all copy below c is holds (inl none) = filling s all c none
shown_copy s all copy below c is holds (inr same) =
    inr (copy, ap (λ (f : Bytes). store_of_disk f) (same ∙ shown_is below (s, copy) is) ∙ is, holds)

pub filled_leaves : (old mid : View) (s : Settings) (all : Pairs Bytes) → LeavesOnly (exchanged_view old) (exchanged_view mid) HoldsSomeStore → LeavesOnly old mid (IsLeftFilling s all)
filled_leaves old mid s all run = weaker old mid HoldsNoStore (IsLeftFilling s all) (λ c none. filling s all c none) (hidden_leaves old mid run)

pub copied_leaves : (old mid new : View) (s : Settings) (all : Pairs Bytes) (copy : Store) → store_of_disk (exchanged mid.seen) ≡ Ok (s, copy) → contents copy.tree ≡ all
    → LeavesOnly (exchanged_view old) (exchanged_view mid) HoldsSomeStore → LeavesOnly mid new (IsLeftRevealing mid.seen) → LeavesOnly old new (IsLeftFilling s all)
copied_leaves old mid new s all copy is holds first second =
    only_then old mid new (IsLeftFilling s all) (filled_leaves old mid s all first)
    (weaker mid new (IsLeftRevealing mid.seen) (IsLeftFilling s all) (λ c left. shown_copy s all copy mid.seen c is holds left) second)

begun : (s : Settings) (all : Pairs Bytes) (file c : Bytes) → IsLeftHiding file c → IsLeftCopying s all file c
begun s all file c (inl same) = inl same
begun s all file c (inr none) = inr (filling s all c none)

pub begun_leaves : (old new : View) (s : Settings) (all : Pairs Bytes) → LeavesOnly old new (IsLeftHiding old.seen) → LeavesOnly old new (IsLeftCopying s all old.seen)
begun_leaves old new s all run = weaker old new (IsLeftHiding old.seen) (IsLeftCopying s all old.seen) (λ c left. begun s all old.seen c left) run

pub copying_leaves : (old mid new : View) (s : Settings) (all : Pairs Bytes) → LeavesOnly old mid (IsLeftHiding old.seen) → LeavesOnly mid new (IsLeftFilling s all) → LeavesOnly old new (IsLeftCopying s all old.seen)
copying_leaves old mid new s all first second =
    only_then old mid new (IsLeftCopying s all old.seen) (begun_leaves old mid s all first)
    (weaker mid new (IsLeftFilling s all) (IsLeftCopying s all old.seen) (λ c left. inr left) second)

-- ---- results

-- the copy `whole` was made under these settings; `old` was the disk below at first, and `mid` is it with the whole copy; `r` is what the
-- revealing of it answered
module _ {D : Type 0} (view : D → View) (failed : D → ℕ) (s : Settings) (all : Pairs Bytes) (settings : Settings) (whole : Store) (fails : Bool) (old mid : D) (r : Result (State D) (Fault × D)) where
  abbrev Same : State D → Type 0
  Same x = (x.settings ≡ settings) × (x.store ≡ whole) × (x.has_failed ≡ fails)

  pub shown_made : settings ≡ s → fails ≡ false → IfOk r Same → IfOk r (λ copy. (copy.settings ≡ s) × (copy.has_failed ≡ false))
  shown_made is fine same = if_ok r Same Same (λ copy. (copy.settings ≡ s) × (copy.has_failed ≡ false)) (λ x h k. (h.0 ∙ is, h.2 ∙ fine)) same same

  pub shown_contents : contents whole.tree ≡ all → IfOk r Same → IfOk r (λ copy. contents copy.store.tree ≡ all)
  shown_contents holds same = if_ok r Same Same (λ copy. contents copy.store.tree ≡ all) (λ x h k. ap (λ (st : Store). contents st.tree) h.1 ∙ holds) same same

  pub shown_kept : Kept (exchanged_view (view old)) (exchanged_view (view mid)) → failed mid ≡ failed old → IfOk r (λ x. Kept (view mid) (view x.disk) × (failed x.disk ≡ failed mid))
      → IfOk r (λ copy. Kept (view old) (view copy.disk) × (failed copy.disk ≡ failed old))
  shown_kept kept count further =
      if_ok r (λ x. Kept (view mid) (view x.disk) × (failed x.disk ≡ failed mid)) (λ x. Kept (view mid) (view x.disk) × (failed x.disk ≡ failed mid)) (λ copy. Kept (view old) (view copy.disk) × (failed copy.disk ≡ failed old))
      (λ x h k. (kept_then (view old) (view mid) (view x.disk) (kept_below (view old) (view mid) kept) h.0, h.1 ∙ count)) further further

  pub shown_bytes : settings ≡ s → store_of_disk (exchanged (view mid).seen) ≡ Ok (settings, whole) → IfOk r Same → IfOk r (λ x. ((view x.disk).seen ≡ revealed (view mid).seen) × IsSynced (view x.disk))
      → IfOk r (λ copy. store_of_disk (view copy.disk).seen ≡ Ok (s, copy.store))
  shown_bytes is stands same bytes =
      if_ok r Same (λ x. ((view x.disk).seen ≡ revealed (view mid).seen) × IsSynced (view x.disk)) (λ copy. store_of_disk (view copy.disk).seen ≡ Ok (s, copy.store))
      (λ x h k. ap (λ (f : Bytes). store_of_disk f) (k.0 ∙ shown_is (view mid).seen (settings, whole) stands)
      ∙ subst (λ (t : Settings). store_of_disk (exchanged (view mid).seen) ≡ Ok (t, x.store)) is (subst (λ (st : Store). store_of_disk (exchanged (view mid).seen) ≡ Ok (settings, st)) (sym h.1) stands)) same bytes

  pub shown_synced : IfOk r Same → IfOk r (λ x. ((view x.disk).seen ≡ revealed (view mid).seen) × IsSynced (view x.disk)) → IfOk r (λ copy. IsSynced (view copy.disk))
  shown_synced same bytes =
      if_ok r Same (λ x. ((view x.disk).seen ≡ revealed (view mid).seen) × IsSynced (view x.disk)) (λ copy. IsSynced (view copy.disk)) (λ x h k. k.1) same bytes

  -- it is the exact copy still
  pub shown_exact : IsCopied s all whole → IfOk r Same → IfOk r (λ x. IsCopied s all x.store)
  shown_exact copied same = if_ok r Same Same (λ x. IsCopied s all x.store) (λ x h k. subst (λ (st : Store). IsCopied s all st) (sym h.1) copied) same same

  pub shown_written : after_filling s all (exchanged (view old).seen) ≡ Ok (whole, exchanged (view mid).seen) → store_of_disk (exchanged (view mid).seen) ≡ Ok (settings, whole)
      → IfOk r Same → IfOk r (λ x. ((view x.disk).seen ≡ revealed (view mid).seen) × IsSynced (view x.disk))
      → IfOk r (λ copy. after_filling s all (exchanged (view old).seen) ≡ Ok (copy.store, (view copy.disk).seen))
  shown_written made stands same bytes =
      if_ok r Same (λ x. ((view x.disk).seen ≡ revealed (view mid).seen) × IsSynced (view x.disk)) (λ copy. after_filling s all (exchanged (view old).seen) ≡ Ok (copy.store, (view copy.disk).seen))
      (λ x h k.
      subst (λ (f : Bytes). after_filling s all (exchanged (view old).seen) ≡ Ok (x.store, f)) (sym (k.0 ∙ shown_is (view mid).seen (settings, whole) stands))
      (subst (λ (st : Store). after_filling s all (exchanged (view old).seen) ≡ Ok (st, exchanged (view mid).seen)) (sym h.1) made)) same bytes

  abbrev Refused : Fault × D → Type 0
  Refused e = (e.0 ≡ Device) × IsLate (failed mid) (failed e.1) e.0 × Kept (view mid) (view e.1)

  pub shown_refused : failed mid ≡ failed old → IfErr r Refused → IfErr r (λ e. IsCopyFault s all (failed old) (failed e.1) e.0)
  shown_refused count refused = if_err r Refused (λ e. IsCopyFault s all (failed old) (failed e.1) e.0) (λ e h. inl (subst (λ (n : ℕ). IsLate n (failed e.1) e.0) count h.1)) refused

  pub shown_back : Kept (exchanged_view (view old)) (exchanged_view (view mid)) → IfErr r Refused → IfErr r (λ e. Kept (view old) (view e.1))
  shown_back kept refused =
      if_err r Refused (λ e. Kept (view old) (view e.1)) (λ e h. kept_then (view old) (view mid) (view e.1) (kept_below (view old) (view mid) kept) h.2) refused

  pub shown_unchanged : IfErr r Refused → IfErr r (λ e. e.0 ≢ Device → e.1 ≡ old)
  shown_unchanged refused = if_err r Refused (λ e. e.0 ≢ Device → e.1 ≡ old) (λ e h other. absurd (other h.0)) refused

  pub shown_leaves : settings ≡ s → contents whole.tree ≡ all → store_of_disk (exchanged (view mid).seen) ≡ Ok (settings, whole)
      → LeavesOnly (exchanged_view (view old)) (exchanged_view (view mid)) HoldsSomeStore
      → MatchResult r (λ x. LeavesOnly (view mid) (view x.disk) (IsLeftRevealing (view mid).seen)) (λ e. LeavesOnly (view mid) (view e.1) (IsLeftRevealing (view mid).seen))
      → MatchResult r (λ x. LeavesOnly (view old) (view x.disk) (IsLeftFilling s all)) (λ e. LeavesOnly (view old) (view e.1) (IsLeftFilling s all))
  shown_leaves is holds stands first second =
      let under : store_of_disk (exchanged (view mid).seen) ≡ Ok (s, whole) = subst (λ (t : Settings). store_of_disk (exchanged (view mid).seen) ≡ Ok (t, whole)) is stands in
      by_result r (λ x. LeavesOnly (view mid) (view x.disk) (IsLeftRevealing (view mid).seen)) (λ x. LeavesOnly (view old) (view x.disk) (IsLeftFilling s all))
      (λ e. LeavesOnly (view mid) (view e.1) (IsLeftRevealing (view mid).seen)) (λ e. LeavesOnly (view old) (view e.1) (IsLeftFilling s all))
      (λ x run. copied_leaves (view old) (view mid) (view x.disk) s all whole under holds first run)
      (λ e run. copied_leaves (view old) (view mid) (view e.1) s all whole under holds first run) second

-- where the copy was begun, and then filled with this result
pub begun_copying : {D : Type 0} (view : D → View) (r : Result (State D) (Fault × D)) (old mid : D) (s t : Settings) (all : Pairs Bytes) → s ≡ t → LeavesOnly (view old) (view mid) (IsLeftHiding (view old).seen)
    → MatchResult r (λ x. LeavesOnly (view mid) (view x.disk) (IsLeftFilling s all)) (λ e. LeavesOnly (view mid) (view e.1) (IsLeftFilling s all))
    → MatchResult r (λ x. LeavesOnly (view old) (view x.disk) (IsLeftCopying t all (view old).seen)) (λ e. LeavesOnly (view old) (view e.1) (IsLeftCopying t all (view old).seen))
begun_copying {D = D} view r old mid s t all same first second =
    subst (λ (u : Settings). MatchResult r (λ x. LeavesOnly (view old) (view x.disk) (IsLeftCopying u all (view old).seen)) (λ e. LeavesOnly (view old) (view e.1) (IsLeftCopying u all (view old).seen))) same
    (by_result r (λ x. LeavesOnly (view mid) (view x.disk) (IsLeftFilling s all)) (λ x. LeavesOnly (view old) (view x.disk) (IsLeftCopying s all (view old).seen))
    (λ e. LeavesOnly (view mid) (view e.1) (IsLeftFilling s all)) (λ e. LeavesOnly (view old) (view e.1) (IsLeftCopying s all (view old).seen))
    (λ x run. copying_leaves (view old) (view mid) (view x.disk) s all first run)
    (λ e run. copying_leaves (view old) (view mid) (view e.1) s all first run) second)
