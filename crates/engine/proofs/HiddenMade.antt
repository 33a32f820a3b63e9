-- A new store on a disk that hides it, and that reveals it at once.
use Rattle.std.specs.Prelude.{◌≡◌, ◌≢◌, ℕ, Bool, false, [], get_or, Option, Some, None, Result, Ok, Err, MatchOption, MatchResult, IfOk, IfErr, IsErr}
use Rattle.std.proofs.Common.{refl, sym, ap, ◌∙◌, subst}
use Rattle.keys.specs.Bytes.{Bytes}
use Rattle.keys.specs.declared.fault.Fault.{Fault}
use Rattle.keys.specs.declared.fault.Fault.TheVariants.{Device}
use Rattle.keys.specs.declared.settings.Settings.{Settings}
use Rattle.mapping.specs.Levels.{contents}
use Rattle.mapping.specs.Tree.{Store}
use Rattle.flush_log.specs.Disk.{View, IsSynced, Kept, LeavesOnly}
use Rattle.flush_log.specs.NewStore.{disk_of_new}
use Rattle.recovery.specs.Recovered.{IsLate}
use Rattle.recovery.specs.StoreOfDisk.{first_store}
use Rattle.recovery.proofs.ReadBytes.{kept_then}
use Rattle.engine.specs.Hidden.{exchanged, IsLeftHiding, IsLeftRevealing, revealed}
use Rattle.engine.specs.Late.{IsLeftCreating, after_create}
use Rattle.engine.specs.State.{State}
use Rattle.engine.proofs.HiddenLemmas.{revealed_is}
use Rattle.engine.proofs.HiddenStores.{after_create_is, by_result, created_leaves, if_err, if_ok, new_first}

no_error : {X Y : Type 0} (r : Result X Y) (made : X) → r ≡ Ok made → IsErr r → ⊥
no_error (Ok x) made is e = absurd (cc)
no_error (Err y) made is e = absurd (cc)

-- the store that was hidden on a disk `mid`, which was `old` before; `r` is the result of revealing it
module _ {D : Type 0} (view : D → View) (failed : D → ℕ) (settings : Settings) (store : Store) (fails : Bool) (old mid : D) (r : Result (State D) (Fault × D)) where
  abbrev Same : State D → Type 0
  Same x = (x.settings ≡ settings) × (x.store ≡ store) × (x.has_failed ≡ fails)

  abbrev Refused : Fault × D → Type 0
  Refused e = (e.0 ≡ Device) × IsLate (failed mid) (failed e.1) e.0 × Kept (view mid) (view e.1)

  pub revealed_refused : {Y : Type 0} (o : Option Fault) (q : Result Y (Fault × D)) (made : Y) → MatchOption o (IfErr q (λ e. IsLate (failed old) (failed e.1) e.0)) (λ fault. IsErr q × IfErr q (λ e. e.0 ≡ fault)) → q ≡ Ok made
      → failed mid ≡ failed old → IfErr r Refused → MatchOption o (IfErr r (λ e. IsLate (failed old) (failed e.1) e.0)) (λ fault. IsErr r × IfErr r (λ e. e.0 ≡ fault))
  revealed_refused None q made given is count refused = if_err r Refused (λ e. IsLate (failed old) (failed e.1) e.0) (λ e h. subst (λ (n : ℕ). IsLate n (failed e.1) e.0) count h.1) refused
  revealed_refused (Some fault) q made given is count refused = absurd (no_error q made is given.0)

  pub revealed_back : Kept (view old) (view mid) → IfErr r Refused → IfErr r (λ e. Kept (view old) (view e.1) × (e.0 ≢ Device → e.1 ≡ old))
  revealed_back kept refused =
      if_err r Refused (λ e. Kept (view old) (view e.1) × (e.0 ≢ Device → e.1 ≡ old))
      (λ e h. (kept_then (view old) (view mid) (view e.1) kept h.2, λ other. absurd (other h.0))) refused

  pub revealed_made : (s : Settings) → settings ≡ s → store ≡ first_store → fails ≡ false → IfOk r Same → IfOk r (λ made. (made.settings ≡ s) × (made.store ≡ first_store) × (made.has_failed ≡ false))
  revealed_made s is first fine same = if_ok r Same Same (λ made. (made.settings ≡ s) × (made.store ≡ first_store) × (made.has_failed ≡ false)) (λ x h k. (h.0 ∙ is, h.1 ∙ first, h.2 ∙ fine)) same same

  pub revealed_contents : contents store.tree ≡ [] → IfOk r Same → IfOk r (λ made. contents made.store.tree ≡ [])
  revealed_contents none same = if_ok r Same Same (λ made. contents made.store.tree ≡ []) (λ x h k. ap (λ (st : Store). contents st.tree) h.1 ∙ none) same same

  pub revealed_kept : Kept (view old) (view mid) → failed mid ≡ failed old → IfOk r (λ x. Kept (view mid) (view x.disk) × (failed x.disk ≡ failed mid)) → IfOk r (λ made. Kept (view old) (view made.disk) × (failed made.disk ≡ failed old))
  revealed_kept kept count further =
      if_ok r (λ x. Kept (view mid) (view x.disk) × (failed x.disk ≡ failed mid)) (λ x. Kept (view mid) (view x.disk) × (failed x.disk ≡ failed mid)) (λ made. Kept (view old) (view made.disk) × (failed made.disk ≡ failed old))
      (λ x h k. (kept_then (view old) (view mid) (view x.disk) kept h.0, h.1 ∙ count)) further further

  module _ (s : Settings) (after : after_create s (view old).seen ≡ Ok (store, exchanged (view mid).seen)) where
    shown : exchanged (view mid).seen ≡ disk_of_new s (view old).seen
    shown = after_create_is s (view old).seen store (exchanged (view mid).seen) after

    pub revealed_bytes : IfOk r Same → IfOk r (λ x. ((view x.disk).seen ≡ revealed (view mid).seen) × IsSynced (view x.disk))
        → IfOk r (λ made. (after_create s (view old).seen ≡ Ok (made.store, (view made.disk).seen)) × IsSynced (view made.disk))
    revealed_bytes same bytes =
        if_ok r Same (λ x. ((view x.disk).seen ≡ revealed (view mid).seen) × IsSynced (view x.disk)) (λ made. (after_create s (view old).seen ≡ Ok (made.store, (view made.disk).seen)) × IsSynced (view made.disk))
        (λ x h k. (
          subst (λ (file : Bytes). after_create s (view old).seen ≡ Ok (x.store, file)) (sym (k.0 ∙ revealed_is (view mid).seen (exchanged (view mid).seen) refl (ap (λ (f : Bytes). get_or f 0 0) shown ∙ new_first s (view old).seen)))
              (subst (λ (st : Store). after_create s (view old).seen ≡ Ok (st, exchanged (view mid).seen)) (sym h.1) after),
          k.1,
        )) same bytes

    pub revealed_leaves : LeavesOnly (view old) (view mid) (IsLeftHiding (view old).seen)
        → MatchResult r (λ x. LeavesOnly (view mid) (view x.disk) (IsLeftRevealing (view mid).seen)) (λ e. LeavesOnly (view mid) (view e.1) (IsLeftRevealing (view mid).seen))
        → MatchResult r (λ made. LeavesOnly (view old) (view made.disk) (IsLeftCreating s (view old).seen)) (λ e. LeavesOnly (view old) (view e.1) (IsLeftCreating s (view old).seen))
    revealed_leaves first second =
        by_result r (λ x. LeavesOnly (view mid) (view x.disk) (IsLeftRevealing (view mid).seen)) (λ made. LeavesOnly (view old) (view made.disk) (IsLeftCreating s (view old).seen))
        (λ e. LeavesOnly (view mid) (view e.1) (IsLeftRevealing (view mid).seen)) (λ e. LeavesOnly (view old) (view e.1) (IsLeftCreating s (view old).seen))
        (λ x run. created_leaves (view old) (view mid) (view x.disk) s shown first run)
        (λ e run. created_leaves (view old) (view mid) (view e.1) s shown first run) second
