-- Lemmas on the order to copy a store.
use Rattle.std.proofs.Common.{◌≡◌, ◌⊎◌, ap, inl, inr, ℕ, Option, None, Some, Result, Ok, Err, refl, sym, subst}
use Rattle.std.specs.Prelude.{Bool, IfErr, MatchOption}
use Rattle.keys.specs.Bytes.{Bytes, Pairs}
use Rattle.keys.specs.declared.fault.Fault.{Fault}
use Rattle.keys.specs.declared.fault.Fault.TheVariants.{BadSettings, NoMemory}
use Rattle.keys.specs.declared.fault.Fault.TheVariants as faults
use Rattle.keys.specs.Limits.{first_bad_field}
use Rattle.keys.specs.declared.settings.Field.{Field}
use Rattle.keys.specs.declared.settings.Settings.{Settings}
use Rattle.mapping.specs.Levels.{contents}
use Rattle.mapping.specs.Tree.{Store}
use Rattle.bwsh.specs.declared.options.asked.Mode.{Mode}
use Rattle.bwsh.specs.declared.order.Order.TheVariants.{Copy}
use Rattle.bwsh.specs.declared.session.SessionError.{SessionError}
use Rattle.bwsh.specs.declared.session.SessionError.TheVariants as errors
use Rattle.bwsh.specs.Session.{IsCopyEnd, IsUncopied, RunsOrder, copy_settings}
use Rattle.bwsh.proofs.AloneLemmas.{RunsOrder-cut, RunsOrder-unstill}

module _ (mode : Mode) (honest : Bool) (settings : Settings) (st : Store) (left : Bytes) (path : Bytes) (segments : Option ℕ) (old : Option Bytes) where
  abbrev Copies : SessionError → Type 0
  Copies early = RunsOrder mode honest settings st left (Copy path segments) old old (Err early) st left

  lapsed : (early : SessionError) → early ≡ errors.Device → Copies early
  lapsed early e = subst Copies (sym e) (RunsOrder-cut mode honest settings st left (Copy path segments) tt old faults.Device (inr (inl refl)))

  -- no memory is found
  pub RunsOrder-unmade : (fault : Fault) → fault ≡ NoMemory → Copies (errors.Fault fault)
  RunsOrder-unmade fault e = RunsOrder-unstill mode honest settings st left (Copy path segments) tt old fault (inl e)

  -- the file of the copy fails
  pub RunsOrder-unfiled : Copies (errors.Fault faults.Device)
  RunsOrder-unfiled = RunsOrder-unstill mode honest settings st left (Copy path segments) tt old faults.Device (inr (inl refl))

  -- the settings of the copy are refused, or its pairs are
  pub RunsOrder-uncopied : (early : SessionError) → IsUncopied (Some (copy_settings settings segments)) early ⊎ IsCopyEnd (copy_settings settings segments) (contents st.tree) early → Copies early
  RunsOrder-uncopied early (inl (inl (field, bad, e))) =
      subst Copies (sym e) (RunsOrder-unstill mode honest settings st left (Copy path segments) tt old (BadSettings field) (inr (inr (inr (field, bad, refl)))))
  RunsOrder-uncopied early (inl (inr e)) = lapsed early e
  RunsOrder-uncopied early (inr (inl (fault, e, why))) =
      subst Copies (sym e) (RunsOrder-unstill mode honest settings st left (Copy path segments) tt old fault (inr (inr (inl why))))
  RunsOrder-uncopied early (inr (inr (inl e))) = subst Copies (sym e) (RunsOrder-unmade NoMemory refl)
  RunsOrder-uncopied early (inr (inr (inr e))) = lapsed early e

-- a copy under settings that are these
pub IsCopyEnd-either : {X : Type 0} (s t : Settings) → s ≡ t → (m : Pairs Bytes) (r : Result X SessionError) → IfErr r (IsCopyEnd s m) → IfErr r (λ early. IsUncopied (Some t) early ⊎ IsCopyEnd t m early)
IsCopyEnd-either s t same m (Ok x) p = p
IsCopyEnd-either s t same m (Err early) p = inr (subst (λ (u : Settings). IsCopyEnd u m early) same p)

-- the settings of a copy are refused for their first bad field
pub IsUncopied-field : {U : Type 0} (settings : Settings) (o : Option Field) (u : U) (r : Result U Fault) (fault : Fault) → first_bad_field settings ≡ o → MatchOption o (r ≡ Ok u) (λ field. r ≡ Err (BadSettings field)) → r ≡ Err fault
    → IsUncopied (Some settings) (errors.Fault fault)
IsUncopied-field settings None u r fault is given was = absurd (cc)
IsUncopied-field settings (Some field) u r fault is given was = let same : fault ≡ BadSettings field = cc in inl (field, is, ap errors.Fault same)

-- settings that aren't refused are good
pub unrefused : {U : Type 0} (o : Option Field) (u : U) (r : Result U Fault) → MatchOption o (r ≡ Ok u) (λ field. r ≡ Err (BadSettings field)) → r ≡ Ok u → o ≡ None
unrefused None u r given was = refl
unrefused (Some field) u r given was = absurd (cc)
