-- Lemmas on the order to tidy a store.
use Rattle.std.proofs.Common.{◌≡◌, ℕ, List, [], ◌∷◌, Option, Some, None, Result, Err, refl, sym, ap, ◌∙◌, subst}
use Rattle.std.specs.Prelude.{Bool, ◌-◌}
use Rattle.keys.specs.Bytes.{Bytes}
use Rattle.keys.specs.declared.fault.Fault.{Fault}
use Rattle.keys.specs.declared.settings.Settings.{Settings}
use Rattle.mapping.specs.Levels.{contents}
use Rattle.mapping.specs.Tree.{Store}
use Rattle.engine.specs.Tidied.{IsTidied, IsTidyFault, counted_pages}
use Rattle.bwsh.specs.declared.options.asked.Mode.{Mode}
use Rattle.bwsh.specs.declared.order.Order.TheVariants.{Tidy}
use Rattle.bwsh.specs.declared.session.SessionError.{SessionError}
use Rattle.bwsh.specs.declared.session.SessionError.TheVariants as errors
use Rattle.bwsh.specs.Output.{Writes}
use Rattle.bwsh.specs.Session.{Batches, LeavesStored, RunsOrder, Seen, Stored, after_order, by_batches, map_unless, no_tidying, refusal_of, tidied}
use Rattle.bwsh.specs.Shown.{shown_tidied}
use Rattle.bwsh.proofs.AloneLemmas.{RunsAlone-done, RunsAlone-refused, left_same, map_same, refused_same}
use Rattle.bwsh.proofs.RunLemmas.{no_cleans, no_tidying_asked}
use Rattle.bwsh.proofs.TidiedLemmas.{tidies}

-- the disk has these contents, the store is tidied by these batches, and the order fails in this way, if it does
abbrev pub seen_merged : Option Fault → Batches → Bytes → Seen
seen_merged fails batches file = record { bytes = file; tidying = no_tidying; rows = []; last = file; merged = batches; fails = fails; told = [] }

module _ (settings : Settings) (st now : Store) (batches : Batches) (are : (file : List ℕ) → tidied settings (by_batches batches) (st, file) ≡ (now, file)) (most : ℕ) (fails : Option Fault) (file : Bytes) where
  merged_after : after_order settings st (seen_merged fails batches file) (Tidy most) ≡ (now, file)
  unfolding after_order
  merged_after = left_same fails (tidied settings (by_batches batches) (st, file)) ∙ are file

  merged_refusal : refusal_of settings st (seen_merged fails batches file) (Tidy most) ≡ fails
  unfolding refusal_of
  merged_refusal = refused_same fails

  module _ (honest : Bool) (holds : contents now.tree ≡ contents st.tree) where
    merged_leaves : LeavesStored honest settings st (seen_merged fails batches file) (Tidy most) now file
    merged_leaves = record {
      store = ap (λ (at : Stored). at.0) (sym merged_after);
      bytes = λ h. ap (λ (at : Stored). at.1) (sym merged_after);
      holds = holds ∙ map_same fails (contents st.tree) (Tidy most) refl ∙ ap (λ (r : Option Fault). map_unless r (contents st.tree) (Tidy most)) (sym merged_refusal);
    }

module _ (mode : Mode) (honest : Bool) (settings : Settings) (st now : Store) (left : Bytes) (most : ℕ) (is : IsTidied settings st now) where
  -- it is done, and its line is written
  pub RunsOrder-merged : (old new : Option Bytes) (end : Result (Unit {0}) SessionError) (pages : ℕ) → pages ≡ counted_pages st.tree - counted_pages now.tree → Writes old new (shown_tidied pages ∷ []) end
      → RunsOrder mode honest settings st left (Tidy most) old new end now left
  RunsOrder-merged old new end pages pages_are written =
      let (batches, are) = tidies settings st now is in
      let seen : Seen = seen_merged None batches left in
      let after : after_order settings st seen (Tidy most) ≡ (now, left) = merged_after settings st now batches are most None left in
      let freed : pages ≡ counted_pages st.tree - counted_pages (after_order settings st seen (Tidy most)).0.tree =
      pages_are ∙ ap (λ (at : Stored). counted_pages st.tree - counted_pages at.0.tree) (sym after) in (
        seen,
        (no_tidying_asked mode, tt, no_cleans honest mode.clean_when_full settings st (Tidy most) seen (λ e. absurd (cc)) refl, λ h. (refl, refl)),
        RunsAlone-done mode.stream settings st seen (Tidy most) old new end refl (merged_refusal settings st now batches are most None left)
            (subst (λ (n : ℕ). Writes old new (shown_tidied n ∷ []) end) freed written),
        λ other. merged_leaves settings st now batches are most None left honest is.holds,
      )

  -- it fails, and nothing is written
  pub RunsOrder-unmerged : (old : Option Bytes) (fault : Fault) → IsTidyFault settings fault → RunsOrder mode honest settings st left (Tidy most) old old (Err (errors.Fault fault)) now left
  RunsOrder-unmerged old fault may =
      let (batches, are) = tidies settings st now is in
      let seen : Seen = seen_merged (Some fault) batches left in (
        seen,
        (no_tidying_asked mode, may, no_cleans honest mode.clean_when_full settings st (Tidy most) seen (λ e. absurd (cc)) refl, λ h. (refl, refl)),
        RunsAlone-refused mode.stream settings st seen (Tidy most) old fault refl (merged_refusal settings st now batches are most (Some fault) left),
        λ other. merged_leaves settings st now batches are most (Some fault) left honest is.holds,
      )
