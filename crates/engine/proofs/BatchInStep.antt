-- After a batch a store is still in step with its disk.
use Rattle.std.specs.Prelude.{◌≡◌, ◌↔◌, ℕ, ◌^◌, ◌<◌, ◌≤◌, nat_lt, List, Some, None}
use Rattle.std.proofs.lemmas.Bool.{ltb-false}
use Rattle.keys.specs.Step.{map_after_all}
use Rattle.keys.specs.declared.command.Command.{Command}
use Rattle.keys.specs.declared.settings.Settings.{Settings}
use Rattle.index_page.specs.Over.{IsPageOver}
use Rattle.index_page.specs.Page.{PageOfKind}
use Rattle.mapping.specs.Levels.{contents}
use Rattle.mapping.specs.Proper.{AreLogsTrue, IsProper}
use Rattle.mapping.specs.Tree.{Tree, Store, page_at, logged_of, with_tree}
use Rattle.mapping.specs.Tree.Logged.{No, Upto}
use Rattle.climb_plan.specs.Limits.{AreShort}
use Rattle.climb_plan.specs.Plan.{planned_tree}
use Rattle.recovery.specs.InStep.{KeepsLogged, IsStore}
use Rattle.recovery.proofs.KeptStore.{batch-kept}
use Rattle.recovery.proofs.StepLemmas.{kept-in_step}
use Rattle.engine.specs.Batch.{height_fault, refusal_by}
use Rattle.engine.specs.Refusal.{refusal}
use Rattle.engine.specs.Steps.{KeepsStores, batching}
use Rattle.engine.proofs.Admitted.{neither, none_where, admitted}

-- the log state of a page, by the laws of the plan
abbrev pub KeepsPages : {A : Type 0} → Settings → Tree → List (Command A) → Type 0
KeepsPages s t cs = (pid k : ℕ) (p : PageOfKind) → logged_of (planned_tree s t cs) pid ≡ Upto k → page_at t.pages pid ≡ Some p →
    (q : PageOfKind) × (page_at (planned_tree s t cs).pages pid ≡ Some q) × IsPageOver p q

module _ {A : Type 0} (s : Settings)
    (holds : (t : Tree) (cs : List (Command A)) → IsProper s t → contents (planned_tree s t cs) ≡ map_after_all (contents t) cs)
    (proper : (t : Tree) (cs : List (Command A)) → IsProper s t → AreShort s cs → IsProper s (planned_tree s t cs))
    (logs : (t : Tree) (cs : List (Command A)) → IsProper s t → AreLogsTrue t → AreLogsTrue (planned_tree s t cs))
    (none : (t : Tree) (cs : List (Command A)) (pid : ℕ) → (logged_of t pid ≡ No) ↔ (logged_of (planned_tree s t cs) pid ≡ No))
    (upto : (t : Tree) (cs : List (Command A)) (pid k : ℕ) → logged_of (planned_tree s t cs) pid ≡ Upto k → logged_of t pid ≡ Upto k)
    (pages : (t : Tree) (cs : List (Command A)) → IsProper s t → KeepsPages s t cs) where
  pub keeps_logged : (t : Tree) (cs : List (Command A)) → IsProper s t → KeepsLogged t (planned_tree s t cs)
  keeps_logged t cs p = record {
    none = λ pid. none t cs pid;
    upto = λ pid k e. upto t cs pid k e;
    over = λ pid k page e f. pages t cs p pid k page e f;
  }

  -- a batch that is not refused keeps the invariant of stores
  pub keeps_store : (st : Store) (cs : List (Command A)) → IsStore s st → refusal_by s st.tree cs ≡ None → (planned_tree s st.tree cs).root < 2 ^ 64 → IsStore s (with_tree st (planned_tree s st.tree cs))
  keeps_store st cs h allowed root =
      let parts = neither (refusal s cs) (height_fault (planned_tree s st.tree cs).height) allowed in
      batch-kept s st (planned_tree s st.tree cs) h (proper st.tree cs h.proper (admitted s cs parts.0)) (logs st.tree cs h.proper h.logs) root (low_by (planned_tree s st.tree cs).height parts.1)
    where
      low_by : (height : ℕ) → height_fault height ≡ None → height ≤ 64
      low_by height e = ltb-false 64 height (none_where (nat_lt 64 height) _ e)

  -- the store is in step with the same bytes, and its contents are the map after the commands
  pub keeps_stores : KeepsStores {A = A} s (batching s)
  keeps_stores st file cs h allowed root =
      let (on_disk, read, step) = h.step in
      let new : Tree = planned_tree s st.tree cs in (
        holds st.tree cs h.is.proper,
        record {
          is = keeps_store st cs h.is allowed root;
          step = (on_disk, read, kept-in_step st new on_disk (keeps_logged st.tree cs h.is.proper) step);
        },
      )
