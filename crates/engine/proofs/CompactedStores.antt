-- A store whose tree is compacted.
use Rattle.std.specs.Prelude.{◌≡◌, ◌↔◌, ℕ, ◌<◌, ◌≤◌, ◌^◌, Bool, List, []}
use Rattle.std.proofs.Common.{sym, ap, ◌∙◌, subst, arith}
use Rattle.std.specs.declared.alloc.Global.{Global}
use Rattle.keys.specs.Bytes.{Bytes, Pairs}
use Rattle.keys.specs.Order.{IsRising}
use Rattle.keys.specs.Step.{map_after_all}
use Rattle.keys.specs.declared.command.Command.{Command}
use Rattle.keys.specs.declared.fault.Fault.{Fault}
use Rattle.keys.specs.declared.settings.Settings.{Settings}
use Rattle.keys.specs.declared.version.Version.{Version}
use Rattle.mapping.specs.Levels.{contents}
use Rattle.mapping.specs.Proper.{AreLogsTrue, IsProper}
use Rattle.mapping.specs.Tree.{Store, Tree, first_tree, logged_of, most_levels, with_tree}
use Rattle.mapping.specs.Tree.Logged.{No, Upto}
use Rattle.mapping.specs.TreeInMemory.{AreAllHome, TreeInMemory, tree_of}
use Rattle.climb_plan.specs.Limits.{AreShort}
use Rattle.climb_plan.specs.Plan.{planned_tree}
use Rattle.flush_log.specs.Disk.{View}
use Rattle.flush_log.specs.declared.slot.LogEnds.{LogEnds}
use Rattle.recovery.specs.InStep.{IsInStep, IsStore, IsStoreOf}
use Rattle.recovery.proofs.KeptStore.{batch-in_step, batch-kept}
use Rattle.engine.specs.Batch.{IsLaterFault}
use Rattle.engine.specs.Compacted.{IsCompactFault, IsCompacted, all_puts, compacted, outdated_tree}
use Rattle.engine.specs.SoundTree.{IsSoundInMemory, IsSoundTree}
use Rattle.engine.specs.State.{store_in}
use Rattle.engine.proofs.SoundStores.{IsSoundStore}
use Rattle.engine.proofs.BatchInStep.{KeepsPages, keeps_logged}
use Rattle.engine.proofs.CompactedLemmas.{outdated_is_proper, outdated_keeps, outdated_logs_are_true, puts_are_short, puts_make_all}

-- by the laws of the plan
module _ (s : Settings)
    (holds : (t : Tree) (cs : List (Command Global)) → IsProper s t → contents (planned_tree s t cs) ≡ map_after_all (contents t) cs)
    (proper : (t : Tree) (cs : List (Command Global)) → IsProper s t → AreShort s cs → IsProper s (planned_tree s t cs))
    (logs : (t : Tree) (cs : List (Command Global)) → IsProper s t → AreLogsTrue t → AreLogsTrue (planned_tree s t cs))
    (none : (t : Tree) (cs : List (Command Global)) (pid : ℕ) → (logged_of t pid ≡ No) ↔ (logged_of (planned_tree s t cs) pid ≡ No))
    (upto : (t : Tree) (cs : List (Command Global)) (pid k : ℕ) → logged_of (planned_tree s t cs) pid ≡ Upto k → logged_of t pid ≡ Upto k)
    (pages : (t : Tree) (cs : List (Command Global)) → IsProper s t → KeepsPages s t cs)
    (first : IsProper s first_tree) (empty : contents first_tree ≡ []) (rises : (t : Tree) → IsProper s t → IsRising (contents t)) where
  pub compacted_holds : (t : Tree) → IsProper s t → contents (compacted s t) ≡ contents t
  compacted_holds t p =
      holds (outdated_tree t) (all_puts t) (outdated_is_proper s t first)
      ∙ ap (λ (m : Pairs Bytes). map_after_all m (all_puts t)) empty
      ∙ puts_make_all (contents t) (rises t p)

  compacted_proper : (t : Tree) → IsProper s t → IsProper s (compacted s t)
  compacted_proper t p = proper (outdated_tree t) (all_puts t) (outdated_is_proper s t first) (puts_are_short s t p)

  compacted_logs : (t : Tree) → AreLogsTrue t → AreLogsTrue (compacted s t)
  compacted_logs t l = logs (outdated_tree t) (all_puts t) (outdated_is_proper s t first) (outdated_logs_are_true t l)

  pub compacted_kept : (st : Store) → IsStore s st → (compacted s st.tree).height ≤ most_levels → (compacted s st.tree).root < 2 ^ 64 → IsStore s (with_tree st (compacted s st.tree))
  compacted_kept st is low words = batch-kept s st (compacted s st.tree) is (compacted_proper st.tree is.proper) (compacted_logs st.tree is.logs) words low

  pub compacted_in_step : (st : Store) (file : Bytes) → IsStoreOf s st file → (compacted s st.tree).height ≤ most_levels → (compacted s st.tree).root < 2 ^ 64
      → IsStoreOf s (with_tree st (compacted s st.tree)) file
  compacted_in_step st file h low words =
      let t = st.tree in
      let there : IsStoreOf s (with_tree st (outdated_tree t)) file =
      batch-in_step s st (outdated_tree t) file h (outdated_is_proper s t first) (outdated_logs_are_true t h.is.logs) (omega arith) (omega arith) (outdated_keeps t) in
      batch-in_step s (with_tree st (outdated_tree t)) (compacted s t) file there (compacted_proper t h.is.proper) (compacted_logs t h.is.logs) words low
      (keeps_logged s holds proper logs none upto pages (outdated_tree t) (all_puts t) (outdated_is_proper s t first))

-- ---- the tree in memory

pub outdated_sound : (s : Settings) (t new : TreeInMemory) → IsSoundInMemory s t → IsProper s first_tree → AreAllHome new × (tree_of new ≡ outdated_tree (tree_of t)) → IsSoundInMemory s new
outdated_sound s t new is first h = record {
  home = h.0;
  sound = subst (λ (x : Tree). IsSoundTree s x) (sym h.1) (record {
    settings = is.sound.settings;
    proper = outdated_is_proper s (tree_of t) first;
    logs = outdated_logs_are_true (tree_of t) is.sound.logs;
    height = omega arith;
  });
}

pub short_as : (s : Settings) (t : Tree) (cs : List (Command Global)) → IsProper s t → cs ≡ all_puts t → AreShort s cs
short_as s t cs p puts = subst (λ (x : List (Command Global)). AreShort s x) (sym puts) (puts_are_short s t p)

-- puts of all pairs on the outdated tree
module _ (s : Settings) (t old : Tree) (cs : List (Command Global)) where
  pub fault_as : (fault : Fault) → old ≡ outdated_tree t → cs ≡ all_puts t → IsLaterFault s old cs fault → IsCompactFault s t fault
  fault_as fault is puts late =
      subst (λ (x : Tree). IsLaterFault s x (all_puts t) fault) is (subst (λ (xs : List (Command Global)). IsLaterFault s old xs fault) puts late)

  pub planned_as : old ≡ outdated_tree t → cs ≡ all_puts t → planned_tree s old cs ≡ compacted s t
  planned_as is puts =
      ap (λ (x : Tree). planned_tree s x cs) is ∙ ap (λ (xs : List (Command Global)). planned_tree s (outdated_tree t) xs) puts

pub store_compacted : (s : Settings) (t new : TreeInMemory) (log : LogEnds) (version : Version) → tree_of new ≡ compacted s (tree_of t)
    → store_in new log version ≡ with_tree (store_in t log version) (compacted s (tree_of t))
store_compacted s t new log version e = ap (λ (x : Tree). with_tree (store_in t log version) x) e

module _ {D : Type 0} (view : D → View) (s : Settings) (t new : TreeInMemory) (log : LogEnds) (version : Version) (disk : D) (has_failed : Bool)
    (planned : tree_of new ≡ compacted s (tree_of t)) (root : new.root < 2 ^ 64) where
  abbrev was : Store
  was = store_in t log version

  words : (compacted s (tree_of t)).root < 2 ^ 64
  words = subst (λ (x : Tree). x.root < 2 ^ 64) planned root

  low : IsSoundInMemory s new → (compacted s (tree_of t)).height ≤ most_levels
  low sound = subst (λ (x : Tree). x.height ≤ most_levels) planned sound.sound.height

  is : store_in new log version ≡ with_tree was (compacted s (tree_of t))
  is = store_compacted s t new log version planned

  pub compacted_sound : IsSoundStore view s t log version disk has_failed → IsSoundInMemory s new
      → ((s : Settings) (st : Store) → IsStore s st → (compacted s st.tree).height ≤ most_levels → (compacted s st.tree).root < 2 ^ 64 → IsStore s (with_tree st (compacted s st.tree)))
      → ((s : Settings) (st : Store) (file : Bytes) → IsStoreOf s st file → (compacted s st.tree).height ≤ most_levels → (compacted s st.tree).root < 2 ^ 64 → IsStoreOf s (with_tree st (compacted s st.tree)) file)
      → IsSoundStore view s new log version disk has_failed
  compacted_sound old sound kept step = record {
    home = sound.home;
    sound = record {
      is = subst (λ (x : Store). IsStore s x) (sym is) (kept s was old.sound.is (low sound) words);
      room = old.sound.room;
      step = λ fine honest. subst (λ (x : Store). IsInStep s x (view disk).seen) (sym is)
          (step s was (view disk).seen (record { is = old.sound.is; step = old.sound.step fine honest }) (low sound) words).step;
    };
  }

  pub is_compacted : contents (compacted s (tree_of t)) ≡ contents (tree_of t) → IsCompacted s was (store_in new log version)
  is_compacted holds = record { holds = ap (λ (x : Tree). contents x) planned ∙ holds; planned = is }
