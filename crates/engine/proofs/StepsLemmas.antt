-- Steps that are played in sequence: their answers, and the store that their disk encodes.
use Rattle.std.specs.Prelude.{◌≡◌, ℕ, List, [], ◌∷◌, ◌++◌, length, take, Option, Some, None, Result, Ok, Err}
use Rattle.std.proofs.Common.{refl, sym, ap, ◌∙◌, subst}
use Rattle.keys.specs.Lists.{flat}
use Rattle.keys.specs.Step.{replies_to, map_after_all}
use Rattle.keys.specs.declared.command.Command.{Command}
use Rattle.keys.specs.declared.command.Reply.{Reply}
use Rattle.keys.specs.declared.fault.Fault.{Fault}
use Rattle.keys.specs.declared.settings.Settings.{Settings}
use Rattle.keys.specs.Results.{and_then}
use Rattle.keys.proofs.RunLemmas.{replies_to-append, map_after_all-append}
use Rattle.mapping.specs.Levels.{contents}
use Rattle.mapping.specs.Tree.{Tree, Store, with_tree}
use Rattle.flush_log.specs.AfterFlush.{slot_of, after_flush, after_upgrade}
use Rattle.flush_log.specs.FlushText.{flushed}
use Rattle.recovery.specs.InStep.{IsInStep, AreInStep, IsStoreOf}
use Rattle.recovery.specs.StoreOfDisk.{store_of_disk}
use Rattle.recovery.proofs.FlushBack.{left, same_store}
use Rattle.recovery.proofs.KeptStore.{flushed-tree, flush-read_back, upgraded-tree, upgrade-read_back}
use Rattle.cleaner.specs.AfterClean.{after_clean}
use Rattle.engine.specs.Steps.{Step, Batching, Played, Stepped, unless_refused, played_on, plays, batches_among, NumbersFit, here_and_on, AllNumbersFit, KeepsStores, ArePlayed}
use Rattle.engine.specs.Steps.Step.{Batch, Flush, Clean, Upgrade}
use Rattle.engine.specs.Steps.Answer.{Replies, Flushed, Cleaned, Upgraded}
use Rattle.cleaner.proofs.CleanBack.{clean-done, clean-back, clean-in_step}

-- ---- one step

-- a clean leaves the tree
cleaned-tree : (s : Settings) (st now : Store) (file bytes : List ℕ) → after_clean s st file ≡ left now bytes → now.tree ≡ st.tree
cleaned-tree s st now file bytes h = ap (λ (x : Store). x.tree) (clean-done s st file now bytes h).done.store

-- ---- steps

-- the store that a disk encodes
abbrev stored : Settings → Store → Result (Settings × Store) Fault
stored s st = Ok (s, st)

-- the store that a disk encodes is the one with which a store is in step, with the same ends of the log and the same version
with_ends : (s : Settings) (st on_disk : Store) (file : List ℕ) → store_of_disk file ≡ Ok (s, on_disk) → IsInStep s st file
    → AreInStep st on_disk × (store_of_disk file ≡ Ok (s, with_tree st on_disk.tree))
with_ends s st on_disk file read (other, is, step) =
    let both : stored s other ≡ stored s on_disk = sym is ∙ read in
    let pair : (let p : Settings × Store = (s, other) in p ≡ (s, on_disk)) = cc in
    let same : other ≡ on_disk = ap (λ (p : Settings × Store). p.1) pair in
    let here : AreInStep st on_disk = subst (λ (x : Store). AreInStep st x) same step in
    (here, read ∙ ap (stored s) (ap (λ (x : Store). with_tree x on_disk.tree) (same_store st on_disk on_disk.tree (slot_of on_disk) here refl)))

module _ {A : Type 0} (b : Batching A) (s : Settings) (keeps : KeepsStores s b) where
  -- if no more steps are played
  stopped : (st on_disk : Store) (file : List ℕ) (steps : List (Step A)) (fault : Option Fault) → store_of_disk file ≡ Ok (s, on_disk) → IsStoreOf s st file
      → ArePlayed b s st.tree on_disk.tree steps (record { answers = []; store = st; bytes = file; fault = fault })
  stopped st on_disk file steps fault read is = record { replies = refl; holds = refl; disk = (with_ends s st on_disk file read is.step).1; store = is }

  -- the steps that are played from a store on
  abbrev PlaysOn : List (Step A) → Type 0
  PlaysOn xs = (st on_disk : Store) (file : List ℕ) → store_of_disk file ≡ Ok (s, on_disk) → IsStoreOf s st file → AllNumbersFit b s st file xs
      → ArePlayed b s st.tree on_disk.tree xs (plays b s st file xs)

  -- the numbers of this step and of those after it
  abbrev WordsOn : Store → List (Step A) → Step A → Stepped A → Type 0
  WordsOn st xs x r = here_and_on r (NumbersFit b s st x) (λ now bytes. AllNumbersFit b s now bytes xs)

  module _ (st on_disk : Store) (file : List ℕ) (xs : List (Step A)) (read : store_of_disk file ≡ Ok (s, on_disk)) (is : IsStoreOf s st file) (on : PlaysOn xs) where
    batch_on : (cs : List (Command A)) (o : Option Fault) → b.refusal st.tree cs ≡ o
        → (let r = unless_refused o (Replies (replies_to (contents st.tree) cs)) (with_tree st (b.planned st.tree cs)) file in
        let p : Played A = played_on st file r (λ now bytes. plays b s now bytes xs) in
        WordsOn st xs (Batch cs) r → ArePlayed b s st.tree on_disk.tree (Batch cs ∷ xs) p)
    batch_on cs (Some fault) e words = stopped st on_disk file (Batch cs ∷ xs) (Some fault) read is
    batch_on cs None e words =
        let now : Store = with_tree st (b.planned st.tree cs) in
        let (map_is, store) = keeps st file cs is e words.0 in
        let later = on now on_disk file read store words.1 in
        let more : List (Command A) = flat (batches_among (take (length (plays b s now file xs).answers) xs)) in
        record {
          replies = ap (λ (rs : List (Reply A)). replies_to (contents st.tree) cs ++ rs) (later.replies ∙ ap (λ (m : List (List ℕ × List ℕ)). replies_to m more) map_is)
              ∙ sym (replies_to-append (contents st.tree) cs more);
          holds = later.holds ∙ ap (λ (m : List (List ℕ × List ℕ)). map_after_all m more) map_is ∙ sym (map_after_all-append (contents st.tree) cs more);
          disk = later.disk;
          store = later.store;
        }

    -- from the store after a flush or an upgrade on
    further : (now : Store) (bytes : List ℕ) → (store_of_disk bytes ≡ Ok (s, now)) × IsStoreOf s now bytes → now.tree ≡ flushed st.tree → AllNumbersFit b s now bytes xs
        → ArePlayed b s (flushed st.tree) (flushed st.tree) xs (plays b s now bytes xs)
    further now bytes (here, store) same words = subst (λ (t : Tree). ArePlayed b s t t xs (plays b s now bytes xs)) same (on now now bytes here store words)

    flush_on : (r : Result (Store × List ℕ) Fault) → after_flush s st file ≡ r
        → (let u : Stepped A = and_then r (λ q. Ok (Flushed q.0.sequence, q)) in
        let p : Played A = played_on st file u (λ now bytes. plays b s now bytes xs) in
        WordsOn st xs Flush u → ArePlayed b s st.tree on_disk.tree (Flush ∷ xs) p)
    flush_on (Err fault) e words = stopped st on_disk file (Flush ∷ xs) (Some fault) read is
    flush_on (Ok q) e words =
        let shown = further q.0 q.1 (flush-read_back s st file is words.0 q.0 q.1 e) (flushed-tree s st q.0 file q.1 is.is e) words.1 in
        record { replies = shown.replies; holds = shown.holds; disk = shown.disk; store = shown.store }

    upgrade_on : (r : Result (Store × List ℕ) Fault) → after_upgrade s st file ≡ r
        → (let u : Stepped A = and_then r (λ q. Ok (Upgraded q.0.sequence, q)) in
        let p : Played A = played_on st file u (λ now bytes. plays b s now bytes xs) in
        WordsOn st xs Upgrade u → ArePlayed b s st.tree on_disk.tree (Upgrade ∷ xs) p)
    upgrade_on (Err fault) e words = stopped st on_disk file (Upgrade ∷ xs) (Some fault) read is
    upgrade_on (Ok q) e words =
        let shown = further q.0 q.1 (upgrade-read_back s st q.0 file q.1 e is words.0) (upgraded-tree s st q.0 file q.1 e is.is) words.1 in
        record { replies = shown.replies; holds = shown.holds; disk = shown.disk; store = shown.store }

    clean_on : (r : Result (Store × List ℕ) Fault) → after_clean s st file ≡ r
        → (let u : Stepped A = and_then r (λ q. Ok (Cleaned q.0.head, q)) in
        let p : Played A = played_on st file u (λ now bytes. plays b s now bytes xs) in
        WordsOn st xs Clean u → ArePlayed b s st.tree on_disk.tree (Clean ∷ xs) p)
    clean_on (Err fault) e words = stopped st on_disk file (Clean ∷ xs) (Some fault) read is
    clean_on (Ok q) e words =
        let now : Store = q.0 in
        let bytes : List ℕ = q.1 in
        let (here, step) = clean-back s st on_disk file read (with_ends s st on_disk file read is.step).0 now bytes e in
        let same : now.tree ≡ st.tree = cleaned-tree s st now file bytes e in
        let store : IsStoreOf s now bytes = clean-in_step s st now file bytes is e in
        let later = on now (with_tree now on_disk.tree) bytes here store words.1 in
        let shown : ArePlayed b s st.tree on_disk.tree xs (plays b s now bytes xs) = subst (λ (t : Tree). ArePlayed b s t on_disk.tree xs (plays b s now bytes xs)) same later in
        record { replies = shown.replies; holds = shown.holds; disk = shown.disk; store = shown.store }

  pub steps-played : (steps : List (Step A)) → PlaysOn steps
  steps-played [] st on_disk file read is words = stopped st on_disk file [] None read is
  steps-played (Batch cs ∷ xs) st on_disk file read is words = batch_on st on_disk file xs read is (λ now there bytes r i w. steps-played xs now there bytes r i w) cs (b.refusal st.tree cs) refl words
  steps-played (Flush ∷ xs) st on_disk file read is words = flush_on st on_disk file xs read is (λ now there bytes r i w. steps-played xs now there bytes r i w) (after_flush s st file) refl words
  steps-played (Clean ∷ xs) st on_disk file read is words = clean_on st on_disk file xs read is (λ now there bytes r i w. steps-played xs now there bytes r i w) (after_clean s st file) refl words
  steps-played (Upgrade ∷ xs) st on_disk file read is words = upgrade_on st on_disk file xs read is (λ now there bytes r i w. steps-played xs now there bytes r i w) (after_upgrade s st file) refl words
