-- A flush that cleans, in terms of the claim.
use Rattle.std.specs.Prelude.{◌≡◌, ◌≢◌, ◌⊎◌, ℕ, zero, suc, ◌≤◌, Bool, IsTrue, false, List, [], ◌∷◌, ◌++◌, length, take, Option, Some, None, Result, Ok, Err, IfOk, IfErr}
use Rattle.std.proofs.Common.{refl, sym, ap, ◌∙◌, subst, inl, inr, arith}
use Rattle.std.proofs.lemmas.List.{take_all}
use Rattle.std.specs.declared.alloc.Global.{Global}
use Rattle.keys.specs.Bytes.{Bytes, Pairs}
use Rattle.keys.specs.declared.fault.Fault.{Fault}
use Rattle.keys.specs.declared.fault.Fault.TheVariants.{Device}
use Rattle.keys.specs.declared.settings.Settings.{Settings}
use Rattle.mapping.specs.Levels.{contents}
use Rattle.mapping.specs.Tree.{Store, Tree}
use Rattle.flush_log.specs.Disk.{View, Lawful}
use Rattle.flush_log.specs.FlushText.{flushed}
use Rattle.flush_log.proofs.SameLemmas.{leaves_itself}
use Rattle.flush_log.proofs.ViewLemmas.{weaker}
use Rattle.recovery.specs.InStep.{IsStoreOf}
use Rattle.recovery.specs.StoreOfDisk.{store_of_disk}
use Rattle.engine.specs.Claim.{Held, RecoversEither}
use Rattle.engine.specs.ClaimFlush.{MakesDurable}
use Rattle.engine.specs.Cleaning.{IsFlushedCleaning, IsStart, IsStop, IsStoppedCleaning, count_of}
use Rattle.engine.specs.Cleans.{cleans}
use Rattle.engine.specs.State.{State, IsSound}
use Rattle.engine.specs.StoreClaim.{held_in, recovered_from}
use Rattle.engine.specs.Steps.{AllNumbersFit, ArePlayed, Batching, NumbersFit, Played, StandsAfterSome, Step, Stepped, after_step, batching, here_and_on, last_written, played_on, plays}
use Rattle.engine.specs.Steps.Step.{Clean, Flush}
use Rattle.engine.proofs.PlayLemmas.{words-append}
use Rattle.engine.proofs.PlayTurn.{device_or_not}

-- ---- cleans, and one step more

-- the first of them
take_some : (k n : ℕ) (x : Step Global) → ((j : ℕ) × (take n (cleans k ++ x ∷ []) ≡ cleans j)) ⊎ (take n (cleans k ++ x ∷ []) ≡ cleans k ++ x ∷ [])
take_some zero zero x = inl (0, refl)
take_some zero (suc n) x = inr (take_all (suc n) (x ∷ []) (omega arith))
take_some (suc k) zero x = inl (0, refl)
take_some (suc k) (suc n) x = elim (take_some k n x) [
  | inl (j, e) ↦ inl (suc j, ap (λ (xs : List (Step Global)). Clean ∷ xs) e)
  | inr e ↦ inr (ap (λ (xs : List (Step Global)). Clean ∷ xs) e)
]

module _ (b : Batching Global) (written now : Tree) where
  few_cleans : (n m : ℕ) → last_written b written now (take m (cleans n)) ≡ written
  few_cleans zero zero = refl
  few_cleans zero (suc m) = refl
  few_cleans (suc n) zero = refl
  few_cleans (suc n) (suc m) = few_cleans n m

  clean_more : (k : ℕ) → last_written b written now (cleans k ++ Clean ∷ []) ≡ written
  clean_more zero = refl
  clean_more (suc k) = clean_more k

  flush_more : (k : ℕ) → last_written b written now (cleans k ++ Flush ∷ []) ≡ flushed now
  flush_more zero = refl
  flush_more (suc k) = flush_more k

  -- whether the last step is a flush or a clean
  abbrev IsFlushOrClean : Step Global → Type 0
  IsFlushOrClean x = (x ≡ Flush) ⊎ (x ≡ Clean)

  all_more : (k : ℕ) (x : Step Global) → IsFlushOrClean x → (last_written b written now (cleans k ++ x ∷ []) ≡ written) ⊎ (last_written b written now (cleans k ++ x ∷ []) ≡ flushed now)
  all_more k x (inl is) = inr (ap (λ (y : Step Global). last_written b written now (cleans k ++ y ∷ [])) is ∙ flush_more k)
  all_more k x (inr is) = inl (ap (λ (y : Step Global). last_written b written now (cleans k ++ y ∷ [])) is ∙ clean_more k)

  some_more : (k m : ℕ) (x : Step Global) → IsFlushOrClean x
      → (last_written b written now (take m (cleans k ++ x ∷ [])) ≡ written) ⊎ (last_written b written now (take m (cleans k ++ x ∷ [])) ≡ flushed now)
  some_more k m x is = elim (take_some k m x) [
    | inl (j, e) ↦ inl (ap (λ (xs : List (Step Global)). last_written b written now xs) (e ∙ sym (take_all j (cleans j) (few j))) ∙ few_cleans j j)
    | inr e ↦ elim (all_more k x is) [
      | inl before ↦ inl (ap (λ (xs : List (Step Global)). last_written b written now xs) e ∙ before)
      | inr after ↦ inr (ap (λ (xs : List (Step Global)). last_written b written now xs) e ∙ after)
    ]
  ] where
    few : (n : ℕ) → length (cleans n) ≤ n
    few zero = omega arith
    few (suc n) = (let h = few n in omega (arith, h))

module _ (b : Batching Global) (s : Settings) where
  -- ---- how many steps are played

  all_by : (st : Store) (file : Bytes) (r : Stepped Global) (xs : List (Step Global)) → ((now : Store) (bytes : Bytes) → (plays b s now bytes xs).fault ≡ None → length (plays b s now bytes xs).answers ≡ length xs)
      → (let p : Played Global = played_on st file r (λ now bytes. plays b s now bytes xs) in p.fault ≡ None → length p.answers ≡ suc (length xs))
  all_by st file (Err fault) xs ih none = absurd (cc)
  all_by st file (Ok q) xs ih none = ap (λ (n : ℕ). suc n) (ih q.1.0 q.1.1 none)

  all_played : (st : Store) (file : Bytes) (xs : List (Step Global)) → (plays b s st file xs).fault ≡ None → length (plays b s st file xs).answers ≡ length xs
  all_played st file [] none = refl
  all_played st file (x ∷ xs) none = all_by st file (after_step b s st file x) xs (λ now bytes. all_played now bytes xs) none

  -- ---- their numbers

  words_by : (here : Type 0) → here → (n : ℕ) (r : Stepped Global) → ((now : Store) (bytes : Bytes) → AllNumbersFit b s now bytes (cleans n)) → here_and_on r here (λ now bytes. AllNumbersFit b s now bytes (cleans n))
  words_by here fits n (Ok q) ih = (fits, ih q.1.0 q.1.1)
  words_by here fits n (Err fault) ih = tt

  cleans_fit : (n : ℕ) (st : Store) (file : Bytes) → AllNumbersFit b s st file (cleans n)
  cleans_fit zero st file = tt
  cleans_fit (suc n) st file = words_by (NumbersFit b s st Clean) tt n (after_step b s st file Clean) (λ now bytes. cleans_fit n now bytes)

  last_by : (here : Type 0) → here → (r : Stepped Global) → here_and_on r here (λ now bytes. AllNumbersFit b s now bytes [])
  last_by here fits (Ok q) = (fits, tt)
  last_by here fits (Err fault) = tt

  more_fits : (k : ℕ) (x : Step Global) (st : Store) (file : Bytes) → NumbersFit b s (plays b s st file (cleans k)).store x → AllNumbersFit b s st file (cleans k ++ x ∷ [])
  more_fits k x st file fits =
      words-append b s st file (cleans k) (x ∷ []) (cleans_fit k st file)
      (λ _. last_by (NumbersFit b s (plays b s st file (cleans k)).store x) fits (after_step b s (plays b s st file (cleans k)).store (plays b s st file (cleans k)).bytes x))

-- ---- what the disk encodes

abbrev held : Settings → Pairs Bytes → Option Held
held s m = Some (s, m)

module _ (s : Settings) (st on_disk : Store) (file : Bytes) (read : store_of_disk file ≡ Ok (s, on_disk))
    (law : (xs : List (Step Global)) → AllNumbersFit (batching s) s st file xs → ArePlayed (batching s) s st.tree on_disk.tree xs (plays (batching s) s st file xs)) where
  abbrev after : List (Step Global) → Played Global
  after xs = plays (batching s) s st file xs

  abbrev tree_of_log : List (Step Global) → Tree
  tree_of_log xs = last_written (batching s) on_disk.tree st.tree xs

  before : recovered_from file ≡ held s (contents on_disk.tree)
  before = ap held_in read

  by_tree : (t u : Tree) → t ≡ u → held s (contents t) ≡ held s (contents u)
  by_tree t u e = ap (λ (x : Tree). held s (contents x)) e

  encoded : (xs : List (Step Global)) → AllNumbersFit (batching s) s st file xs → recovered_from (after xs).bytes ≡ held s (contents (tree_of_log (take (length (after xs).answers) xs)))
  encoded xs fit = ap held_in (law xs fit).disk

  pub after_cleans : (n : ℕ) → recovered_from (after (cleans n)).bytes ≡ recovered_from file
  after_cleans n =
      encoded (cleans n) (cleans_fit (batching s) s n st file)
      ∙ by_tree _ on_disk.tree (few_cleans (batching s) on_disk.tree st.tree n (length (after (cleans n)).answers)) ∙ sym before

  pub after_flush : (k : ℕ) → AllNumbersFit (batching s) s st file (cleans k ++ Flush ∷ []) → (after (cleans k ++ Flush ∷ [])).fault ≡ None
      → recovered_from (after (cleans k ++ Flush ∷ [])).bytes ≡ held s (contents st.tree)
  after_flush k fit none =
      let many = all_played (batching s) s st file (cleans k ++ Flush ∷ []) none in
      encoded (cleans k ++ Flush ∷ []) fit
      ∙ by_tree _ (flushed st.tree)
      (ap (λ (xs : List (Step Global)). tree_of_log xs) (take_all (length (after (cleans k ++ Flush ∷ [])).answers) (cleans k ++ Flush ∷ []) (omega (arith, many))) ∙ flush_more (batching s) on_disk.tree st.tree k)

  abbrev Left : Bytes → Type 0
  Left c = RecoversEither recovered_from (recovered_from file) (held s (contents st.tree)) c

  left_by : (xs : List (Step Global)) (c : Bytes) → AllNumbersFit (batching s) s st file xs → store_of_disk c ≡ store_of_disk (after xs).bytes
      → (let t = tree_of_log (take (length (after xs).answers) xs) in (t ≡ on_disk.tree) ⊎ (t ≡ flushed st.tree)) → Left c
  left_by xs c fit same (inl is) = inl (ap held_in same ∙ encoded xs fit ∙ by_tree _ on_disk.tree is ∙ sym before)
  left_by xs c fit same (inr is) = inr (ap held_in same ∙ encoded xs fit ∙ by_tree _ (flushed st.tree) is)

  pub left_after_cleans : (n : ℕ) (c : Bytes) → StandsAfterSome (batching s) s st file (cleans n) c → Left c
  left_after_cleans n c (m, few, same) = inl (ap held_in same ∙ some_cleans n m)
    where
      some : (n m : ℕ) → (j : ℕ) × (take m (cleans n) ≡ cleans j)
      some n zero = (0, refl)
      some zero (suc m) = (0, refl)
      some (suc n) (suc m) = (let (j, e) = some n m in (suc j, ap (λ (xs : List (Step Global)). Clean ∷ xs) e))

      some_cleans : (n m : ℕ) → recovered_from (after (take m (cleans n))).bytes ≡ recovered_from file
      some_cleans n m = (let (j, e) = some n m in ap (λ (xs : List (Step Global)). recovered_from (after xs).bytes) e ∙ after_cleans j)

  pub left_after : (k : ℕ) (x : Step Global) → (x ≡ Flush) ⊎ (x ≡ Clean) → AllNumbersFit (batching s) s st file (cleans k ++ x ∷ []) → (c : Bytes)
      → StandsAfterSome (batching s) s st file (cleans k ++ x ∷ []) c → Left c
  left_after k x is fit c (n, few, same) = elim (take_some k n x) [
    | inl (j, e) ↦ inl (ap held_in same ∙ ap (λ (xs : List (Step Global)). recovered_from (after xs).bytes) e ∙ after_cleans j)
    | inr e ↦ left_by (cleans k ++ x ∷ []) c fit (same ∙ ap (λ (xs : List (Step Global)). store_of_disk (after xs).bytes) e)
        (some_more (batching s) on_disk.tree st.tree k (length (after (cleans k ++ x ∷ [])).answers) x is)
  ]

-- ---- the call

module _ {D : Type 0} (view : D → View)
    (law : (s : Settings) (st on_disk : Store) (file : Bytes) (xs : List (Step Global)) → IsStoreOf s st file → store_of_disk file ≡ Ok (s, on_disk)
    → AllNumbersFit (batching s) s st file xs → ArePlayed (batching s) s st.tree on_disk.tree xs (plays (batching s) s st file xs))
    (start : State D) (sound : IsSound view start) (fine : start.has_failed ≡ false) where
  abbrev seen : Bytes
  seen = (view start.disk).seen

  module _ (honest : IsTrue (view start.disk).is_honest) where
    -- the store that the disk encodes
    abbrev on_disk : Store
    on_disk = (sound.step fine honest).0

    read : store_of_disk seen ≡ Ok (start.settings, on_disk)
    read = (sound.step fine honest).1

    here : (xs : List (Step Global)) → AllNumbersFit (batching start.settings) start.settings start.store seen xs
        → ArePlayed (batching start.settings) start.settings start.store.tree on_disk.tree xs (plays (batching start.settings) start.settings start.store seen xs)
    here xs fit = law start.settings start.store on_disk seen xs (record { is = sound.is; step = sound.step fine honest }) read fit

  module _ (failures : D → ℕ) (now : State D) where
    abbrev Durable : Result ℕ Fault → Type 0
    Durable r = MakesDurable view start.settings (contents start.store.tree) start.disk start.has_failed r now

    flushed_durable : (n : ℕ) → IsFlushedCleaning view failures start now → Durable (Ok n)
    flushed_durable n done =
        let k = count_of done.rows in
        record {
          rest = (done.turn.settings, done.turn.kept);
          fails = done.turn.has_failed;
          durable = λ honest. ap recovered_from (done.turn.bytes honest)
              ∙ after_flush start.settings start.store (on_disk honest) seen (read honest) (here honest) k (done.turn.words honest) (done.turn.exact honest).unrefused;
          unwritten = λ _ _. tt;
          is_synced = λ _ was. done.turn.is_synced was;
          crash = λ _ was. weaker (view start.disk) (view now.disk) _ _
              (λ c stands. left_after start.settings start.store (on_disk was.honest) seen (read was.honest) (here was.honest) k Flush (inl refl) (done.turn.words was.honest) c stands)
              (done.turn.crash fine was);
        }

    -- the step that failed is a flush or a clean
    which : (s : Settings) (st : Store) (file : Bytes) (old new count : ℕ) (x : Step Global) (fault : Fault) → IsStop s st file old new count x fault → (x ≡ Flush) ⊎ (x ≡ Clean)
    which s st file old new count x fault (inl flush) = inl flush.0
    which s st file old new count x fault (inr clean) = inr clean.0

    stopped_durable : (fault : Fault) → IsStoppedCleaning view failures start now fault → Durable (Err fault)
    stopped_durable fault stopped =
        let k = count_of stopped.rows in
        let (file, shown, stop) = stopped.why in
        record {
          rest = stopped.rest;
          fails = (stopped.device, λ other. (stopped.turn other).has_failed);
          durable = λ _. tt;
          unwritten = λ _ honest other. ap recovered_from ((stopped.turn other).bytes honest)
              ∙ after_cleans start.settings start.store (on_disk honest) seen (read honest) (here honest) k;
          is_synced = λ _ was other. (stopped.turn other).is_synced was;
          crash = λ _ was. elim (device_or_not fault) [
            | inl device ↦ weaker (view start.disk) (view now.disk) _ _
                (λ c stands. left_after start.settings start.store (on_disk was.honest) seen (read was.honest) (here was.honest) k stopped.step
                (which start.settings now.store file (failures start.disk) (failures now.disk) k stopped.step fault stop)
                (more_fits (batching start.settings) start.settings k stopped.step start.store seen
                (subst (λ (st : Store). NumbersFit {A = Global} (batching start.settings) start.settings st stopped.step) (stopped.exact was.honest).store (stopped.words device))) c stands)
                (stopped.crash fine was)
            | inr other ↦ weaker (view start.disk) (view now.disk) _ _
                (λ c stands. left_after_cleans start.settings start.store (on_disk was.honest) seen (read was.honest) (here was.honest) k c stands)
                ((stopped.turn other.0).crash fine was)
          ];
        }

    pub cleaning_durable : (r : Result ℕ Fault) → IfOk r (λ _. IsFlushedCleaning view failures start now) → IfErr r (IsStoppedCleaning view failures start now) → Durable r
    cleaning_durable (Ok n) done stopped = flushed_durable n done
    cleaning_durable (Err fault) done stopped = stopped_durable fault stopped

-- the same of the store before it was compacted
pub durable_from : {D : Type 0} (view : D → View) (old start now : State D) (r : Result ℕ Fault) → IsStart old start
    → MakesDurable view start.settings (contents start.store.tree) start.disk start.has_failed r now → MakesDurable view old.settings (contents old.store.tree) old.disk old.has_failed r now
durable_from {D = D} view old start now r (inl same) durable =
    subst (λ (x : State D). MakesDurable view x.settings (contents x.store.tree) x.disk x.has_failed r now) same durable
durable_from {D = D} view old start now r (inr is) durable =
    let (due, full, bloated, compacted, settings, disk, failed) = is in
    subst (λ (b : Bool). MakesDurable view old.settings (contents old.store.tree) old.disk b r now) failed
    (subst (λ (d : D). MakesDurable view old.settings (contents old.store.tree) d start.has_failed r now) disk
    (subst (λ (m : Pairs Bytes). MakesDurable view old.settings m start.disk start.has_failed r now) compacted.holds
    (subst (λ (s : Settings). MakesDurable view s (contents start.store.tree) start.disk start.has_failed r now) settings durable)))

-- it has not failed
pub still_fine : {D : Type 0} (old start : State D) → IsStart old start → old.has_failed ≡ false → start.has_failed ≡ false
still_fine {D = D} old start (inl same) fine = ap (λ (x : State D). x.has_failed) same ∙ fine
still_fine old start (inr is) fine = (let (due, full, bloated, compacted, settings, disk, failed) = is in failed ∙ fine)

-- a call that is refused, and that changes nothing
pub nothing_durable : {D : Type 0} (view : D → View) (lawful : (disk : D) → IsTrue (view disk).is_honest → Lawful (view disk)) (x : State D) (fault : Fault) → fault ≢ Device
    → MakesDurable {X = ℕ} view x.settings (contents x.store.tree) x.disk x.has_failed (Err fault) x
nothing_durable view lawful x fault other = record {
  rest = (refl, record { honest = refl; size = refl });
  fails = ((λ device. absurd (other device)), λ _. refl);
  durable = λ _. tt;
  unwritten = λ _ _ _. refl;
  is_synced = λ _ was _. was;
  crash = λ _ was. leaves_itself (view x.disk) _ (lawful x.disk was.honest) was (inl refl);
}
