-- Steps of a store on its disk: batches, flushes, cleans and upgrades, one after the other, over the store and the bytes of its disk.
use Rattle.std.specs.Prelude.{◌≡◌, ◌⊎◌, ℕ, ◌^◌, ◌<◌, ◌≤◌, ⊤, List, [], ◌∷◌, ◌++◌, length, take, Option, Some, None, Result, Ok, Err}
use Rattle.keys.specs.Bytes.{Bytes}
use Rattle.keys.specs.Lists.{flat}
use Rattle.keys.specs.Step.{replies_to, map_after_all}
use Rattle.keys.specs.declared.command.Command.{Command}
use Rattle.keys.specs.declared.command.Reply.{Reply}
use Rattle.keys.specs.declared.fault.Fault.{Fault}
use Rattle.keys.specs.declared.settings.Settings.{Settings}
use Rattle.mapping.specs.Levels.{contents}
use Rattle.mapping.specs.Tree.{Tree, Store, with_tree}
use Rattle.flush_log.specs.AfterFlush.{after_flush, after_upgrade, flush_calls, upgrade_calls}
use Rattle.flush_log.specs.Commit.{Call, LeftDuring}
use Rattle.flush_log.specs.FlushText.{HasFrames, flushed}
use Rattle.flush_log.specs.declared.text.CommitKind.TheVariants as texts
use Rattle.recovery.specs.InStep.{IsStoreOf}
use Rattle.recovery.specs.StoreOfDisk.{and_then, store_of_disk}
use Rattle.climb_plan.specs.Plan.{planned_tree}
use Rattle.cleaner.specs.AfterClean.{after_clean, clean_calls}
use Rattle.engine.specs.Batch.{refusal_by}

-- ---- steps and answers

pub data Step (A : Type 0) : Type 0 where
  Batch : List (Command A) → Step A
  Flush : Step A
  Clean : Step A
  Upgrade : Step A

-- the replies to a batch; after a flush or an upgrade the sequence number; after a clean the head segment
pub data Answer (A : Type 0) : Type 0 where
  Replies : List (Reply A) → Answer A
  Flushed : ℕ → Answer A
  Cleaned : ℕ → Answer A
  Upgraded : ℕ → Answer A

-- the effect of batches on a tree: why one is refused, or else the tree after it
pub record Batching (A : Type 0) : Type 0 where
  pub refusal : Tree → List (Command A) → Option Fault
  pub planned : Tree → List (Command A) → Tree

-- their effect under these settings
abbrev pub batching : {A : Type 0} → Settings → Batching A
batching s = record { refusal = λ t cs. refusal_by s t cs; planned = λ t cs. planned_tree s t cs }

-- ---- their effects

-- the answer to a step, with the store and the bytes of its disk afterwards; or why it is refused
abbrev pub Stepped : Type 0 → Type 0
Stepped A = Result (Answer A × (Store × Bytes)) Fault

abbrev pub unless_refused : {A : Type 0} → Option Fault → Answer A → Store → Bytes → Stepped A
unless_refused None answer st file = Ok (answer, (st, file))
unless_refused (Some fault) answer st file = Err fault

abbrev pub after_step : {A : Type 0} → Batching A → Settings → Store → Bytes → Step A → Stepped A
after_step b s st file (Batch cs) =
    unless_refused (b.refusal st.tree cs) (Replies (replies_to (contents st.tree) cs)) (with_tree st (b.planned st.tree cs)) file
after_step b s st file Flush = and_then (after_flush s st file) (λ p. Ok (Flushed p.0.sequence, p))
after_step b s st file Clean = and_then (after_clean s st file) (λ p. Ok (Cleaned p.0.head, p))
after_step b s st file Upgrade = and_then (after_upgrade s st file) (λ p. Ok (Upgraded p.0.sequence, p))

-- the answers to steps up to the first one that is refused, the store and the bytes afterwards, and why that step was refused
pub record Played (A : Type 0) : Type 0 where
  pub answers : List (Answer A)
  pub store : Store
  pub bytes : Bytes
  pub fault : Option Fault

-- the same after another answer
abbrev pub after_answer : {A : Type 0} → Answer A → Played A → Played A
after_answer a p = record { answers = a ∷ p.answers; store = p.store; bytes = p.bytes; fault = p.fault }

-- a play that continues after a step; if the step was refused, nothing more is played, and the store and the bytes are unchanged
abbrev pub played_on : {A : Type 0} → Store → Bytes → Stepped A → (Store → Bytes → Played A) → Played A
played_on st file (Ok p) next = after_answer p.0 (next p.1.0 p.1.1)
played_on st file (Err fault) next = record { answers = []; store = st; bytes = file; fault = Some fault }

-- the steps, played on a store and the bytes of its disk
abbrev pub plays : {A : Type 0} → Batching A → Settings → Store → Bytes → List (Step A) → Played A
plays b s st file [] = record { answers = []; store = st; bytes = file; fault = None }
plays b s st file (x ∷ xs) = played_on st file (after_step b s st file x) (λ now bytes. plays b s now bytes xs)

-- a play followed by another one, which does not count if a step of the first was refused
abbrev pub with_later : {A : Type 0} → Option Fault → Played A → Played A → Played A
with_later None p q = record { answers = p.answers ++ q.answers; store = q.store; bytes = q.bytes; fault = q.fault }
with_later (Some fault) p q = p

-- more steps, played after a play
abbrev pub plays_further : {A : Type 0} → Batching A → Settings → Played A → List (Step A) → Played A
plays_further b s p xs = with_later p.fault p (plays b s p.store p.bytes xs)

-- ---- their combined effect

-- the batches among steps, and the replies among answers
abbrev pub batches_among : {A : Type 0} → List (Step A) → List (List (Command A))
batches_among [] = []
batches_among (Batch cs ∷ xs) = cs ∷ batches_among xs
batches_among (Flush ∷ xs) = batches_among xs
batches_among (Clean ∷ xs) = batches_among xs
batches_among (Upgrade ∷ xs) = batches_among xs

abbrev pub replies_among : {A : Type 0} → List (Answer A) → List (List (Reply A))
replies_among [] = []
replies_among (Replies rs ∷ answers) = rs ∷ replies_among answers
replies_among (Flushed n ∷ answers) = replies_among answers
replies_among (Cleaned n ∷ answers) = replies_among answers
replies_among (Upgraded n ∷ answers) = replies_among answers

-- the tree that the last flush or upgrade of these steps wrote, or the one that was written before them
abbrev pub last_written : {A : Type 0} → Batching A → Tree → Tree → List (Step A) → Tree
last_written b written now [] = written
last_written b written now (Batch cs ∷ xs) = last_written b written (b.planned now cs) xs
last_written b written now (Flush ∷ xs) = last_written b (flushed now) (flushed now) xs
last_written b written now (Clean ∷ xs) = last_written b written now xs
last_written b written now (Upgrade ∷ xs) = last_written b (flushed now) (flushed now) xs

-- ---- the requirement on their numbers

-- a step's numbers have 64 bits, as all have in memory: those of a flush's or an upgrade's frames, and the root's page id after a batch
abbrev pub NumbersFit : {A : Type 0} → Batching A → Settings → Store → Step A → Type 0
NumbersFit b s st (Batch cs) = (b.planned st.tree cs).root < 2 ^ 64
NumbersFit b s st Flush = HasFrames s (texts.Flush st.version) st.tree
NumbersFit b s st Clean = ⊤
NumbersFit b s st Upgrade = HasFrames s texts.Upgrade st.tree

-- a property of a step, and of the steps after it; nothing if the step is refused
abbrev pub here_and_on : {A : Type 0} → Stepped A → Type 0 → (Store → Bytes → Type 0) → Type 0
here_and_on (Ok p) here next = here × next p.1.0 p.1.1
here_and_on (Err fault) here next = ⊤

-- the numbers of the steps that are played have 64 bits
abbrev pub AllNumbersFit : {A : Type 0} → Batching A → Settings → Store → Bytes → List (Step A) → Type 0
AllNumbersFit b s st file [] = ⊤
AllNumbersFit b s st file (x ∷ xs) = here_and_on (after_step b s st file x) (NumbersFit b s st x) (λ now bytes. AllNumbersFit b s now bytes xs)

-- ---- what a crash leaves

-- the disk calls of a step that is not refused
abbrev pub step_calls : {A : Type 0} → Settings → Store → Bytes → Step A → List Call
step_calls s st file (Batch cs) = []
step_calls s st file Flush = flush_calls s st file
step_calls s st file Clean = clean_calls s st file
step_calls s st file Upgrade = upgrade_calls s st file

-- what a crash leaves during these calls, or later; a step that is refused makes no calls
abbrev pub left_on : {A : Type 0} → Stepped A → List Call → Bytes → Bytes → (Store → Bytes → Type 0) → Type 0
left_on (Ok p) calls file c next = LeftDuring calls file c ⊎ next p.1.0 p.1.1
left_on (Err fault) calls file c next = c ≡ file

-- what a crash at some moment of a play may leave of a synced disk: an outcome of a crash during the calls of some step
abbrev pub LeftInPlay : {A : Type 0} → Batching A → Settings → Store → Bytes → List (Step A) → Bytes → Type 0
LeftInPlay b s st file [] c = c ≡ file
LeftInPlay b s st file (x ∷ xs) c =
    left_on (after_step b s st file x) (step_calls s st file x) file c (λ now bytes. LeftInPlay b s now bytes xs c)

-- the disk encodes the same store as after the first n of these steps, where n is at most the number of steps that are played
abbrev pub StandsAfterSome : {A : Type 0} → Batching A → Settings → Store → Bytes → List (Step A) → Bytes → Type 0
StandsAfterSome b s st file steps c =
    (n : ℕ) × (n ≤ length (plays b s st file steps).answers)
    × (store_of_disk c ≡ store_of_disk (plays b s st file (take n steps)).bytes)

-- ---- what is promised of them

-- a batch that is not refused changes the contents of a store as its commands do, and leaves the store in step with its disk
abbrev pub KeepsStores : {A : Type 0} → Settings → Batching A → Type 0
KeepsStores {A} s b = (st : Store) (file : Bytes) (cs : List (Command A)) → IsStoreOf s st file → b.refusal st.tree cs ≡ None →
    (b.planned st.tree cs).root < 2 ^ 64 →
    (contents (b.planned st.tree cs) ≡ map_after_all (contents st.tree) cs) × IsStoreOf s (with_tree st (b.planned st.tree cs)) file

-- The result of playing steps on a store with this tree, whose disk encoded a store with the tree `written`: the replies are those of an ordered map
-- that executes all the commands one by one, and the store has the contents of that map; the disk encodes the tree of the last flush or upgrade, or
-- if there was none, the tree `written`, with the present head, tail, number and version.
pub record ArePlayed {A : Type 0} (b : Batching A) (s : Settings) (now written : Tree) (steps : List (Step A)) (p : Played A) : Type 0 where
  pub replies : flat (replies_among p.answers) ≡ replies_to (contents now) (flat (batches_among (take (length p.answers) steps)))
  pub holds : contents p.store.tree ≡ map_after_all (contents now) (flat (batches_among (take (length p.answers) steps)))
  pub disk : store_of_disk p.bytes ≡ Ok (s, with_tree p.store (last_written b written now (take (length p.answers) steps)))
  pub store : IsStoreOf s p.store p.bytes
