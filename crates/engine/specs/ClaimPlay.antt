-- Plays of steps on a store that implements `OrderedStore`: the answers and the effects of the steps, in terms of the trait.
use Rattle.std.specs.Prelude.{◌≡◌, ◌≢◌, ◌⊎◌, ℕ, ◌≤◌, Bool, IsTrue, true, List, [], ◌∷◌, ◌++◌, length, take, Option, Some, None}
use Rattle.std.specs.declared.alloc.Global.{Global}
use Rattle.keys.specs.Bytes.{Bytes, Pairs}
use Rattle.keys.specs.Step.{replies_to, map_after_all}
use Rattle.keys.specs.declared.command.Command.{Command}
use Rattle.keys.specs.declared.fault.Fault.{Fault}
use Rattle.keys.specs.declared.fault.Fault.TheVariants.{Device, Failed, NoMemory}
use Rattle.keys.specs.declared.settings.Settings.{Settings}
use Rattle.flush_log.specs.Disk.{View, IsSynced, Kept, LeavesOnly}
use Rattle.engine.specs.Batches.{map_in_turn}
use Rattle.engine.specs.Claim.{Held}
use Rattle.engine.specs.Steps.{Step, Answer, batches_among}
use Rattle.engine.specs.Steps.Step.{Batch, Flush, Clean, Upgrade}
use Rattle.engine.specs.Steps.Answer.{Replies, Flushed, Cleaned, Upgraded}

-- ---- a store, as the trait sees it

-- the ghost members of one store, and its disk; the state is plain data of any type
pub record Members (State : Type 0) : Type 1 where
  pub contents : Pairs Bytes
  pub settings : Settings
  pub has_failed : Bool
  pub state : State
  pub disk : View

-- the members of a store, by the functions that an implementation chose
abbrev pub members_of : {X D State : Type 0} → (X → Pairs Bytes) → (X → Settings) → (X → Bool) → (X → State) → (X → D) → (D → View) → X → Members State
members_of contents settings has_failed state disk_of view x =
    record { contents = contents x; settings = settings x; has_failed = has_failed x; state = state x; disk = view (disk_of x) }

-- the effect of the calls on a state, and on the bytes of its disk, and the numbers that they return
pub record StateCalls (State : Type 0) : Type 0 where
  pub batch : Settings → State → List (Command Global) → State
  pub flush : Settings → State → Bytes → Option (ℕ × State × Bytes)
  pub clean : Settings → State → Bytes → Option (ℕ × State × Bytes)
  pub upgrade : Settings → State → Bytes → Option (ℕ × State × Bytes)

abbrev pub calls_of : {State : Type 0} → (Settings → State → List (Command Global) → State) → (Settings → State → Bytes → Option (ℕ × State × Bytes))
    → (Settings → State → Bytes → Option (ℕ × State × Bytes)) → (Settings → State → Bytes → Option (ℕ × State × Bytes)) → StateCalls State
calls_of batch flush clean upgrade = record { batch = batch; flush = flush; clean = clean; upgrade = upgrade }

-- ---- the answers and the effects of steps

-- the pairs after these steps
abbrev pub contents_after : Pairs Bytes → List (Step Global) → Pairs Bytes
contents_after m xs = map_in_turn m (batches_among xs)

-- each step has an answer of its kind, and each batch the replies of an ordered map
abbrev pub AreAnswered : Pairs Bytes → List (Step Global) → List (Answer Global) → Type 0
AreAnswered m [] answers = answers ≡ []
AreAnswered m (Batch cs ∷ xs) answers = (rest : List (Answer Global)) × (answers ≡ Replies (replies_to m cs) ∷ rest) × AreAnswered (map_after_all m cs) xs rest
AreAnswered m (Flush ∷ xs) answers = (n : ℕ) × (rest : List (Answer Global)) × (answers ≡ Flushed n ∷ rest) × AreAnswered m xs rest
AreAnswered m (Clean ∷ xs) answers = (n : ℕ) × (rest : List (Answer Global)) × (answers ≡ Cleaned n ∷ rest) × AreAnswered m xs rest
AreAnswered m (Upgrade ∷ xs) answers = (n : ℕ) × (rest : List (Answer Global)) × (answers ≡ Upgraded n ∷ rest) × AreAnswered m xs rest

-- what is durable after these steps: the pairs at the last flush or upgrade among them, or else what was durable before them
abbrev pub durable_after : Settings → Option Held → Pairs Bytes → List (Step Global) → Option Held
durable_after s held m [] = held
durable_after s held m (Batch cs ∷ xs) = durable_after s held (map_after_all m cs) xs
durable_after s held m (Flush ∷ xs) = durable_after s (Some (s, m)) m xs
durable_after s held m (Clean ∷ xs) = durable_after s held m xs
durable_after s held m (Upgrade ∷ xs) = durable_after s (Some (s, m)) m xs

-- this is durable after the first n of these steps, for some n
abbrev pub IsDurableAfterSome : Settings → Option Held → Pairs Bytes → List (Step Global) → Option Held → Type 0
IsDurableAfterSome s held m xs h = (n : ℕ) × (n ≤ length xs) × (h ≡ durable_after s held m (take n xs))

-- the numbers that flushes, cleans and upgrades returned, in their order
abbrev pub numbers_in : List (Answer Global) → List ℕ
numbers_in [] = []
numbers_in (Replies rs ∷ answers) = numbers_in answers
numbers_in (Flushed n ∷ answers) = n ∷ numbers_in answers
numbers_in (Cleaned n ∷ answers) = n ∷ numbers_in answers
numbers_in (Upgraded n ∷ answers) = n ∷ numbers_in answers

-- one number before those of the steps that follow
abbrev pub after_number : {State : Type 0} → ℕ → Option (List ℕ × State × Bytes) → Option (List ℕ × State × Bytes)
after_number n None = None
after_number n (Some p) = Some (n ∷ p.0, p.1, p.2)

-- the effect of the next steps on what a call returned and left
abbrev pub then_next : {State : Type 0} → Option (ℕ × State × Bytes) → (State → Bytes → Option (List ℕ × State × Bytes)) → Option (List ℕ × State × Bytes)
then_next None next = None
then_next (Some p) next = after_number p.0 (next p.1 p.2)

-- the numbers that these steps return, and the state and the bytes after them
abbrev pub state_after : {State : Type 0} → StateCalls State → Settings → State → Bytes → List (Step Global) → Option (List ℕ × State × Bytes)
state_after f s st file [] = Some ([], st, file)
state_after f s st file (Batch cs ∷ xs) = state_after f s (f.batch s st cs) file xs
state_after f s st file (Flush ∷ xs) = then_next (f.flush s st file) (λ now bytes. state_after f s now bytes xs)
state_after f s st file (Clean ∷ xs) = then_next (f.clean s st file) (λ now bytes. state_after f s now bytes xs)
state_after f s st file (Upgrade ∷ xs) = then_next (f.upgrade s st file) (λ now bytes. state_after f s now bytes xs)

-- ---- a play

-- These steps succeeded one after the other on the store `old`, returned these answers, and left the store `new`.
pub record IsTurnOf {State : Type 0} (recovered : Bytes → Option Held) (calls : StateCalls State) (old : Members State) (xs : List (Step Global)) (answers : List (Answer Global)) (new : Members State) : Type 0 where
  pub answered : AreAnswered old.contents xs answers
  pub contents : new.contents ≡ contents_after old.contents xs
  pub rest : (new.settings ≡ old.settings) × (new.has_failed ≡ old.has_failed) × Kept old.disk new.disk
  -- a failed store executes no step
  pub none : old.has_failed ≡ true → xs ≡ []
  pub durable : IsTrue old.disk.is_honest → recovered new.disk.seen ≡ durable_after old.settings (recovered old.disk.seen) old.contents xs
  -- with `answered`, this determines each answer
  pub state : IsTrue old.disk.is_honest → state_after calls old.settings old.state old.disk.seen xs ≡ Some (numbers_in answers, new.state, new.disk.seen)
  pub is_synced : IsSynced old.disk → IsSynced new.disk
  -- a crash at any moment leaves what was durable after some of the steps
  pub crash : IsSynced old.disk → LeavesOnly old.disk new.disk (λ c. IsDurableAfterSome old.settings (recovered old.disk.seen) old.contents xs (recovered c))

-- These steps succeeded, and then the step `x` failed with this fault. It has changed nothing, unless the fault is `Device`: then the store has
-- failed, and a crash leaves what was durable before `x`, or what `x` would have made durable.
pub record IsStoppedOf {State : Type 0} (recovered : Bytes → Option Held) (calls : StateCalls State) (old : Members State) (xs : List (Step Global)) (answers : List (Answer Global)) (x : Step Global) (fault : Fault) (new : Members State) : Type 0 where
  pub answered : AreAnswered old.contents xs answers
  pub contents : new.contents ≡ contents_after old.contents xs
  pub rest : (new.settings ≡ old.settings) × Kept old.disk new.disk
  pub failed : old.has_failed ≡ true → (xs ≡ []) × ((fault ≡ Failed) ⊎ (fault ≡ NoMemory))
  pub turn : fault ≢ Device → IsTurnOf recovered calls old xs answers new
  pub device : fault ≡ Device → new.has_failed ≡ true
  -- a crash during the play, and one after it
  pub crash : IsSynced old.disk → LeavesOnly old.disk new.disk (λ c. IsDurableAfterSome old.settings (recovered old.disk.seen) old.contents (xs ++ x ∷ []) (recovered c))
  pub following : IsSynced old.disk → (c : Bytes) → new.disk.may_leave c →
      (recovered c ≡ durable_after old.settings (recovered old.disk.seen) old.contents xs) ⊎ (recovered c ≡ durable_after old.settings (recovered old.disk.seen) old.contents (xs ++ x ∷ []))
