-- A flush that cleans a log with little room: which rows of cleans it performs, their effects, and why it fails.
use Rattle.std.specs.Prelude.{◌≡◌, ◌≢◌, ◌⊎◌, ℕ, ◌+◌, ◌-◌, ◌/◌, max, min, ◌<◌, ◌≤◌, Bool, IsTrue, true, false, List, [], ◌∷◌, ◌++◌, length, Option, Some, None, IfSome, Result, Ok, Err, IfOk, IfErr, MatchResult}
use Rattle.std.specs.declared.alloc.Global.{Global}
use Rattle.keys.specs.Bytes.{Bytes}
use Rattle.keys.specs.declared.fault.Fault.{Fault}
use Rattle.keys.specs.declared.fault.Fault.TheVariants.{Device, Full, NoMemory, NothingToClean}
use Rattle.keys.specs.declared.settings.Settings.{Settings}
use Rattle.mapping.specs.Levels.{contents}
use Rattle.mapping.specs.Tree.{Store}
use Rattle.flush_log.specs.AfterFlush.{after_flush}
use Rattle.flush_log.specs.Disk.{View, IsSynced, Kept, LeavesOnly}
use Rattle.flush_log.specs.FlushText.{flush_frames}
use Rattle.flush_log.specs.Segments.{last_segment}
use Rattle.cleaner.specs.PagesRead.{PagesRead}
use Rattle.engine.specs.Cleans.{cleans, IsReadFor, IsRefusedClean, IsCleanedOn, IsStoppedOn}
use Rattle.engine.specs.OneStep.{IsOnlyRead}
use Rattle.engine.specs.Compacted.{IsCompacted}
use Rattle.engine.specs.Plays.{IsPlayed, IsPlayedOn, IsStepDone, IsStepFault}
use Rattle.engine.specs.Room.{is_bloated, is_overfull, is_tight, is_two_thirds_full, is_worth, live_known}
use Rattle.engine.specs.State.{State}
use Rattle.engine.specs.Steps.{Answer, NumbersFit, Step, StandsAfterSome, after_step, batching, plays}
use Rattle.engine.specs.Steps.Step.{Flush, Clean}
use Rattle.engine.specs.Turns.{IsTurn}
use Rattle.engine.specs.declared.step.Answer as code_answer

-- ---- why a row of cleans begins

-- how many cleans a row has at most: an eighth of the segments, and at least one
abbrev pub most_ahead : Settings → ℕ
most_ahead s = max (s.segments / 8) 1

-- the live bytes of a store's log and the bytes that a flush writes are few enough for cleans to make room
abbrev pub IsRoomy : Settings → Store → Bytes → Type 0
IsRoomy s st file = (live : ℕ) × (live_known s st file ≡ Some live) × (is_overfull s st live ≡ false)

-- these bytes are too many
abbrev pub IsOverfull : Settings → Store → Bytes → Type 0
IsOverfull s st file = (live : ℕ) × (live_known s st file ≡ Some live) × (is_overfull s st live ≡ true)

-- a flush is due, and few segments are free
abbrev pub IsDueAndTight : Settings → Store → Type 0
IsDueAndTight s st = (is_tight s st ≡ true) × (flush_frames st.version st.tree ≢ [])

-- a flush is due, few segments are free, enough bytes of the log are dead for a row of cleans, and few enough bytes are live for the flush
pub record IsEarly (s : Settings) (st : Store) (file : Bytes) : Type 0 where
  pub due : flush_frames st.version st.tree ≢ []
  pub tight : is_tight s st ≡ true
  pub live : ℕ
  pub known : live_known s st file ≡ Some live
  pub worth : is_worth s st live ≡ true
  pub roomy : is_overfull s st live ≡ false

-- a flush of this store would find its log full, and cleans may help
abbrev pub IsFull : Settings → Store → Bytes → Type 0
IsFull s st file = (after_flush s st file ≡ Err Full) × IsRoomy s st file

-- ---- one row of cleans

-- the bytes that were read of the log before a row of cleans, and those that each of its cleans read, in order
pub record CleanRow : Type 0 where
  pub ahead : Bytes
  pub reads : List Bytes

-- Cleans of a store that read these bytes, one after the other, lead from the store and the bytes of its disk to this store and to these last bytes.
-- If the disk is honest, each clean reads the bytes that were left before it.
abbrev pub AreCleansBy : Bool → Settings → Store → Bytes → List Bytes → Store → Bytes → Type 0
AreCleansBy honest s st left [] now last = (now ≡ st) × (IsTrue honest → last ≡ left)
AreCleansBy honest s st left (file ∷ reads) now last =
    (answer : Answer Global) × (mid : Store) × (bytes : Bytes) × (IsTrue honest → file ≡ left)
    × (after_step (batching s) s st file Clean ≡ Ok (answer, (mid, bytes))) × AreCleansBy honest s mid bytes reads now last

-- a clean of this store fails on bytes that, if the disk is honest, are those that were left
abbrev pub IsCleanRefused : Bool → Settings → Store → Bytes → Type 0
IsCleanRefused honest s st left = (file : Bytes) × (IsTrue honest → file ≡ left) × (fault : Fault) × (after_step {A = Global} (batching s) s st file Clean ≡ Err fault)

-- no row begins early: because of the bytes that were read, or because a clean fails
abbrev pub IsCalm : Bool → Settings → Store → Bytes → Type 0
IsCalm honest s st left = ((ahead : Bytes) × (IsTrue honest → ahead ≡ left) × (IsEarly s st ahead → ⊥)) ⊎ IsCleanRefused honest s st left

-- the total number of cleans in some rows
abbrev pub count_of : List CleanRow → ℕ
count_of [] = 0
count_of (row ∷ earlier) = count_of earlier + length row.reads

-- the bytes that each clean of some rows reads, in order
abbrev pub reads_in : List CleanRow → List Bytes
reads_in [] = []
reads_in (row ∷ earlier) = reads_in earlier ++ row.reads

-- the number of segments of a log before its last one
abbrev pub most_cleanable : Settings → Store → ℕ
most_cleanable s st = last_segment s st.tail - st.head

-- The number of cleans in a row that begins at this store after these rows, if none of them fails: at most as many as a row may have, as may still
-- follow, and as there are segments before the last one.
abbrev pub row_length : Settings → List CleanRow → Store → ℕ
row_length s earlier st = min (min (most_ahead s) (s.segments - count_of earlier)) (most_cleanable s st)

-- a row begins because the log is full for a flush, and, if it is the first one, no row begins early
abbrev pub BeginsFull : Bool → Settings → List CleanRow → Store → Bytes → CleanRow → Type 0
BeginsFull honest s earlier st left row = IsFull s st row.ahead × (earlier ≡ [] → IsCalm honest s st left)

-- A row of cleans, after these earlier rows, leads from a store to this one. It begins because the log is full for a flush, or, as the first row,
-- early. It has its whole length, or the next clean fails; or it was cut short, if it may be.
pub record IsRow (honest may_be_cut : Bool) (s : Settings) (earlier : List CleanRow) (st : Store) (left : Bytes) (row : CleanRow) (now : Store) (last : Bytes) : Type 0 where
  pub shown : IsTrue honest → row.ahead ≡ left
  pub begins : BeginsFull honest s earlier st left row ⊎ ((earlier ≡ []) × IsEarly s st row.ahead)
  pub done : AreCleansBy honest s st left row.reads now last
  pub some : 0 < length row.reads
  pub few : length row.reads ≤ row_length s earlier st
  pub whole : may_be_cut ≡ false → (length row.reads ≡ row_length s earlier st) ⊎ IsCleanRefused honest s now last

-- ---- rows of cleans, the last one first

-- Such rows lead from a store to this one. The last one may be cut short if `may_be_cut` is true.
abbrev pub AreRows : Bool → Bool → Settings → Store → Bytes → List CleanRow → Store → Bytes → Type 0
AreRows honest may_be_cut s st left [] now last = (now ≡ st) × (IsTrue honest → last ≡ left)
AreRows honest may_be_cut s st left (row ∷ earlier) now last =
    (mid : Store) × (bytes : Bytes) × AreRows honest false s st left earlier mid bytes × IsRow honest may_be_cut s earlier mid bytes row now last

-- Why no more cleans follow after such rows although the log is full: there were as many cleans as there are segments, too many bytes are live for
-- the flush, or a clean fails.
abbrev pub NoneFollow : Bool → Settings → List CleanRow → Store → Bytes → Type 0
NoneFollow honest s rows now last = (count_of rows ≡ s.segments) ⊎ ((ahead : Bytes) × (IsTrue honest → ahead ≡ last) × IsOverfull s now ahead) ⊎ IsCleanRefused honest s now last

-- ---- a flush that succeeds

-- A store was cleaned in rows, at most one clean for each segment, and then flushed, as in a play of these steps; its contents are unchanged. The
-- cleans lead to the cleaned store and to these bytes of its disk, and the flush from there.
pub record IsFlushedCleaning {D : Type 0} (view : D → View) (failures : D → ℕ) (old now : State D) : Type 0 where
  pub rows : List CleanRow
  pub most : count_of rows ≤ old.settings.segments
  pub cleaned : Store
  pub left : Bytes
  pub are : AreRows (view old.disk).is_honest false old.settings old.store (view old.disk).seen rows cleaned left
  pub calm : rows ≡ [] → IsCalm (view old.disk).is_honest old.settings old.store (view old.disk).seen
  pub answer : code_answer.Answer
  pub flush : (bytes : Bytes) × IsStepDone (view old.disk).is_honest old.settings cleaned left Flush answer now.store bytes
      × (IsTrue (view old.disk).is_honest → bytes ≡ (view now.disk).seen)
  pub said : List code_answer.Answer
  pub turn : IsTurn view failures old (cleans (count_of rows) ++ Flush ∷ []) said now
  pub holds : contents now.store.tree ≡ contents old.store.tree

-- ---- a flush that fails

-- the fault that is returned for this fault of a clean: `Full` if the log is in one segment
abbrev pub IsWantOfRoom : Fault → Fault → Type 0
IsWantOfRoom why fault = ((why ≡ NothingToClean) × (fault ≡ Full)) ⊎ ((why ≢ NothingToClean) × (fault ≡ why))

-- a call of the disk or an allocation failed
abbrev pub IsOfMachine : Fault → Type 0
IsOfMachine fault = (fault ≡ Device) ⊎ (fault ≡ NoMemory)

-- Why it stops after a number of cleans, at a flush or at another clean. Such a clean comes after a flush that found the log full, or a call of the
-- disk or an allocation failed in it.
abbrev pub IsStop : Settings → Store → Bytes → ℕ → ℕ → ℕ → Step Global → Fault → Type 0
IsStop s st file old new count x fault =
    ((x ≡ Flush) × IsStepFault s st file old new Flush fault)
    ⊎ ((x ≡ Clean) × (count < s.segments) × ((after_flush s st file ≡ Err Full) ⊎ IsOfMachine fault) × (why : Fault) × IsWantOfRoom why fault × IsStepFault s st file old new Clean why)

-- It failed after rows of cleans, which have the effect of a play of these cleans. The tree of the store is unchanged.
pub record IsStoppedCleaning {D : Type 0} (view : D → View) (failures : D → ℕ) (old now : State D) (fault : Fault) : Type 0 where
  pub rows : List CleanRow
  -- the bytes that were left on the disk, which are its readable contents unless a call of it failed
  pub left : Bytes
  pub shows : fault ≢ Device → IsTrue (view old.disk).is_honest → left ≡ (view now.disk).seen
  -- the last row is cut short only if a call of the disk or an allocation failed
  pub may_be_cut : Bool
  pub cut : may_be_cut ≡ true → IsOfMachine fault
  pub are : AreRows (view old.disk).is_honest may_be_cut old.settings old.store (view old.disk).seen rows now.store left
  pub calm : rows ≡ [] → IsOfMachine fault ⊎ IsCalm (view old.disk).is_honest old.settings old.store (view old.disk).seen
  -- the fault is `Full` only if no more cleans may follow, or none could help
  pub full : fault ≡ Full → NoneFollow (view old.disk).is_honest old.settings rows now.store left
  pub said : List code_answer.Answer
  pub played : IsPlayed (view old.disk).is_honest old.settings old.store (view old.disk).seen (cleans (count_of rows)) said now.store
  pub exact : IsTrue (view old.disk).is_honest → IsPlayedOn old.settings old.store (view old.disk).seen (cleans (count_of rows)) said now.store
  pub tree : now.store.tree ≡ old.store.tree
  pub rest : (now.settings ≡ old.settings) × Kept (view old.disk) (view now.disk)
  -- everything that is promised of a play of these cleans, unless a call of the disk failed; then the store has failed
  pub turn : fault ≢ Device → IsTurn view failures old (cleans (count_of rows)) said now
  pub device : fault ≡ Device → now.has_failed ≡ true
  -- the step that failed, and why
  pub step : Step Global
  pub why : (file : Bytes) × (IsTrue (view old.disk).is_honest → file ≡ (plays (batching old.settings) old.settings old.store (view old.disk).seen (cleans (count_of rows))).bytes)
      × IsStop old.settings now.store file (failures old.disk) (failures now.disk) (count_of rows) step fault
  -- if a call of the disk failed in the step, its numbers have 64 bits
  pub words : fault ≡ Device → NumbersFit (batching old.settings) old.settings now.store step
  -- a crash at any moment leaves the store after some of all these steps
  pub crash : old.has_failed ≡ false → IsSynced (view old.disk)
      → LeavesOnly (view old.disk) (view now.disk) (StandsAfterSome (batching old.settings) old.settings old.store (view old.disk).seen (cleans (count_of rows) ++ step ∷ []))

-- the store that is cleaned and flushed: unchanged, or compacted, which happens only if a flush is due, the log is two thirds full, and the tree is
-- bloated
abbrev pub IsStart : {D : Type 0} → State D → State D → Type 0
IsStart old start =
    (start ≡ old)
    ⊎ ((flush_frames old.store.version old.store.tree ≢ []) × (is_two_thirds_full old.settings old.store ≡ true) × (is_bloated old.settings old.store.tree ≡ true) × IsCompacted old.settings old.store start.store
    × (start.settings ≡ old.settings) × (start.disk ≡ old.disk) × (start.has_failed ≡ old.has_failed))

-- ---- parts of it

-- this holds for the store and for some bytes, which on an honest disk are its contents
abbrev pub IsOfBytes : {D : Type 0} → (D → View) → State D → (Settings → Store → Bytes → Type 0) → Type 0
IsOfBytes view x holds = (file : Bytes) × (IsTrue (view x.disk).is_honest → file ≡ (view x.disk).seen) × holds x.settings x.store file

-- no row begins early, by the readable contents of the disk
abbrev pub IsCalmOn : {D : Type 0} → (D → View) → State D → Type 0
IsCalmOn view x = IsCalm (view x.disk).is_honest x.settings x.store (view x.disk).seen

-- a clean of this store fails, by the readable contents of the disk
abbrev pub IsCleanRefusedOn : {D : Type 0} → (D → View) → State D → Type 0
IsCleanRefusedOn view x = IsCleanRefused (view x.disk).is_honest x.settings x.store (view x.disk).seen

-- a row of this many cleans from one store to another has at most the greatest length, and that length unless the next clean fails
abbrev pub IsWhole : {D : Type 0} → (D → View) → State D → ℕ → ℕ → State D → Type 0
IsWhole view old most n now =
    (n ≤ min most (most_cleanable old.settings old.store)) × ((n ≡ min most (most_cleanable old.settings old.store)) ⊎ IsCleanRefusedOn view now)

-- The log was read for the next `count` cleans, or for the cleans of all segments before the last one if these are fewer; or it was not read.
pub record IsReadAhead {D : Type 0} (view : D → View) (failures : D → ℕ) (old : State D) (count : ℕ) (result : Result PagesRead Fault) (now : State D) : Type 0 where
  pub read : IfOk result (λ r. IsOnlyRead view failures old now × IsReadFor view now r × (now.store.head < r.limit))
  pub limit : IfOk result (λ r. r.limit ≡ old.store.head + min count (most_cleanable old.settings old.store))
  pub refused : IfErr result (IsRefusedClean view failures old now)
  -- the number of live bytes; a log that is refused because of its contents is damaged
  pub live : (file : Bytes) × (IsTrue (view old.disk).is_honest → file ≡ (view old.disk).seen)
      × MatchResult result (λ r. live_known old.settings old.store file ≡ Some r.live)
      (λ fault. (fault ≡ NothingToClean) ⊎ (fault ≡ NoMemory) ⊎ (fault ≡ Device) ⊎ (live_known old.settings old.store file ≡ None))

-- a reading of this store's log with its number of live bytes, by which as many of the next cleans can be performed as a row has, or as there are
-- segments before the last one
pub record IsHeld {D : Type 0} (view : D → View) (x : State D) (r : PagesRead) : Type 0 where
  pub read : IsReadFor view x r
  pub next : x.store.head < r.limit
  pub limit : r.limit ≡ x.store.head + min (most_ahead x.settings) (most_cleanable x.settings x.store)
  pub live : IsOfBytes view x (λ s st file. live_known s st file ≡ Some r.live)

-- Cleans were done by a reading that has `within` more segments: all of these, or `most` if that is less.
abbrev pub AreDoneBy : {D : Type 0} → (D → View) → (D → ℕ) → State D → ℕ → ℕ → State D → ℕ → Type 0
AreDoneBy view failures old most within now n = (0 < n) × (n ≤ most) × (n ≡ min most within) × IsCleanedOn view failures old n now

-- After `e.0` cleans by such a reading, the next one was refused with the fault `e.1`: by what the disk shows, unless a call of it or an allocation failed.
abbrev pub AreStoppedBy : {D : Type 0} → (D → View) → (D → ℕ) → State D → ℕ → ℕ → State D → ℕ × Fault → Type 0
AreStoppedBy view failures old most within now e =
    (e.0 < most) × (e.0 < within) × (e.0 ≡ 0 → now.store ≡ old.store) × IsStoppedOn view failures old e.0 e.1 now × (IsOfMachine e.1 ⊎ IsCleanRefusedOn view now)

-- a row of at most `most` cleans may begin by this reading, in a store that has not failed
pub record IsRowReady {D : Type 0} (view : D → View) (x : State D) (r : PagesRead) (most : ℕ) : Type 0 where
  pub fine : x.has_failed ≡ false
  pub held : IsHeld view x r
  pub some : 0 < most
  pub few : most ≤ most_ahead x.settings

-- by this number of live bytes, a row of cleans is worth its cost, and may make room for the flush
abbrev pub MayHelp : Settings → Store → ℕ → Type 0
MayHelp s st live = (is_worth s st live ≡ true) × (is_overfull s st live ≡ false)

-- a row of `n` cleans was done, of at most `most`, and is as long as it may be
abbrev pub IsRowDone : {D : Type 0} → (D → View) → (D → ℕ) → State D → ℕ → State D → ℕ → Type 0
IsRowDone view failures old most now n = (0 < n) × (n ≤ most) × IsCleanedOn view failures old n now × IsWhole view old most n now

-- A row of at most `most` cleans was refused: at its first clean, or, after some of them, by the disk or for want of memory. The refused clean is refused
-- by what the disk shows, unless a call of the disk or an allocation failed.
abbrev pub IsRowStopped : {D : Type 0} → (D → View) → (D → ℕ) → State D → ℕ → State D → Fault → Type 0
IsRowStopped view failures old most now fault =
    (n : ℕ) × (n < most) × (n ≤ most_cleanable old.settings old.store)
    × (((n ≡ 0) × (now.store ≡ old.store)) ⊎ IsOfMachine fault)
    × IsStoppedOn view failures old n fault now
    × (IsOfMachine fault ⊎ IsCleanRefusedOn view now)

-- Early cleans were done, of which there are at most `most`, or none. If there are some, `Due` holds, and the row is as long as it may be; if there are none,
-- `Calm` holds. The reading, if there is one, serves for the next cleans.
abbrev pub IsEarlyRow : {D : Type 0} → (D → View) → (D → ℕ) → Type 0 → Type 0 → State D → ℕ → State D → ℕ × Option PagesRead → Type 0
IsEarlyRow view failures Due Calm old most now e =
    (e.0 ≤ most) × IsCleanedOn view failures old e.0 now
    × (0 < e.0 → Due × IsWhole view old most e.0 now)
    × (e.0 ≡ 0 → Calm)
    × IfSome e.1 (IsHeld view now)

-- Early cleans end the flush, because a call of the disk or an allocation failed. If some were done, `Due` holds.
abbrev pub IsEarlyStop : {D : Type 0} → (D → View) → (D → ℕ) → Type 0 → State D → ℕ → State D → Fault → Type 0
IsEarlyStop view failures Due old most now fault =
    IsOfMachine fault × (n : ℕ) × (n < most) × (n ≤ most_cleanable old.settings old.store)
    × (0 < n → Due)
    × IsStoppedOn view failures old n fault now

-- early cleans by a new reading, which may help by what the disk shows
abbrev pub IsDoneEarly : {D : Type 0} → (D → View) → (D → ℕ) → State D → ℕ → State D → ℕ × Option PagesRead → Type 0
IsDoneEarly view failures old most now e = IsEarlyRow view failures (IsOfBytes view old IsEarly) (IsCalmOn view old) old most now e

abbrev pub IsStoppedEarly : {D : Type 0} → (D → View) → (D → ℕ) → State D → ℕ → State D → Fault → Type 0
IsStoppedEarly view failures old most now fault = IsEarlyStop view failures (IsOfBytes view old IsEarly) old most now fault

-- why there is no reading by which a clean may help: too many bytes are live for the flush, allocation failed, or the reading failed
pub record IsNoReading {D : Type 0} (view : D → View) (failures : D → ℕ) (old now : State D) (fault : Fault) : Type 0 where
  pub why : (IsOnlyRead view failures old now × (((fault ≡ Full) × IsOfBytes view now IsOverfull) ⊎ (fault ≡ NoMemory)))
      ⊎ IsRefusedClean view failures old now fault
