-- What a copy of a store puts into the new one, how much of it is done, and why there is no copy.
use Rattle.std.specs.Prelude.{◌≡◌, ◌≢◌, ◌⊎◌, ⊤, ℕ, zero, suc, false, IsTrue, List, [], ◌∷◌, ◌++◌, length, map, take, drop, Option, Some, None, Result, Ok, Err, IfOk, OnOk, IfErr, MatchOption, MatchResult, ◌<◌}
use Rattle.std.specs.Borrow.{Bor}
use Rattle.std.specs.Option.{option_or}
use Rattle.std.specs.declared.alloc.Global.{Global}
use Rattle.keys.specs.Bytes.{Bytes, Pairs}
use Rattle.keys.specs.declared.command.Command.{Command}
use Rattle.keys.specs.declared.command.Command.TheVariants.{Put}
use Rattle.keys.specs.declared.fault.Fault.{Fault}
use Rattle.keys.specs.declared.fault.Fault.TheVariants.{Device, NoMemory, NotAStore}
use Rattle.keys.specs.declared.settings.Settings.{Settings}
use Rattle.mapping.specs.Levels.{contents}
use Rattle.mapping.specs.Tree.{Tree, Store, with_tree}
use Rattle.flush_log.specs.AfterFlush.{after_flush}
use Rattle.flush_log.specs.Disk.{View, IsSynced, Kept, LeavesOnly}
use Rattle.recovery.specs.Recovered.{IsLate}
use Rattle.recovery.specs.StoreOfDisk.{first_store, store_of_disk}
use Rattle.climb_plan.specs.Plan.{planned_tree}
use Rattle.engine.specs.Batch.{refusal_by}
use Rattle.engine.specs.Batches.{tree_in_turn}
use Rattle.engine.specs.State.{State, IsOnlyInMemory, IsSound}

-- a put of a pair, and puts of pairs in their order
abbrev pub put_of : Bytes × Bytes → Command Global
put_of e = Put e.0 e.1

abbrev pub puts_of : Pairs Bytes → List (Command Global)
puts_of es = map put_of es

-- how many pairs are put in one batch at most
abbrev pub most_puts : ℕ
most_puts = 4096

-- the key of the last of some pairs, or this where there are none
abbrev pub last_key : Option Bytes → Pairs Bytes → Option Bytes
last_key key [] = key
last_key key (e ∷ es) = last_key (Some e.0) es

-- a map holds the first pairs of another one, up to the last, which has this key; none, where there is no key
pub record IsBegun (all some : Pairs Bytes) (key : Option Bytes) : Type 0 where
  pub left : Pairs Bytes
  pub whole : some ++ left ≡ all
  pub last : last_key None some ≡ key

-- these pairs, cut into at most this many pieces of `most_puts` pairs; the last piece may be shorter
abbrev pub pieces_of : ℕ → Pairs Bytes → List (Pairs Bytes)
pieces_of zero es = []
pieces_of (suc n) [] = []
pieces_of (suc n) (e ∷ es) = take most_puts (e ∷ es) ∷ pieces_of n (drop most_puts (e ∷ es))

-- the batches of a copy: puts of all pairs in key order, `most_puts` in each batch
abbrev pub batches_of : Pairs Bytes → List (List (Command Global))
batches_of all = map puts_of (pieces_of (length all) all)

-- the fault of the first of these batches that is refused, each executed on the tree that the previous one left; lack of memory aside
abbrev pub refused_in_turn : {A : Type 0} → Settings → Tree → List (List (Command A)) → Option Fault
refused_in_turn s t [] = None
refused_in_turn s t (b ∷ bs) = option_or (refusal_by s t b) (refused_in_turn s (planned_tree s t b) bs)

-- the fault of the first batch of a copy that is refused
abbrev pub copy_refusal : Settings → Pairs Bytes → Option Fault
copy_refusal s all = refused_in_turn s first_store.tree (batches_of all)

-- the first store of a disk after the batches of a copy, before the flush
abbrev pub store_of_copy : Settings → Pairs Bytes → Store
store_of_copy s all = with_tree first_store (tree_in_turn s first_store.tree (batches_of all))

-- the result of flushing this store onto a disk with these bytes
abbrev pub after_filling : Settings → Pairs Bytes → Bytes → Result (Store × Bytes) Fault
after_filling s all file = after_flush s (store_of_copy s all) file

-- The first piece of the pairs that are left, of which there are some, was put into the tree `now`, and the tree is `next` after it.
pub record IsPutOn (s : Settings) (now : Tree) (left : Pairs Bytes) (next : Tree) : Type 0 where
  pub some : left ≢ []
  pub planned : next ≡ planned_tree s now (puts_of (take most_puts left))
  pub allowed : refusal_by s now (puts_of (take most_puts left)) ≡ None
  pub holds : contents next ≡ contents now ++ take most_puts left

-- why this piece is not put: allocation failed, or its batch is refused
abbrev pub IsPutRefused : Settings → Tree → Pairs Bytes → Fault → Type 0
IsPutRefused s now left fault = (fault ≡ NoMemory) ⊎ ((left ≢ []) × (refusal_by s now (puts_of (take most_puts left)) ≡ Some fault))

-- why not all pairs are put: allocation failed, or a batch is refused
abbrev pub IsPutFault : Settings → Pairs Bytes → Fault → Type 0
IsPutFault s all fault = (fault ≡ NoMemory) ⊎ (copy_refusal s all ≡ Some fault)

-- no batch is refused, but the flush is, whatever bytes the disk has
abbrev pub IsFilledFault : Settings → Pairs Bytes → Fault → Type 0
IsFilledFault s all fault = (copy_refusal s all ≡ None) × ((file : Bytes) → after_filling s all file ≡ Err fault)

-- `copy` is the store that the batches of a copy and a flush leave, whatever bytes the disk has
abbrev pub IsCopied : Settings → Pairs Bytes → Store → Type 0
IsCopied s all copy = (copy_refusal s all ≡ None) × ((file : Bytes) → (bytes : Bytes) × (after_filling s all file ≡ Ok (copy, bytes)))

-- Why there is no copy of pairs: memory was refused, or a call of the new disk failed, by counts of the calls that failed; the pairs
-- aren't all put; or the new store isn't flushed.
abbrev pub IsCopyFault : Settings → Pairs Bytes → ℕ → ℕ → Fault → Type 0
IsCopyFault s all old new fault = IsLate old new fault ⊎ IsPutFault s all fault ⊎ IsFilledFault s all fault

-- bytes hold a store
abbrev pub HoldsSomeStore : Bytes → Type 0
HoldsSomeStore c = (x : Settings × Store) × (store_of_disk c ≡ Ok x)

-- bytes hold a store of these pairs, under these settings
abbrev pub HoldsCopy : Settings → Pairs Bytes → Bytes → Type 0
HoldsCopy s all c = (copy : Store) × (store_of_disk c ≡ Ok (s, copy)) × (contents copy.tree ≡ all)

-- what a crash may leave of the new disk once the copy was begun: no store, or a whole copy
abbrev pub IsLeftFilling : Settings → Pairs Bytes → Bytes → Type 0
IsLeftFilling s all c = (store_of_disk c ≡ Err NotAStore) ⊎ HoldsCopy s all c

-- what a crash in a copy may leave of the new disk: the bytes as they were, no store, or a whole copy
abbrev pub IsLeftCopying : Settings → Pairs Bytes → Bytes → Bytes → Type 0
IsLeftCopying s all file c = (c ≡ file) ⊎ IsLeftFilling s all c

-- ---- what the calls promise

-- The next pairs of `all` that a store lacks were put into it, and the key of the last one was returned, or `None` if it lacks none; or they were not put.
-- Only the tree of the store changed.
pub record IsNextPut {D : Type 0} (all : Pairs Bytes) (old : State D) (result : Result (Option (Bor Bytes)) Fault) (new : State D) : Type 0 where
  pub further : IfOk result (λ end. MatchOption end (contents new.store.tree ≡ all)
      (λ key. IsBegun all (contents new.store.tree) (Some key.now) × (length (contents old.store.tree) < length (contents new.store.tree))))
  pub log : OnOk result (new.store ≡ with_tree old.store new.store.tree)
  pub rest : IsOnlyInMemory old new
  -- the pairs that the store lacks decide: their first piece is put, or refused
  pub tree : (left : Pairs Bytes) → contents old.store.tree ++ left ≡ all
      → IfOk result (λ end. MatchOption end (new ≡ old) (λ key. IsPutOn old.settings old.store.tree left new.store.tree))
  pub refused : (left : Pairs Bytes) → contents old.store.tree ++ left ≡ all → IfErr result (IsPutRefused old.settings old.store.tree left)

-- All pairs were put into a store, or why not. Only the tree of the store changed.
pub record ArePutInto {D : Type 0} (all : Pairs Bytes) (old : State D) (result : Result ⊤ Fault) (new : State D) : Type 0 where
  pub holds : OnOk result (contents new.store.tree ≡ all)
  pub log : OnOk result (new.store ≡ with_tree old.store new.store.tree)
  pub rest : IsOnlyInMemory old new
  pub tree : OnOk result ((new.store.tree ≡ tree_in_turn old.settings old.store.tree (batches_of all)) × (refused_in_turn old.settings old.store.tree (batches_of all) ≡ None))
  pub refused : IfErr result (λ fault. (fault ≡ NoMemory) ⊎ (refused_in_turn old.settings old.store.tree (batches_of all) ≡ Some fault))

-- a store that was just created: it holds no pairs, and has not failed
pub record IsFresh {D : Type 0} (view : D → View) (x : State D) : Type 0 where
  pub first : x.store ≡ first_store
  pub empty : contents x.store.tree ≡ []
  pub fine : x.has_failed ≡ false
  pub sound : IsSound view x

-- the result of a call that changes a store, as the result of a call that returns the store, or the fault and the store's disk
abbrev pub with_store : {D : Type 0} → Result ⊤ Fault → State D → Result (State D) (Fault × D)
with_store (Ok x) now = Ok now
with_store (Err fault) now = Err (fault, now.disk)

-- A copy of these pairs was made on the disk `old`, under these settings, or was not made. `file` is what the disk showed when the first pair was put;
-- `Left` is what a crash may leave.
pub record IsCopyOn {D : Type 0} (view : D → View) (failures : D → ℕ) (s : Settings) (all : Pairs Bytes) (old : D) (file : Bytes) (Left : Bytes → Type 0)
    (result : Result (State D) (Fault × D)) : Type 0 where
  -- it holds these pairs, under these settings, and is exactly what the batches of a copy and a flush leave
  pub made : IfOk result (λ copy. (copy.settings ≡ s) × (copy.has_failed ≡ false))
  pub holds : IfOk result (λ copy. contents copy.store.tree ≡ all)
  pub exact : IfOk result (λ copy. IsCopied s all copy.store)
  -- on any disk
  pub kept : IfOk result (λ copy. Kept (view old) (view copy.disk) × (failures copy.disk ≡ failures old))
  pub back : IfErr result (λ e. Kept (view old) (view e.1))
  pub sound : IfOk result (λ copy. IsSound view copy)
  -- on an honest disk: its bytes are a function of the pairs, the settings and `file`, and they encode the copy
  pub written : IsTrue (view old).is_honest → IfOk result (λ copy. after_filling s all file ≡ Ok (copy.store, (view copy.disk).seen))
  pub bytes : IsTrue (view old).is_honest → IfOk result (λ copy. store_of_disk (view copy.disk).seen ≡ Ok (s, copy.store))
  -- on a synced disk: what a crash at any moment may leave
  pub crash : IsSynced (view old) → MatchResult result (λ copy. LeavesOnly (view old) (view copy.disk) Left) (λ e. LeavesOnly (view old) (view e.1) Left)

-- A fresh store on the disk `old` was filled with these pairs and flushed, or was not.
pub record IsFilling {D : Type 0} (view : D → View) (failures : D → ℕ) (s : Settings) (all : Pairs Bytes) (old : D) (file : Bytes) (Left : Bytes → Type 0)
    (result : Result (State D) (Fault × D)) : Type 0 where
  pub copy : IsCopyOn view failures s all old file Left result
  -- a synced disk stays synced
  pub is_synced : IsSynced (view old) → IfOk result (λ copy. IsSynced (view copy.disk))
  -- which fault, and that the disk is unchanged unless a call of it failed
  pub refused : IfErr result (λ e. IsCopyFault s all (failures old) (failures e.1) e.0)
  pub unchanged : IfErr result (λ e. e.0 ≢ Device → e.1 ≡ old)
