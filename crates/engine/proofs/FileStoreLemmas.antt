-- The result of opening the store of a file.
use Rattle.std.specs.Prelude.{MatchOption, MatchResult, IfOk, IfErr, IsSome, replicate, is_some, not, ◌&&◌, ◌||◌, IsTrue}
use Rattle.std.proofs.Common.{◌≡◌, ◌≢◌, ◌⊎◌, inl, inr, ⊎_elim, sym, ap, refl, subst, ◌∙◌, ℕ, zero, suc, ◌<◌, ◌-◌, ◌^◌, Bool, true, false, List, [], ◌∷◌, length, get_or, take, Option, None, Some, Result, Ok, Err, arith}
use Rattle.std.proofs.lemmas.Bool.{false≢true}
use Rattle.std.proofs.lemmas.List.{get_or-take, length-replicate, take-take}
use Rattle.std.specs.declared.io.Error.{Error}
use Rattle.keys.specs.Bytes.{Bytes}
use Rattle.keys.specs.Limits.{first_bad_field}
use Rattle.keys.specs.declared.fault.Fault.{Fault}
use Rattle.keys.specs.declared.fault.Fault.TheVariants.{BadSettings, Device, NotAStore}
use Rattle.keys.specs.declared.settings.Field.{Field}
use Rattle.keys.specs.declared.settings.Settings.{Settings}
use Rattle.mapping.specs.Tree.{Store}
use Rattle.flush_log.specs.Disk.{View, Lawful, Kept}
use Rattle.flush_log.specs.NewStore.{disk_of_new}
use Rattle.flush_log.specs.Segments.{disk_size}
use Rattle.flush_log.specs.SettingsBlock.{read_settings}
use Rattle.flush_log.proofs.SettingsLemmas.{settings-stand}
use Rattle.recovery.specs.Recovered.{IsLate, IsReadOf}
use Rattle.recovery.specs.StoreOfDisk.{store_of_disk}
use Rattle.recovery.proofs.ReadBytes.{first_read, kept_then}
use Rattle.engine.specs.FileStore.{IfStoreFound, IsFaultIn, IsFaultOfFile, IsFound, IsFoundIn, IsNewStore, IsStoreOfFile, disk_found, made_on_zeros}
use Rattle.engine.specs.Hidden.{HoldsNoStore, are_zeros, exchanged, hides_block, is_unfinished, was_complete}
use Rattle.engine.specs.Late.{after_create, create_refusal}
use Rattle.engine.specs.State.{State}
use Rattle.engine.specs.declared.file_store.Found.{Found}
use Rattle.engine.specs.declared.file_store.Found.TheVariants as found
use Rattle.engine.specs.declared.file_store.OpenFault.{OpenFault}
use Rattle.engine.specs.declared.file_store.OpenFault.TheVariants as open_fault
use Rattle.engine.proofs.CreateLemmas.{none_refused}
use Rattle.engine.proofs.HiddenLemmas.{first_other}
use Rattle.engine.proofs.HiddenStores.{after_create_is, below_first, no_store}

-- ---- bytes of an unfinished store

-- a settings block has its first byte
hidden_first : (bytes : Bytes) (o : Option Settings) → read_settings (take 64 bytes) ≡ o → is_some o ≡ true → get_or bytes 0 0 ≡ 66
hidden_first bytes None is some = absurd (false≢true some)
hidden_first bytes (Some s) is some =
    let word : take 8 bytes ≡ take 8 (take 64 bytes) = sym (take-take 8 64 bytes (omega arith)) in
    sym (get_or-take 8 bytes 0 0 (omega arith)) ∙ ap (λ (c : List ℕ). get_or c 0 0) (word ∙ ap (take 8) (settings-stand (take 64 bytes) s is).0)

zeros_first : (file : Bytes) → are_zeros file ≡ true → get_or file 0 0 ≢ 66
zeros_first [] zeros is = absurd (let none : 0 ≡ 66 = is in omega (arith, none))
zeros_first (b ∷ file) zeros is = absurd (false≢true (sym (ap (λ (x : ℕ). are_zeros (x ∷ file)) is) ∙ zeros))

-- they encode no store
unfinished_by : (file : Bytes) (hides complete zeros : Bool) → hides_block file ≡ hides → are_zeros file ≡ zeros → (hides && not complete || zeros) ≡ true → HoldsNoStore file
unfinished_by file true complete zeros h z is = below_first file (hidden_first (exchanged file) (read_settings (take 64 (exchanged file))) refl h)
unfinished_by file false complete true h z is = first_other file (zeros_first file z)
unfinished_by file false complete false h z is = absurd (false≢true is)

pub unfinished_none : (file : Bytes) → is_unfinished file ≡ true → store_of_disk file ≡ Err NotAStore
unfinished_none file is = no_store file (unfinished_by file (hides_block file) (was_complete file) (are_zeros file) refl refl is)

-- a file with another result than `NotAStore` is not unfinished
finished : (file : Bytes) (b : Bool) → is_unfinished file ≡ b → store_of_disk file ≢ Err NotAStore → is_unfinished file ≡ false
finished file true is other = absurd (other (unfinished_none file is))
finished file false is other = is

pub store_finished : (file : Bytes) (x : Settings × Store) → store_of_disk file ≡ Ok x → is_unfinished file ≡ false
store_finished file x is = finished file (is_unfinished file) refl (λ none. cc)

pub fault_finished : (file : Bytes) (fault : Fault) → store_of_disk file ≡ Err fault → fault ≢ NotAStore → is_unfinished file ≡ false
fault_finished file fault is other = finished file (is_unfinished file) refl (λ none. other (cc))

-- ---- bytes for a disk that isn't honest

zeros_are : (n : ℕ) → are_zeros (replicate n 0) ≡ true
zeros_are zero = refl
zeros_are (suc n) = zeros_are n

or_true : (b : Bool) → (b || true) ≡ true
or_true true = refl
or_true false = refl

zeros_unfinished : (n : ℕ) → is_unfinished (replicate n 0) ≡ true
zeros_unfinished n =
    let hides : Bool = hides_block (replicate n 0) && not (was_complete (replicate n 0)) in
    ap (λ (b : Bool). hides || b) (zeros_are n) ∙ or_true hides

hides_other : (bytes : Bytes) (b : Bool) → is_some (read_settings (take 64 bytes)) ≡ b → get_or bytes 0 0 ≢ 66 → b ≡ false
hides_other bytes true is other = absurd (other (hidden_first bytes (read_settings (take 64 bytes)) refl is))
hides_other bytes false is other = refl

ones_hide : (n : ℕ) → hides_block (replicate (suc n) 1) ≡ false
ones_hide n = hides_other (exchanged (replicate (suc n) 1)) (hides_block (replicate (suc n) 1)) refl (λ is. absurd (let none : 1 ≡ 66 = is in omega (arith, none)))

ones_finished : (n : ℕ) → is_unfinished (replicate (suc n) 1) ≡ false
ones_finished n = ap (λ (b : Bool). b && not (was_complete (replicate (suc n) 1)) || are_zeros (replicate (suc n) 1)) (ones_hide n)

ones_none : (n : ℕ) → store_of_disk (replicate (suc n) 1) ≡ Err NotAStore
ones_none n = no_store (replicate (suc n) 1) (first_other (replicate (suc n) 1) (λ is. absurd (let none : 1 ≡ 66 = is in omega (arith, none))))

-- ---- the result for the bytes of a file

none_long : (file : Bytes) → length file ≡ 0 → is_unfinished file ≡ true
none_long [] long = refl
none_long (b ∷ file) long = absurd (cc)

pub none_found : (v : View) → (IsTrue v.is_honest → Lawful v) → v.size ≡ 0 → (file : Bytes) × IsReadOf v file × (is_unfinished file ≡ true)
none_found v law none = let (file, read) = first_read v law in (file, read, none_long file (read.whole ∙ none))

not_late : (old new : ℕ) → (store : Result (Settings × Store) Fault) → (store ≡ Err NotAStore) ⊎ IsLate old new NotAStore → store ≡ Err NotAStore
not_late old new store (inl is) = is
not_late old new store (inr (inl memory)) = absurd (cc)
not_late old new store (inr (inr (device, failed))) = absurd (cc)

abbrev err_of : Fault → Result (Settings × Store) Fault
err_of fault = Err fault

nothing_in : {D : Type 0} (file : Bytes) (f : Found D) → f ≡ found.Nothing (disk_found f) → is_unfinished file ≡ true → IsFoundIn file f
nothing_in file f is unfinished = subst (IsFoundIn file) (sym is) unfinished

-- no store was found on the disk that was opened
module _ {D : Type 0} (view : D → View) (failed : D → ℕ) (old mid : D) (law : IsTrue (view old).is_honest → Lawful (view old))
    (kept : Kept (view old) (view mid)) (same : IsTrue (view old).is_honest → (view mid).seen ≡ (view old).seen) (file : Bytes) (read : IsReadOf (view old) file) where
  abbrev Shape : Result (Found D) (Fault × D) → Type 0
  Shape r = MatchResult r (λ f. f ≡ found.Nothing (disk_found f)) (λ e. (e.0 ≡ NotAStore) ⊎ IsLate (failed mid) (failed e.1) e.0)

  abbrev Exact : Bytes → Result (Found D) (Fault × D) → Type 0
  Exact bytes r = MatchResult r (λ f. is_unfinished bytes ≡ true) (λ e. e.0 ≡ NotAStore → is_unfinished bytes ≡ false)

  abbrev Cases : Fault → Result (Found D) (Fault × D) → Type 0
  Cases fault r = ((fault ≢ NotAStore) × (r ≡ Err (fault, mid))) ⊎ ((fault ≡ NotAStore) × Shape r)

  abbrev Decided : Result (Found D) (Fault × D) → Type 0
  Decided r = (file : Bytes) × IsReadOf (view old) file × IsFound failed file (failed old) r

  module _ (counted : failed mid ≡ failed old) (none : store_of_disk file ≡ Err NotAStore) where
    since : (fault : Fault) (new : ℕ) → IsLate (failed mid) new fault → IsLate (failed old) new fault
    since fault new late = subst (λ (n : ℕ). IsLate n new fault) counted late

    honest_found : (r : Result (Found D) (Fault × D)) → IsTrue (view old).is_honest → Shape r → Exact (view old).seen r → Decided r
    honest_found (Ok f) honest shape exact = ((view old).seen, record { whole = (law honest).whole; honest = λ h. refl }, nothing_in (view old).seen f shape exact)
    honest_found (Err e) honest (inl is) exact =
        ((view old).seen, record { whole = (law honest).whole; honest = λ h. refl }, inl (exact is, ap store_of_disk (sym (read.honest honest)) ∙ none ∙ ap err_of (sym is)))
    honest_found (Err e) honest (inr late) exact = (file, read, inr (since e.0 (failed e.1) late))

    any_found : (r : Result (Found D) (Fault × D)) (n : ℕ) → (view old).size ≡ suc n → (view old).is_honest ≡ false → Shape r → Decided r
    any_found (Ok f) n size other shape =
        (replicate (suc n) 0, record { whole = length-replicate {A = ℕ} (suc n) 0 ∙ sym size; honest = λ h. absurd (cc) }, nothing_in (replicate (suc n) 0) f shape (zeros_unfinished (suc n)))
    any_found (Err e) n size other (inl is) =
        (replicate (suc n) 1, record { whole = length-replicate {A = ℕ} (suc n) 1 ∙ sym size; honest = λ h. absurd (cc) }, inl (ones_finished n, ones_none n ∙ ap err_of (sym is)))
    any_found (Err e) n size other (inr late) = (file, read, inr (since e.0 (failed e.1) late))

    by_size : (r : Result (Found D) (Fault × D)) (n : ℕ) → (view old).size ≡ n → (view old).size ≢ 0 → (view old).is_honest ≡ false → Shape r → Decided r
    by_size r zero size some other shape = absurd (some size)
    by_size r (suc n) size some other shape = any_found r n size other shape

    by_honesty : (r : Result (Found D) (Fault × D)) (b : Bool) → (view old).is_honest ≡ b → (view old).size ≢ 0 → Shape r → (IsTrue (view old).is_honest → Exact (view old).seen r) → Decided r
    by_honesty r true honest some shape exact = honest_found r honest shape (exact honest)
    by_honesty r false honest some shape exact = by_size r (view old).size refl some honest shape

  exact_before : (r : Result (Found D) (Fault × D)) → (IsTrue (view mid).is_honest → Exact (view mid).seen r) → IsTrue (view old).is_honest → Exact (view old).seen r
  exact_before r exact honest = subst (λ (bytes : Bytes). Exact bytes r) (same honest) (exact (subst IsTrue (sym kept.honest) honest))

  pub decided : (fault : Fault) (r : Result (Found D) (Fault × D)) → (view old).size ≢ 0 → (store_of_disk file ≡ Err fault) ⊎ IsLate (failed old) (failed mid) fault → (fault ≢ Device → failed mid ≡ failed old)
      → Cases fault r → (IsTrue (view mid).is_honest → fault ≡ NotAStore → Exact (view mid).seen r) → Decided r
  decided fault r some reported counted (inl (other, is)) exact =
      (file, read, subst (IsFound failed file (failed old)) (sym is) (⊎_elim (λ here. inl (fault_finished file fault here other, here)) (λ late. inr late) reported))
  decided fault r some reported counted (inr (none, shape)) exact =
      let here = not_late (failed old) (failed mid) (store_of_disk file) (subst (λ (f : Fault). (store_of_disk file ≡ Err f) ⊎ IsLate (failed old) (failed mid) f) none reported) in
      by_honesty (counted (λ is. cc)) here r (view old).is_honest refl some shape (exact_before r (λ honest. exact honest none))

  -- a store is found only if there is one
  pub none_stored : (fault : Fault) (r : Result (Found D) (Fault × D)) (P : State D → Type 0) → Cases fault r → IfOk r (IfStoreFound P)
  none_stored fault r P (inl (other, is)) = subst (λ (q : Result (Found D) (Fault × D)). IfOk q (IfStoreFound P)) (sym is) tt
  none_stored fault (Ok f) P (inr (none, is)) = subst (IfStoreFound P) (sym is) tt
  none_stored fault (Err e) P (inr (none, is)) = tt

  pub kept_found : (r : Result (Found D) (Fault × D)) → IfOk r (λ f. Kept (view mid) (view (disk_found f))) → IfOk r (λ f. Kept (view old) (view (disk_found f)))
  kept_found (Ok f) last = kept_then (view old) (view mid) (view (disk_found f)) kept last
  kept_found (Err e) last = tt

-- ---- the store that was found

pub stored_in : {D : Type 0} (file : Bytes) (f : Found D) (x : State D) → f ≡ found.Store x → IsFoundIn file f → (is_unfinished file ≡ false) × (store_of_disk file ≡ Ok (x.settings, x.store))
stored_in file f x is here = let stored = subst (IsFoundIn file) is here in (store_finished file (x.settings, x.store) stored, stored)

pub nothing_stored : {D : Type 0} (file : Bytes) (f : Found D) (disk : D) → f ≡ found.Nothing disk → IsFoundIn file f → is_unfinished file ≡ true
nothing_stored file f disk is here = subst (IsFoundIn file) is here

pub stored_if : {D : Type 0} (P : State D → Type 0) (f : Found D) (x : State D) → f ≡ found.Store x → IfStoreFound P f → P x
stored_if P f x is here = subst (IfStoreFound P) is here

pub honest_nothing : {D : Type 0} (view : D → View) (v : View) (f : Found D) (disk : D) → f ≡ found.Nothing disk → Kept v (view (disk_found f)) → IsTrue v.is_honest → IsTrue (view disk).is_honest
honest_nothing {D = D} view v f disk is kept honest = subst (λ (g : Found D). IsTrue (view (disk_found g)).is_honest) is (subst IsTrue (sym kept.honest) honest)

-- ---- why there is none

-- if a call of the disk failed, there is a reason
abbrev pub IsReported : Fault → Option Error → OpenFault → Type 0
IsReported fault reason reported = ((fault ≡ Device) × MatchOption reason (reported ≡ open_fault.Store fault) (λ r. reported ≡ open_fault.File r)) ⊎ ((fault ≢ Device) × (reported ≡ open_fault.Store fault))

-- the bytes of the file have the fault
pub of_bytes : (file : Bytes) (fault : Fault) (reason : Option Error) (reported : OpenFault) → IsFaultIn file fault → IsReported fault reason reported → IsFaultOfFile file reported
of_bytes file fault reason reported is (inr (other, e)) = rw e (inr is)
of_bytes file fault reason reported is (inl (device, by)) = by_reason reason by where
  by_reason : (reason : Option Error) → MatchOption reason (reported ≡ open_fault.Store fault) (λ r. reported ≡ open_fault.File r) → IsFaultOfFile file reported
  by_reason None e = rw e (inr is)
  by_reason (Some r) e = rw e tt

-- allocation failed, or a call of the disk failed, which has a reason then
module _ (file : Bytes) (old new : ℕ) (fault : Fault) (reported : OpenFault) where
  late_reported : IsLate old new fault → (reason : Option Error) → (0 < new → IsSome reason) → MatchOption reason (reported ≡ open_fault.Store fault) (λ r. reported ≡ open_fault.File r) → IsFaultOfFile file reported
  late_reported late (Some r) has e = rw e tt
  late_reported (inl memory) None has e = rw e (inl memory)
  late_reported (inr (device, failed)) None has e =
      let counted : 0 < new = ⊎_elim (λ (grown : old < new). omega (arith, grown)) (λ (greatest : new ≡ 2 ^ 64 - 1). omega (arith, greatest)) failed in
      let some : IsSome {T = Error} None = has counted in
      absurd (cc)

  pub of_late : IsLate old new fault → (reason : Option Error) → (0 < new → IsSome reason) → IsReported fault reason reported → IsFaultOfFile file reported
  of_late late reason has (inl (device, by)) = late_reported late reason has by
  of_late (inl memory) reason has (inr (other, e)) = rw e (inl memory)
  of_late (inr (device, failed)) reason has (inr (other, e)) = absurd (other device)

-- ---- a new store

-- with settings that are in range, on a disk that is long enough
pub made_late : (s : Settings) (size : ℕ) (P : Type 0) (Q : Fault → Type 0) → first_bad_field s ≡ None → size ≡ disk_size s → MatchOption (create_refusal s size) P Q → P
made_late s size P Q good long made = subst (λ (o : Option Fault). MatchOption o P Q) (none_refused s size good (omega (arith, long))) made

pub on_zeros : (s : Settings) (v : View) (st : Store) (now : Bytes) → v.seen ≡ replicate (disk_size s) 0 → after_create s v.seen ≡ Ok (st, now) → now ≡ made_on_zeros s
on_zeros s v st now zeros is = after_create_is s v.seen st now is ∙ ap (disk_of_new s) zeros

pub if_ok_first : {X E : Type 0} (r : Result X E) (P Q : X → Type 0) → IfOk r (λ x. P x × Q x) → IfOk r P
if_ok_first (Ok x) P Q both = both.0
if_ok_first (Err e) P Q both = tt

pub if_ok_second : {X E : Type 0} (r : Result X E) (P Q : X → Type 0) → IfOk r (λ x. P x × Q x) → IfOk r Q
if_ok_second (Ok x) P Q both = both.1
if_ok_second (Err e) P Q both = tt

pub of_new : {D : Type 0} (s : Settings) (file : Bytes) (r : Result (State D) OpenFault) → is_unfinished file ≡ true → IfOk r (IsNewStore s) → IfErr r (λ fault. (file : Bytes) → IsFaultOfFile file fault)
    → MatchResult r (IsStoreOfFile s file) (IsFaultOfFile file)
of_new s file (Ok x) unfinished made refused = inl (unfinished, made)
of_new s file (Err e) unfinished made refused = refused file

-- ---- the reported fault

-- a setting is out of range
pub field_reported : {X U : Type 0} (o : Option Field) (r : Result U Fault) (u : U) (fault : Fault) (reported : Result X OpenFault) (P : Type 0) → MatchOption o (r ≡ Ok u) (λ field. r ≡ Err (BadSettings field)) → r ≡ Err fault
    → reported ≡ Err (open_fault.Store fault) → MatchOption o P (λ field. reported ≡ Err (open_fault.Store (BadSettings field)))
field_reported None r u fault reported P own was is = absurd (cc)
field_reported (Some field) r u fault reported P own was is =
    let same : fault ≡ BadSettings field = cc in
    cc

-- the system refused a call
pub of_system : (file : Bytes) (fault : OpenFault) (reason : Error) → (fault ≡ open_fault.Locked) ⊎ (fault ≡ open_fault.File reason) → IsFaultOfFile file fault
of_system file fault reason (inl is) = rw is tt
of_system file fault reason (inr is) = rw is tt
