-- A store on a disk that hides it: the consequences for the disk below, and the outcomes of a crash there.
use Rattle.std.specs.Prelude.{◌≡◌, ℕ, ◌≤◌, IsTrue, Bool, [], ◌∷◌, length, get_or, Option, Some, None, Result, Ok, Err, MatchResult, IfOk, IfErr}
use Rattle.std.proofs.Common.{refl, sym, ap, ◌∙◌, subst, inl, inr, arith}
use Rattle.std.proofs.lemmas.Bool.{cases_eq}
use Rattle.keys.specs.Bytes.{Bytes}
use Rattle.keys.specs.declared.fault.Fault.{Fault}
use Rattle.keys.specs.declared.fault.Fault.TheVariants.{NotAStore}
use Rattle.keys.specs.declared.settings.Settings.{Settings}
use Rattle.keys.specs.declared.version.Version.{Version}
use Rattle.mapping.specs.Tree.{Store}
use Rattle.mapping.specs.TreeInMemory.{TreeInMemory}
use Rattle.flush_log.specs.Disk.{View, Lawful, IsSynced, Kept, LeavesOnly}
use Rattle.flush_log.specs.NewStore.{disk_of_new}
use Rattle.flush_log.specs.Segments.{disk_size}
use Rattle.flush_log.specs.declared.slot.LogEnds.{LogEnds}
use Rattle.flush_log.proofs.ViewLemmas.{only_then, weaker}
use Rattle.recovery.specs.InStep.{IsInStep}
use Rattle.recovery.specs.StoreOfDisk.{and_then, first_store, store_of_disk, store_under}
use Rattle.engine.specs.Hidden.{exchanged_byte, exchanged, exchanged_view, HoldsNoStore, IsLeftHiding, IsLeftRevealing, revealed}
use Rattle.engine.specs.Late.{IsLeftCreating, after_create, create_refusal, made_unless}
use Rattle.engine.specs.State.{store_in}
use Rattle.engine.proofs.SoundStores.{IsSoundStore}
use Rattle.engine.proofs.HiddenLemmas.{first_other, revealed_is}

-- ---- bytes

pub no_store : (c : Bytes) → HoldsNoStore c → store_of_disk c ≡ Err NotAStore
no_store c none = ap (λ (r : Result Settings Fault). and_then r (λ s. store_under s c)) none

-- bytes that encode a store begin with the first byte of one
pub store_first : (c : Bytes) (x : Settings × Store) → store_of_disk c ≡ Ok x → get_or c 0 0 ≡ 66
store_first c x is = elim (cases_eq (get_or c 0 0) 66) [
  | inl same ↦ same
  | inr other ↦ absurd (let none = no_store c (first_other c other) in cc)
]

-- if the view has that byte, the bytes on the disk below encode no store
pub below_first : (c : Bytes) → get_or (exchanged c) 0 0 ≡ 66 → HoldsNoStore c
below_first [] first = absurd (let none : 0 ≡ 66 = first in omega (arith, none))
below_first (b ∷ c) first = first_other (b ∷ c) (λ is. absurd (let none : 0 ≡ 66 = ap exchanged_byte (sym is) ∙ first in omega (arith, none)))

pub below_store : (c : Bytes) (x : Settings × Store) → store_of_disk (exchanged c) ≡ Ok x → HoldsNoStore c
below_store c x is = below_first c (store_first (exchanged c) x is)

-- the view is what is revealed
pub shown_is : (c : Bytes) (x : Settings × Store) → store_of_disk (exchanged c) ≡ Ok x → revealed c ≡ exchanged c
shown_is c x is = revealed_is c (exchanged c) refl (store_first (exchanged c) x is)

pub new_first : (s : Settings) (disk : Bytes) → get_or (disk_of_new s disk) 0 0 ≡ 66
new_first s disk = refl

-- ---- crashes

-- without a call a synced disk is unchanged
pub none_leaves : (v : View) (P : Bytes → Type 0) → Lawful v → IsSynced v → P v.seen → LeavesOnly v v P
none_leaves v P law is_synced here = record {
  later = omega arith;
  each = λ c left. subst P (sym (is_synced.only c (law.only_now c left))) here;
  before = λ t c le left. inl left;
}

-- ---- a hidden store that is revealed

module _ {D : Type 0} (view : D → View) (s : Settings) (tree : TreeInMemory) (log : LogEnds) (version : Version) (new : D) (has_failed : Bool) where
  pub revealed-sound : {H : Type 0} (shown : H → View) (hidden : H) (below : View) → IsSoundStore shown s tree log version hidden has_failed
      → (shown hidden).is_honest ≡ below.is_honest → (shown hidden).size ≡ below.size → (shown hidden).seen ≡ exchanged below.seen
      → (view new).is_honest ≡ below.is_honest → (view new).size ≡ below.size → (IsTrue below.is_honest → (view new).seen ≡ revealed below.seen)
      → IsSoundStore view s tree log version new has_failed
  revealed-sound shown hidden below sound h_honest h_size h_seen honest_is size_is bytes = record {
    home = sound.home;
    sound = record {
      is = sound.sound.is;
      room = subst (λ (n : ℕ). disk_size s ≤ n) (h_size ∙ sym size_is) sound.sound.room;
      step = λ fine still. (
          let honest : IsTrue below.is_honest = subst IsTrue honest_is still in
          let step = subst (λ (file : Bytes). IsInStep s (store_in tree log version) file) h_seen (sound.sound.step fine (subst IsTrue (sym h_honest) honest)) in
          subst (λ (file : Bytes). IsInStep s (store_in tree log version) file) (sym (bytes honest ∙ shown_is below.seen (s, step.0) step.1)) step);
    };
  }

-- ---- a new store

created : (s : Settings) (file below c : Bytes) → exchanged below ≡ disk_of_new s file → IsLeftRevealing below c → IsLeftCreating s file c
created s file below c same (inl none) = inr (inl (no_store c none))
created s file below c same (inr is) = inr (inr (is ∙ revealed_is below (disk_of_new s file) same (new_first s file)))

hiding : (s : Settings) (file c : Bytes) → IsLeftHiding file c → IsLeftCreating s file c
hiding s file c (inl same) = inl same
hiding s file c (inr none) = inr (inl (no_store c none))

pub created_leaves : (old mid new : View) (s : Settings) → exchanged mid.seen ≡ disk_of_new s old.seen → LeavesOnly old mid (IsLeftHiding old.seen) → LeavesOnly mid new (IsLeftRevealing mid.seen) → LeavesOnly old new (IsLeftCreating s old.seen)
created_leaves old mid new s same first second =
    only_then old mid new (IsLeftCreating s old.seen)
    (weaker old mid (IsLeftHiding old.seen) (IsLeftCreating s old.seen) (λ c left. hiding s old.seen c left) first)
    (weaker mid new (IsLeftRevealing mid.seen) (IsLeftCreating s old.seen) (λ c left. created s old.seen mid.seen c same left) second)

pub hiding_leaves : (old new : View) (s : Settings) → LeavesOnly old new (IsLeftHiding old.seen) → LeavesOnly old new (IsLeftCreating s old.seen)
hiding_leaves old new s run = weaker old new (IsLeftHiding old.seen) (IsLeftCreating s old.seen) (λ c left. hiding s old.seen c left) run

ok_same : {X E : Type 0} (x y : X) → (let r : Result X E = Ok x in r) ≡ Ok y → x ≡ y
ok_same x y h = cc

-- the disk after creating a store, by its result
pub after_create_is : (s : Settings) (file : Bytes) (st : Store) (now : Bytes) → after_create s file ≡ Ok (st, now) → now ≡ disk_of_new s file
after_create_is s file st now is = by (create_refusal s (length file)) is
  where
    by : (o : Option Fault) → made_unless o s file ≡ Ok (st, now) → now ≡ disk_of_new s file
    by None e = sym (ap (λ (p : Store × Bytes). p.1) (ok_same {E = Fault} (first_store, disk_of_new s file) (st, now) e))
    by (Some fault) e = absurd (cc)

-- ---- results

pub if_ok : {X Y : Type 0} (r : Result X Y) (P Q R : X → Type 0) → ((x : X) → P x → Q x → R x) → IfOk r P → IfOk r Q → IfOk r R
if_ok (Ok x) P Q R so p q = so x p q
if_ok (Err e) P Q R so p q = tt

pub if_err : {X Y : Type 0} (r : Result X Y) (P Q : Y → Type 0) → ((e : Y) → P e → Q e) → IfErr r P → IfErr r Q
if_err (Ok x) P Q so p = tt
if_err (Err e) P Q so p = so e p

pub by_result : {X Y : Type 0} (r : Result X Y) (P Q : X → Type 0) (R S : Y → Type 0) → ((x : X) → P x → Q x) → ((e : Y) → R e → S e) → MatchResult r P R → MatchResult r Q S
by_result (Ok x) P Q R S ok err h = ok x h
by_result (Err e) P Q R S ok err h = err e h

pub kept_below : (a b : View) → Kept (exchanged_view a) (exchanged_view b) → Kept a b
kept_below a b kept = record { honest = kept.honest; size = kept.size }
