-- The result of creating a store.
use Rattle.std.specs.Prelude.{◌≡◌, ℕ, ◌<◌, ◌≤◌, nat_lt, IsTrue, Bool, true, false, if◌then◌else◌, List, length, replicate, Option, Some, None, Result, Ok, Err, MatchOption}
use Rattle.std.specs.Option.{option_or}
use Rattle.std.proofs.Common.{refl, sym, ap, ◌∙◌, subst, arith}
use Rattle.std.proofs.lemmas.Bool.{ltb-false, le-ltb, lt-ltb}
use Rattle.std.proofs.Math.Nat.{mul-le-mul}
use Rattle.std.proofs.lemmas.List.{length-replicate}
use Rattle.keys.specs.Limits.{first_bad_field}
use Rattle.keys.specs.declared.fault.Fault.{Fault}
use Rattle.keys.specs.declared.fault.Fault.TheVariants.{BadSettings, DiskTooSmall}
use Rattle.keys.specs.declared.settings.Field.{Field}
use Rattle.keys.specs.declared.settings.Settings.{Settings}
use Rattle.keys.specs.declared.version.Version.{Version}
use Rattle.mapping.specs.Tree.{Store}
use Rattle.mapping.specs.TreeInMemory.{TreeInMemory, new_in_memory, tree_of}
use Rattle.flush_log.specs.AfterFlush.{slot_of, store_after}
use Rattle.flush_log.specs.Disk.{View, Lawful}
use Rattle.flush_log.specs.NewStore.{first_slot, new_bytes, disk_of_new}
use Rattle.flush_log.specs.Segments.{HasSegments, disk_size}
use Rattle.flush_log.specs.Slot.{Slot}
use Rattle.flush_log.specs.declared.slot.LogEnds.{LogEnds}
use Rattle.flush_log.proofs.FitLemmas.{are_sized}
use Rattle.recovery.specs.InStep.{IsInStep, IsStoreOf}
use Rattle.recovery.specs.StoreOfDisk.{first_store, store_of_disk}
use Rattle.engine.specs.Late.{create_refusal, field_fault, after_create, made_unless}
use Rattle.engine.specs.State.{store_in}
use Rattle.engine.proofs.SoundStores.{IsSoundStore}

-- a store that is created is not refused
pub not_refused : {X U : Type 0} (why : X → Fault) (o : Option X) (r : Result U Fault) (u : U) (P : Type 0) → MatchOption o P (λ x. r ≡ Err (why x)) → r ≡ Ok u → o ≡ None
not_refused why None r u P h e = refl
not_refused why (Some fault) r u P h e = absurd (cc)

-- the fault of making a store is returned with its disk
pub refused_with : (U : Type 0) (o : Option Fault) (P : Type 0) (fault : Fault) → MatchOption o P (λ f. (let r : Result U Fault = Err fault in r) ≡ Err f) → MatchOption o P (λ f. (true ≡ true) × (fault ≡ f))
refused_with U None P fault given = given
refused_with U (Some f) P fault given = (refl, (let same : fault ≡ f = cc in same))

none_by : (o : Option Field) (b : Bool) → option_or (field_fault o) (if b then Some DiskTooSmall else None) ≡ None → (o ≡ None) × (b ≡ false)
none_by None true e = absurd (cc)
none_by None false e = (refl, refl)
none_by (Some f) b e = absurd (cc)

pub fits : (s : Settings) (size : ℕ) → create_refusal s size ≡ None → (first_bad_field s ≡ None) × (disk_size s ≤ size)
fits s size e = let parts = none_by (first_bad_field s) (nat_lt size (disk_size s)) e in (parts.0, ltb-false size (disk_size s) parts.1)

-- why no store is created: its settings have a bad field, of which the first is reported
refused_by : {X U : Type 0} (o : Option Field) (rest : Option Fault) (u : U) (r : Result U Fault) (fault : Fault) (result : Result X Fault) (P : Type 0) → MatchOption o (r ≡ Ok u) (λ field. r ≡ Err (BadSettings field)) → r ≡ Err fault → result ≡ Err fault
    → MatchOption (option_or (field_fault o) rest) P (λ f. result ≡ Err f)
refused_by None rest u r fault result P given was reported = absurd (cc)
refused_by (Some field) rest u r fault result P given was reported =
    let same : fault ≡ BadSettings field = cc in
    cc

pub refused_by_field : {X U : Type 0} (s : Settings) (size : ℕ) (u : U) (r : Result U Fault) (fault : Fault) (result : Result X Fault) (P : Type 0) → MatchOption (first_bad_field s) (r ≡ Ok u) (λ field. r ≡ Err (BadSettings field)) → r ≡ Err fault
    → result ≡ Err fault → MatchOption (create_refusal s size) P (λ f. result ≡ Err f)
refused_by_field s size u r fault result P given was reported = refused_by (first_bad_field s) (if nat_lt size (disk_size s) then Some DiskTooSmall else None) u r fault result P given was reported

by_size : (s : Settings) (size : ℕ) (b : Bool) → first_bad_field s ≡ None → nat_lt size (disk_size s) ≡ b → create_refusal s size ≡ (if b then Some DiskTooSmall else None)
by_size s size b good is =
    ap (λ (o : Option Field). option_or (field_fault o) (if nat_lt size (disk_size s) then Some DiskTooSmall else None)) good
    ∙ ap (λ (t : Bool). (let o : Option Fault = if t then Some DiskTooSmall else None in o)) is

-- otherwise the size of its disk
pub too_small : (s : Settings) (size : ℕ) → first_bad_field s ≡ None → size < disk_size s → create_refusal s size ≡ Some DiskTooSmall
too_small s size good less = by_size s size true good (lt-ltb size (disk_size s) less)

-- otherwise it is not refused
pub none_refused : (s : Settings) (size : ℕ) → first_bad_field s ≡ None → disk_size s ≤ size → create_refusal s size ≡ None
none_refused s size good room = by_size s size false good (le-ltb size (disk_size s) room)

-- so a disk has room for the bytes of a new store
pub new-fits : (s : Settings) (bytes : List ℕ) (len small size : ℕ) → first_bad_field s ≡ None → bytes ≡ new_bytes s → small ≤ len → len ≡ size → small ≡ disk_size s → length bytes ≤ size
new-fits s bytes len small size good is room whole least =
    let sized = are_sized s good in
    let product = mul-le-mul sized.least_count sized.least_size in
    let long : length bytes ≡ 545 = rw is refl in
    omega (arith, product, long, room, whole, least)

-- the slot with the ends and the version of a log
abbrev pub slot_with : LogEnds → ℕ → ℕ → Version → Slot
slot_with log root height version = record { sequence = log.sequence; head = log.head; tail = log.tail; root = root; height = height; version = version }

-- the slot of the store in memory
pub slot-in : (tree : TreeInMemory) (log : LogEnds) (root height : ℕ) (v w : Version) → root ≡ tree.root → height ≡ tree.height → v ≡ w → slot_of (store_in tree log w) ≡ slot_with log root height v
slot-in tree log root height v w r h is =
    ap (λ (n : ℕ). slot_with log n tree.height w) (sym r) ∙ ap (λ (n : ℕ). slot_with log root n w) (sym h) ∙ ap (λ (x : Version). slot_with log root height x) (sym is)

-- the store of a slot, as its log is kept
pub opened-is : (tree : TreeInMemory) (slot : Slot) (log : LogEnds) (root height : ℕ) (version : Version) → slot_with log root height version ≡ slot → store_in tree log version ≡ store_after (tree_of tree) slot
opened-is tree slot log root height version same = ap (λ (t : Slot). store_after (tree_of tree) t) same

-- a new tree with the log of the first slot is the first store
pub first-is : (tree : TreeInMemory) (slot : Slot) (log : LogEnds) (root height : ℕ) (version : Version) → tree ≡ new_in_memory → slot ≡ first_slot → slot_with log root height version ≡ slot → store_in tree log version ≡ first_store
first-is tree slot log root height version new first same =
    opened-is tree slot log root height version same
    ∙ ap (λ (t : Slot). store_after (tree_of tree) t) first
    ∙ ap (λ (t : TreeInMemory). store_after (tree_of t) first_slot) new

-- the view of the disk may be a different one afterwards
module _ {D : Type 0} (view : D → View) (s : Settings) (tree : TreeInMemory) (log : LogEnds) (version : Version) (old : View) (new : D) (is : store_in tree log version ≡ first_store) (free : create_refusal s old.size ≡ None)
    (law : IsTrue old.is_honest → Lawful old) (bytes : IsTrue old.is_honest → (view new).seen ≡ disk_of_new s old.seen) where
  pub made-bytes : IsTrue old.is_honest → after_create s old.seen ≡ Ok (store_in tree log version, (view new).seen)
  made-bytes honest =
      let none : create_refusal s (length old.seen) ≡ None = ap (λ (n : ℕ). create_refusal s n) (law honest).whole ∙ free in
      ap (λ (o : Option Fault). made_unless o s old.seen) none
      ∙ ap (λ (st : Store). answer st (disk_of_new s old.seen)) (sym is)
      ∙ ap (λ (file : List ℕ). answer (store_in tree log version) file) (sym (bytes honest))
    where
      answer : Store → List ℕ → Result (Store × List ℕ) Fault
      answer st file = Ok (st, file)

  pub made-sound : tree ≡ new_in_memory → (view new).is_honest ≡ old.is_honest → (view new).size ≡ old.size
      → ((s : Settings) (disk : List ℕ) → first_bad_field s ≡ None → HasSegments s disk → (store_of_disk (disk_of_new s disk) ≡ Ok (s, first_store)) × IsStoreOf s first_store (disk_of_new s disk))
      → IsSoundStore view s tree log version new false
  made-sound fresh honest_is size_is stands =
      let (good, room) = fits s old.size free in
      let zeros : List ℕ = replicate (disk_size s) 0 in
      let any = stands s zeros good (rw (length-replicate {A = ℕ} (disk_size s) 0) (Prim.omega arith)) in
      record {
        home = rw fresh (refl, tt);
        sound = record {
          is = rw is any.1.is;
          room = subst (λ (n : ℕ). disk_size s ≤ n) (sym size_is) room;
          step = λ _ still. (
              let honest = subst IsTrue honest_is still in
              let long : HasSegments s old.seen = subst (λ (n : ℕ). disk_size s ≤ n) (sym (law honest).whole) room in
              let stood = stands s old.seen good long in
              subst (λ (st : Store). IsInStep s st (view new).seen) (sym is) (subst (λ (file : List ℕ). IsInStep s first_store file) (sym (bytes honest)) stood.1.step));
        };
      }
