-- The creation of a store, in terms of the claim.
use Rattle.std.specs.Prelude.{◌≡◌, ◌≢◌, ℕ, ◌≤◌, nat_lt, if◌then◌else◌, Bool, true, false, [], length, Option, Some, None, Result, Ok, Err, IfOk, IsErr, IfErr, MatchOption, MatchResult}
use Rattle.std.specs.Option.{option_or}
use Rattle.std.proofs.Common.{refl, sym, ap, ◌∙◌, subst, inl, inr}
use Rattle.keys.specs.Bytes.{Bytes, Pairs}
use Rattle.keys.specs.Limits.{first_bad_field}
use Rattle.keys.specs.declared.fault.Fault.{Fault}
use Rattle.keys.specs.declared.fault.Fault.TheVariants.{Device, DiskTooSmall}
use Rattle.keys.specs.declared.settings.Field.{Field}
use Rattle.keys.specs.declared.settings.Settings.{Settings}
use Rattle.mapping.specs.Levels.{contents}
use Rattle.mapping.specs.Tree.{Store}
use Rattle.flush_log.specs.Disk.{View, Lawful, IsSynced, Kept, LeavesOnly}
use Rattle.flush_log.specs.NewStore.{disk_of_new}
use Rattle.flush_log.specs.Segments.{HasSegments, disk_size}
use Rattle.flush_log.proofs.SameLemmas.{leaves_itself}
use Rattle.flush_log.proofs.ViewLemmas.{weaker}
use Rattle.recovery.specs.InStep.{IsStoreOf}
use Rattle.recovery.specs.StoreOfDisk.{store_of_disk, first_store}
use Rattle.engine.specs.Claim.{Held, IsLeftByCreate, disk_in}
use Rattle.engine.specs.Late.{IsLate, IsLeftCreating, after_create, create_refusal, field_fault}
use Rattle.engine.specs.State.{State, IsSound}
use Rattle.engine.specs.StoreClaim.{created_to, held_in, if_ok, recovered_from}
use Rattle.engine.proofs.CreateLemmas.{fits}
use Rattle.engine.proofs.HiddenStores.{after_create_is}

-- the consequences of a law of `recovery` for a new disk
abbrev pub StandsNew : Type 0
StandsNew = (s : Settings) (disk : Bytes) → first_bad_field s ≡ None → HasSegments s disk → (store_of_disk (disk_of_new s disk) ≡ Ok (s, first_store)) × IsStoreOf s first_store (disk_of_new s disk)

-- the settings under which a store is created, and no pairs
abbrev new_under : Settings → Held
new_under s = (s, [])

module _ (stands : StandsNew) (s : Settings) where
  new_recovered : (file : Bytes) → contents first_store.tree ≡ [] → first_bad_field s ≡ None → disk_size s ≤ length file → recovered_from (disk_of_new s file) ≡ Some (new_under s)
  new_recovered file empty good room = ap held_in (stands s file good room).0 ∙ ap (λ (m : Pairs Bytes). (let h : Option Held = Some (s, m) in h)) empty

  left : (file c : Bytes) → contents first_store.tree ≡ [] → first_bad_field s ≡ None → disk_size s ≤ length file → IsLeftCreating s file c → IsLeftByCreate recovered_from file (new_under s) c
  left file c empty good room (inl same) = inl same
  left file c empty good room (inr (inl none)) = inr (inl (ap held_in none))
  left file c empty good room (inr (inr new)) = inr (inr (ap recovered_from new ∙ new_recovered file empty good room))

-- before it is created, a store fails with no `Device`
no_device : (o : Option Field) (b : Bool) (fault : Fault) → option_or (field_fault o) (if b then Some DiskTooSmall else None) ≡ Some fault → fault ≢ Device
no_device None true fault is device = cc
no_device None false fault is device = cc
no_device (Some field) b fault is device = cc

not_by_device : (s : Settings) (size : ℕ) (fault : Fault) → create_refusal s size ≡ Some fault → fault ≢ Device
not_by_device s size fault is = no_device (first_bad_field s) (nat_lt size (disk_size s)) fault is

module _ {D : Type 0} (view : D → View) (failures : D → ℕ) (stands : StandsNew) (s : Settings) (disk : D) (lawful : Lawful (view disk)) where
  abbrev seen : Bytes
  seen = (view disk).seen

  one : (x : State D) → x.settings ≡ s → x.store ≡ first_store → contents x.store.tree ≡ [] → Kept (view disk) (view x.disk) → IsSound view x
      → after_create s seen ≡ Ok (x.store, (view x.disk).seen) → recovered_from (view x.disk).seen ≡ Some (new_under s)
  one x settings first empty kept sound made =
      let good : first_bad_field s ≡ None = subst (λ (t : Settings). first_bad_field t ≡ None) settings sound.is.good in
      let room : disk_size s ≤ (view x.disk).size = subst (λ (t : Settings). disk_size t ≤ (view x.disk).size) settings sound.room in
      let has : disk_size s ≤ length seen = subst (λ (n : ℕ). disk_size s ≤ n) (kept.size ∙ sym lawful.whole) room in
      let none : contents first_store.tree ≡ [] = ap (λ (st : Store). contents st.tree) (sym first) ∙ empty in
      ap recovered_from (after_create_is s seen x.store (view x.disk).seen made) ∙ new_recovered stands s seen none good has

  -- it is synced, and encodes the new store
  pub create-durable : (r : Result (State D) (Fault × D))
      → IfOk r (λ x. (x.settings ≡ s) × (x.store ≡ first_store) × (x.has_failed ≡ false))
      → IfOk r (λ x. contents x.store.tree ≡ [])
      → IfOk r (λ x. Kept (view disk) (view x.disk) × (failures x.disk ≡ failures disk))
      → IfOk r (λ x. IsSound view x)
      → IfOk r (λ x. (after_create s seen ≡ Ok (x.store, (view x.disk).seen)) × IsSynced (view x.disk))
      → IfOk r (λ x. (recovered_from (view x.disk).seen ≡ Some (new_under s)) × IsSynced (view x.disk))
  create-durable (Ok x) made empty kept sound bytes = (one x made.0 made.1 empty kept.0 sound bytes.0, bytes.1)
  create-durable (Err e) made empty kept sound bytes = tt

  -- the outcomes of a crash
  abbrev Left : Bytes → Type 0
  Left = IsLeftByCreate recovered_from seen (new_under s)

  weaker_left : (v : View) → create_refusal s (view disk).size ≡ None → contents first_store.tree ≡ [] → LeavesOnly (view disk) v (IsLeftCreating s seen) → LeavesOnly (view disk) v Left
  weaker_left v free empty run =
      let (good, room) = fits s (view disk).size free in
      let has : disk_size s ≤ length seen = subst (λ (n : ℕ). disk_size s ≤ n) (sym lawful.whole) room in
      weaker (view disk) v _ Left (λ c. left stands s seen c empty good has) run

  crash_by : (o : Option Fault) → create_refusal s (view disk).size ≡ o → contents first_store.tree ≡ [] → IsSynced (view disk) → (r : Result (State D) (Fault × D))
      → MatchOption o (IfErr r (λ e. IsLate (failures disk) (failures e.1) e.0)) (λ fault. IsErr r × IfErr r (λ e. e.0 ≡ fault))
      → IfErr r (λ e. Kept (view disk) (view e.1) × (e.0 ≢ Device → e.1 ≡ disk))
      → MatchResult r (λ x. LeavesOnly (view disk) (view x.disk) (IsLeftCreating s seen)) (λ e. LeavesOnly (view disk) (view e.1) (IsLeftCreating s seen))
      → LeavesOnly (view disk) (view (disk_in (λ (x : State D). x.disk) r)) Left
  crash_by None free empty is_synced (Ok x) refused back run = weaker_left (view x.disk) free empty run
  crash_by None free empty is_synced (Err e) refused back run = weaker_left (view e.1) free empty run
  crash_by (Some fault) is empty is_synced (Ok x) refused back run = (let no = refused.0 in absurd (cc))
  crash_by (Some fault) is empty is_synced (Err e) refused back run =
      let same : e.1 ≡ disk = back.1 (λ device. not_by_device s (view disk).size fault is (sym refused.1 ∙ device)) in
      subst (λ (d : D). LeavesOnly (view disk) (view d) Left) (sym same) (leaves_itself (view disk) Left lawful is_synced (inl refl))

  pub create-crash : contents first_store.tree ≡ [] → IsSynced (view disk) → (r : Result (State D) (Fault × D))
      → MatchOption (create_refusal s (view disk).size) (IfErr r (λ e. IsLate (failures disk) (failures e.1) e.0)) (λ fault. IsErr r × IfErr r (λ e. e.0 ≡ fault))
      → IfErr r (λ e. Kept (view disk) (view e.1) × (e.0 ≢ Device → e.1 ≡ disk))
      → MatchResult r (λ x. LeavesOnly (view disk) (view x.disk) (IsLeftCreating s seen)) (λ e. LeavesOnly (view disk) (view e.1) (IsLeftCreating s seen))
      → LeavesOnly (view disk) (view (disk_in (λ (x : State D). x.disk) r)) Left
  create-crash = crash_by (create_refusal s (view disk).size) refl

  -- its state and the bytes
  pub create-state : (r : Result (State D) (Fault × D))
      → IfOk r (λ x. (after_create s seen ≡ Ok (x.store, (view x.disk).seen)) × IsSynced (view x.disk))
      → IfOk r (λ x. created_to s seen ≡ Some (x.store, (view x.disk).seen))
  create-state (Ok x) made = ap if_ok made.0
  create-state (Err e) made = tt
